-- What the parts of the code stand for. A word of the code's contracts.
use Rattle.pf_expand.specs.Forms as forms
use Rattle.pf_expand.specs.declared.form.Part.{Part}
use Rattle.pf_expand.specs.declared.form.Part.TheVariants.{Literal, Name, Choice}

-- its texts
abbrev pub part_meant : Part → forms.Part
part_meant (Literal bytes) = forms.Part.literal bytes.now
part_meant (Name name) = forms.Part.name name.now
part_meant (Choice name full empty) = forms.Part.choice name.now full.now empty.now
