-- What a meaning of slices stands for. A word of the code's contracts.
use Rattle.std.specs.Prelude.{ℕ, List}
use Rattle.std.specs.Borrow.{Bor}
use Rattle.pf_base.specs.Meanings.{Source}
use Rattle.pf_base.specs.declared.meaning.Meaning.{Meaning}
use Rattle.pf_base.specs.declared.meaning.Meaning.TheVariants.{Is, DomainOf}

-- its texts
abbrev pub meant : Meaning (Bor (List ℕ)) (Bor (List ℕ)) → Source
meant (Is bytes) = Is bytes.now
meant (DomainOf name) = DomainOf name.now
