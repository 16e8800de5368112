use Rattle.std.proofs.Common.{◌∙◌, sym, ap, Some}
use Rattle.pf_listfile.specs.Items.{has_address}
use Rattle.pf_listfile.proofs.NetLaws.{has_here}
use Rattle.pf_listfile.proofs.file.has_address_at.Goals as goal

pub returns : goal.returns
returns c =
    c.has_address.ensures ∙ ap (λ item. has_address item.pattern (Some c.args.address.now)) (sym c.index-items-place.is)
    ∙ sym (has_here c.args.items.now c.args.address.now c.args.place c.index-items-place.result c.requires c.index-items-place.is)
