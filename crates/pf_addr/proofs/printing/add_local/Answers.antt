use Rattle.std.proofs.Common.{◌∙◌, sym}
use Rattle.pf_addr.proofs.PrintedLemmas.{bare_printed}
use Rattle.pf_addr.proofs.printing.add_local.Goals as goal

pub returns-then-means_atoms : goal.returns-then-means_atoms
returns-then-means_atoms c =
    let bare = bare_printed _ (sym c.means_nothing.ensures ∙ c.if-not-means_nothing.true) (sym c.means_atoms.ensures ∙ c.if-means_atoms.true) in
    rw bare c.add_content.ensures
