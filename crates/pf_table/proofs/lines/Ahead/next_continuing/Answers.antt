use Rattle.std.proofs.Common.{refl, sym, ◌∙◌}
use Rattle.pf_table.proofs.AheadLaws.{none_leading}
use Rattle.pf_table.proofs.lines.Ahead.next_continuing.Goals as goal

pub returns-in_err-continuing-clause-none : goal.returns-in_err-continuing-clause-none
returns-in_err-continuing-clause-none c =
    rw c.from_residual.ensures (none_leading c.args.self.now.leading (sym c.continuing.ensures ∙ c.in_err-continuing.was), refl)
