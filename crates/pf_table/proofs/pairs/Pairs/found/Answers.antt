use Rattle.std.proofs.Common.{sym, ◌∙◌}
use Rattle.pf_table.proofs.IndexLaws.{found_none, found_some, index_below}
use Rattle.pf_table.proofs.pairs.Pairs.found.Goals as goal

pub at-requires : goal.at-requires
at-requires c = index_below c.args.self.now c.args.key.now c.in-Some.i (sym c.index.ensures ∙ c.in-Some.is)

pub returns-in-None : goal.returns-in-None
returns-in-None c = found_none c.args.self.now c.args.key.now (sym c.index.ensures ∙ c.in-None.is)

pub returns-in_ok-from_slice-in-Some : goal.returns-in_ok-from_slice-in-Some
returns-in_ok-from_slice-in-Some c =
    found_some c.args.self.now c.args.key.now c.in-Some.i _ c.in_ok-from_slice-in-Some.field-0 (sym c.index.ensures ∙ c.in-Some.is) c.at.ensures
    c.in_ok-from_slice-in-Some.ensures
