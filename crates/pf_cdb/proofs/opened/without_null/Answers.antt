use Rattle.std.proofs.Common.{nat_lt, length, ◌∙◌, sym, arith}
use Rattle.std.specs.Prelude.{◌-◌, ◌==◌, slice_index}
use Rattle.std.proofs.lemmas.Bool.{and_parts, ltb-true}
use Rattle.pf_cdb.specs.Asked.{ends_in_null, null}
use Rattle.pf_cdb.proofs.opened.without_null.Goals as goal

pub slice_bounds-result-count : goal.slice_bounds-result-count
unfolding ends_in_null
slice_bounds-result-count c =
    let text = c.args.text.now in
    let ends = and_parts (nat_lt 0 (length text)) (slice_index text (length text - 1) == null) (sym c.ends_in_null.ensures ∙ c.if-ends_in_null.true) in
    omega (arith, ltb-true 0 (length text) ends.0)
