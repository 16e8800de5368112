use Rattle.std.proofs.Common.{◌≡◌, ◌∙◌, arith}
use Rattle.pf_cdb.specs.Clauses.Listed.{held_places}
use Rattle.pf_cdb.proofs.ListLaws.{listed_lies, listed_pairs}
use Rattle.pf_cdb.proofs.listing.elements.Goals as goal

pub pair_at-requires : goal.pair_at-requires
pair_at-requires c =
    let places : c.as_slice-at-items.result.now ≡ held_places c.args.file.now = c.as_slice-at-items.ensures.value ∙ c.in_ok-places.ensures in
    let lies = listed_lies c.args.file.now c.as_slice-at-items.result.now c.loop-at.at-index c.requires places c.loop-at-test.true in lies.whole

pub returns : goal.returns
returns c =
    let places : c.as_slice-at-items.result.now ≡ held_places c.args.file.now = c.as_slice-at-items.ensures.value ∙ c.in_ok-places.ensures in
    c.loop-at.invariant ∙ listed_pairs c.args.file.now c.as_slice-at-items.result.now c.loop-at.at-index places (omega arith)
