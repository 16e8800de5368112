use Rattle.std.proofs.Common.{subst, sym, arith}
use Rattle.std.specs.List.{All, list_all}
use Rattle.pf_cdb.proofs.RepeatLaws.{all_at, fails_at, passes_all}
use Rattle.pf_cdb.specs.Clauses.Searching.{NamesRecord}
use Rattle.pf_cdb.specs.Held.{is_held}
use Rattle.pf_cdb.proofs.repeats.all_held.Goals as goal

pub are_held-requires-clause-named : goal.are_held-requires-clause-named
are_held-requires-clause-named c =
    subst (All (NamesRecord c.args.file.now)) (sym c.as_slice.ensures.value)
    (all_at (λ v. v.items) c.args.buckets.now c.bucket-item.result c.loop-bucket.bucket-index (All (NamesRecord c.args.file.now)) c.requires.named
    c.loop-bucket-test.true c.bucket-item.is)

pub returns-then-not-are_held : goal.returns-then-not-are_held
returns-then-not-are_held c =
    fails_at (λ v. v.items) c.args.buckets.now c.bucket-item.result c.loop-bucket.bucket-index (list_all (λ slot. is_held c.args.file.now slot.at))
    c.as_slice.result.now c.are_held.result c.loop-bucket-test.true c.bucket-item.is c.as_slice.ensures.value c.are_held.ensures c.if-not-are_held.true

pub returns : goal.returns
returns c =
    passes_all (λ v. v.items) (list_all (λ slot. is_held c.args.file.now slot.at)) c.args.buckets.now c.loop-bucket.bucket-index c.loop-bucket.invariant
    (omega arith)
