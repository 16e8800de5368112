use Rattle.std.proofs.Common.{◌%◌, ◌<◌, [], ◌∷◌, length, refl, arith}
use Rattle.std.proofs.lemmas.Nat.{mod_below}
use Rattle.std.proofs.lemmas.Slice.{pushed}
use Rattle.pf_cdb.proofs.BucketLaws.{with_slot_is}
use Rattle.pf_cdb.proofs.tables.add_slot.Goals as goal

pub returns : goal.returns
returns c =
    let below : c.args.slot.hash % 256 < 256 = mod_below c.args.slot.hash 256 (omega arith) in
    let low : c.args.slot.hash % 256 < length c.args.buckets.now.items = omega (arith, c.requires) in
    let at = rw c.table_of.ensures.table at c.index_mut.ensures.value in
    rw c.table_of.ensures.table (with_slot_is (λ v. v.items) c.args.buckets.now.items c.index_mut.result.now c.push.new.self c.args.slot low at
    (pushed (c.args.slot ∷ []) refl c.in_ok-push.was c.push.ensures.items))
