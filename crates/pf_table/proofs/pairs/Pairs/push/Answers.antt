use Rattle.std.proofs.Common.{◌≡◌, ◌<◌, ◌%◌, length, ap, ◌∙◌, ◌++◌, ◌∷◌, []}
use Rattle.pf_table.proofs.KeptLaws.{kept_more, kept_prefix, pushed, pushed_pairs}
use Rattle.pf_table.specs.Clauses.Keeping.{bucket_of}
use Rattle.pf_table.proofs.pairs.Pairs.push.Goals as goal

pub invariant_of-self : goal.invariant_of-self
invariant_of-self c = kept_prefix c.self.inside.bytes.items _ _ c.self.inside.places.items c.self.inside.heads.items c.in_err-place.ensures.err c.self.invariant

pub invariant_of-self-in_err-push : goal.invariant_of-self-in_err-push
invariant_of-self-in_err-push c =
    rw (c.in_ok-place.ensures.bytes, c.in_err-push.ensures.items)
    (kept_more c.self.inside.bytes.items _ c.self.inside.places.items c.self.inside.heads.items c.self.invariant)

pub invariant_of-self-2 : goal.invariant_of-self-2
invariant_of-self-2 c =
    let buckets : c.len.result ≡ length c.self.inside.heads.items = c.len.ensures ∙ c.self.inside.heads.ok.0 in
    let within : c.bucket-bucket.result < length c.self.inside.heads.items = rw buckets at c.bucket-bucket.ensures.within in
    let is : c.bucket-bucket.result ≡ bucket_of (length c.self.inside.heads.items) c.args.key.now =
    c.bucket-bucket.ensures.is ∙ ap (λ n. c.args.hash % n) buckets ∙ ap (λ h. h % length c.self.inside.heads.items) c.requires.hashed in
    pushed c.self.inside.bytes.items _ c.args.key.now c.args.value.now c.self.inside.places.items _ c.self.inside.heads.items c.in_ok-place.place
    c.bucket-bucket.result c.index-previous.result.now c.len-2.result c.self.invariant (rw (← c.self.view_is) at c.requires.new)
    (record { new_is = c.in_ok-place.ensures.bytes; place_is = c.in_ok-place.ensures.place }) c.in_ok-push.ensures.items
    is within c.index-previous.ensures (c.len-2.ensures ∙ c.push.new.self.ok.0)

pub returns : goal.returns
returns c =
    pushed_pairs c.self.inside.bytes.items _ c.args.key.now c.args.value.now c.self.inside.places.items _ c.self.inside.heads.items c.in_ok-place.place
    c.index-previous.result.now c.self.invariant (record { new_is = c.in_ok-place.ensures.bytes; place_is = c.in_ok-place.ensures.place })
    c.in_ok-push.ensures.items
    ∙ ap (λ pairs. pairs ++ record { key = c.args.key.now; value = c.args.value.now } ∷ []) c.self.view_is
