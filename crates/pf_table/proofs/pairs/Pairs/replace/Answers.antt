use Rattle.std.proofs.Common.{set, ap, ◌∙◌}
use Rattle.pf_table.proofs.KeptLaws.{index_low, kept_prefix, replaced, replaced_pairs}
use Rattle.pf_table.proofs.pairs.Pairs.replace.Goals as goal

pub place_at-previous-requires : goal.place_at-previous-requires
place_at-previous-requires c =
    rw c.as_slice.ensures.value (index_low c.self.inside.bytes.items c.args.key.now c.self.inside.places.items c.args.i (rw (← c.self.view_is) at c.requires))

pub invariant_of-self : goal.invariant_of-self
invariant_of-self c = kept_prefix c.self.inside.bytes.items _ _ c.self.inside.places.items c.self.inside.heads.items c.in_err-place.ensures.err c.self.invariant

pub index_mut-requires : goal.index_mut-requires
index_mut-requires c =
    rw c.self.inside.places.ok.0 (index_low c.self.inside.bytes.items c.args.key.now c.self.inside.places.items c.args.i (rw (← c.self.view_is) at c.requires))

pub invariant_of-self-2 : goal.invariant_of-self-2
invariant_of-self-2 c =
    replaced c.self.inside.bytes.items _ c.args.key.now c.args.value.now c.self.inside.places.items c.self.inside.heads.items c.place_at-previous.result
    c.in_ok-place.place c.args.i c.self.invariant (rw (← c.self.view_is) at c.requires)
    (record { new_is = c.in_ok-place.ensures.bytes; place_is = c.in_ok-place.ensures.place }) (rw c.as_slice.ensures.value at c.place_at-previous.ensures)

pub returns : goal.returns
returns c =
    replaced_pairs c.self.inside.bytes.items _ c.args.key.now c.args.value.now c.self.inside.places.items c.self.inside.heads.items
    c.in_ok-place.place c.args.i c.place_at-previous.result.previous c.self.invariant
    (record { new_is = c.in_ok-place.ensures.bytes; place_is = c.in_ok-place.ensures.place })
    ∙ ap (λ pairs. set pairs c.args.i (record { key = c.args.key.now; value = c.args.value.now })) c.self.view_is
