use Rattle.std.proofs.Common.{[], ◌∷◌, ◌++◌, length, ap, ◌∙◌, sym, arith}
use Rattle.pf_cdb.proofs.AddingLaws.{added, not_large, too_large}
use Rattle.pf_cdb.specs.Written.{written}
use Rattle.pf_cdb.proofs.writer.Writer.add.Goals as goal

pub returns-then-not-has_room-clause-exact : goal.returns-then-not-has_room-clause-exact
returns-then-not-has_room-clause-exact c = λ e.
    rw (sym c.self.view_is)
    (too_large c.self.inside.file c.self.inside.slots.items c.len-at.result c.len.result (record { key = c.args.key.now; value = c.args.value.now })
    c.self.invariant c.len-at.ensures (c.len.ensures ∙ c.self.inside.slots.ok.0) (c.has_room.ensures.no c.if-not-has_room.true))

pub returns-in_err-add_record-clause-large : goal.returns-in_err-add_record-clause-large
returns-in_err-add_record-clause-large c = λ over.
    let fits = not_large c.self.inside.file c.self.inside.slots.items c.len-at.result c.len.result (record { key = c.args.key.now; value = c.args.value.now })
    c.self.invariant c.len-at.ensures (c.len.ensures ∙ c.self.inside.slots.ok.0) (c.has_room.ensures.yes c.if-not-has_room.false) in
    absurd (omega (arith, over, fits, ap (λ p. length (written (p ++ record { key = c.args.key.now; value = c.args.value.now } ∷ []))) c.self.view_is))

pub returns-in_err-push_slot-clause-large : goal.returns-in_err-push_slot-clause-large
returns-in_err-push_slot-clause-large c = λ over.
    let fits = not_large c.self.inside.file c.self.inside.slots.items c.len-at.result c.len.result (record { key = c.args.key.now; value = c.args.value.now })
    c.self.invariant c.len-at.ensures (c.len.ensures ∙ c.self.inside.slots.ok.0) (c.has_room.ensures.yes c.if-not-has_room.false) in
    absurd (omega (arith, over, fits, ap (λ p. length (written (p ++ record { key = c.args.key.now; value = c.args.value.now } ∷ []))) c.self.view_is))

pub invariant_of-result : goal.invariant_of-result
invariant_of-result c =
    (added c.self.inside.file _ c.self.inside.slots.items _ c.len-at.result c.len.result c.hash.result (record { key = c.args.key.now; value = c.args.value.now })
    c.self.invariant c.len-at.ensures (c.len.ensures ∙ c.self.inside.slots.ok.0) c.hash.ensures (c.has_room.ensures.yes c.if-not-has_room.false)
    c.in_ok-add_record.ensures c.in_ok-push_slot.ensures).prefix

pub returns-clause-added : goal.returns-clause-added
returns-clause-added c =
    (added c.self.inside.file _ c.self.inside.slots.items _ c.len-at.result c.len.result c.hash.result (record { key = c.args.key.now; value = c.args.value.now })
    c.self.invariant c.len-at.ensures (c.len.ensures ∙ c.self.inside.slots.ok.0) c.hash.ensures (c.has_room.ensures.yes c.if-not-has_room.false)
    c.in_ok-add_record.ensures c.in_ok-push_slot.ensures).pairs
    ∙ ap (λ l. l ++ record { key = c.args.key.now; value = c.args.value.now } ∷ []) c.self.view_is

pub returns-clause-large : goal.returns-clause-large
returns-clause-large c = λ over.
    let fits = not_large c.self.inside.file c.self.inside.slots.items c.len-at.result c.len.result (record { key = c.args.key.now; value = c.args.value.now })
    c.self.invariant c.len-at.ensures (c.len.ensures ∙ c.self.inside.slots.ok.0) (c.has_room.ensures.yes c.if-not-has_room.false) in
    absurd (omega (arith, over, fits, ap (λ p. length (written (p ++ record { key = c.args.key.now; value = c.args.value.now } ∷ []))) c.self.view_is))
