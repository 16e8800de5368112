use Rattle.std.proofs.Common.{◌≡◌, ◌++◌, [], ◌∷◌, true, false, cond, map, take, ap, ◌∙◌, sym, arith}
use Rattle.std.specs.List.{filter}
use Rattle.std.proofs.lemmas.List.{append-nil, append_assoc}
use Rattle.std.proofs.lemmas.Slice.{pushed}
use Rattle.pf_cdb.specs.Held.{is_held}
use Rattle.pf_cdb.specs.Layout.{slot_of, table_of}
use Rattle.pf_cdb.proofs.ListLaws.{names_all, names_more}
use Rattle.pf_cdb.proofs.listing.add_places.Goals as goal
use Rattle.pf_cdb.proofs.listing.add_places.Goals.{then-names_held+in_ok-push, else-names_held}

pub loop-i-preserved : goal.loop-i-preserved
loop-i-preserved c =
    let file = c.args.file.now in
    let table = c.args.table in
    let i = c.loop-i.i in
    let before = filter (is_held file) (take i (map (λ slot. slot.at) (table_of file table))) in
    elim c.if-names_held.branch [
      | then-names_held+in_ok-push w ↦
          let at = (slot_of file table i).at in
          let test : is_held file at ≡ true = sym c.names_held.ensures ∙ w.if-names_held.true in
          ap (λ v. v.items) w.places-is
          ∙ pushed (w.slot_at.result.at ∷ []) c.loop-i.invariant w.in_ok-push.was w.push.ensures.items
          ∙ append_assoc c.args.places.now.items before (w.slot_at.result.at ∷ [])
          ∙ ap (λ s. c.args.places.now.items ++ (before ++ s.at ∷ [])) w.slot_at.ensures
          ∙ ap (λ b. c.args.places.now.items ++ (before ++ cond b (at ∷ []) [])) (sym test)
          ∙ ap (λ l. c.args.places.now.items ++ l) (sym (names_more file table i (omega arith)))
      | else-names_held w ↦
          let at = (slot_of file table i).at in
          let test : is_held file at ≡ false = sym c.names_held.ensures ∙ w.if-names_held.false in
          ap (λ v. v.items) w.places-is
          ∙ c.loop-i.invariant
          ∙ ap (λ l. c.args.places.now.items ++ l) (sym (append-nil before))
          ∙ ap (λ b. c.args.places.now.items ++ (before ++ cond b (at ∷ []) [])) (sym test)
          ∙ ap (λ l. c.args.places.now.items ++ l) (sym (names_more file table i (omega arith)))
    ]

pub returns : goal.returns
returns c =
    c.loop-i.invariant ∙ ap (λ l. c.args.places.now.items ++ l) (names_all c.args.file.now c.args.table c.loop-i.i (omega arith))
