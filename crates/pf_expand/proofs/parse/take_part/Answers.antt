use Rattle.std.proofs.Common.{length, sym, ap, ◌∙◌, refl}
use Rattle.std.proofs.lemmas.Bool.{eqb-true, eqb-false}
use Rattle.std.proofs.lemmas.List.{nil_from_length}
use Rattle.pf_expand.proofs.PartingLemmas.{one_more_gives, one_more_weighs, takes_bad, takes_choice, takes_none, takes_piece}
use Rattle.pf_expand.specs.Forms.{Part as part}
use Rattle.pf_expand.specs.declared.token.Token.TheVariants.{Literal, Name}
use Rattle.pf_expand.proofs.parse.take_part.Goals as goal

pub returns-then-is_empty : goal.returns-then-is_empty
returns-then-is_empty c =
    takes_none c.args.tokens.now c.args.left.now c.args.text.now
    (nil_from_length c.args.text.now (eqb-true (length c.args.text.now) 0 (sym c.is_empty.ensures ∙ c.if-is_empty.true)))

pub returns-in-None : goal.returns-in-None
returns-in-None c =
    takes_bad c.args.tokens.now c.args.left.now c.args.text.now
    (λ e. eqb-false (length c.args.text.now) 0 (sym c.is_empty.ensures ∙ c.if-is_empty.false) (ap length e))
    (sym (rw c.in-None.is at c.first_part.ensures))

pub returns-in_ok-push-in-Some-Literal-default-2 : goal.returns-in_ok-push-in-Some-Literal-default-2
returns-in_ok-push-in-Some-Literal-default-2 c =
    let first = rw (c.in-Some-Literal-default.is, c.in-Some-Literal-default.field-0-0-is) at c.first_part.ensures in
    takes_piece c.args.tokens.now c.push.new.self c.args.left.now c.push-in-Some-Literal-default.new.self c.args.text.now
    c.in-Some-Literal-default.behind.now (part.literal c.in-Some-Literal-default.bytes.now) (Literal c.in-Some-Literal-default.bytes.now)
    (λ e. eqb-false (length c.args.text.now) 0 (sym c.is_empty.ensures ∙ c.if-is_empty.false) (ap length e))
    (sym first)
    refl
    (rw c.in_ok-from_slice-in-Some-Literal-default.ensures at c.in_ok-push-in-Some-Literal-default.ensures.ok)
    (one_more_gives c.args.left.now _ _ c.in_ok-push-in-Some-Literal-default-2.ensures.ok)
    (one_more_weighs c.args.left.now _ _ c.in_ok-push-in-Some-Literal-default-2.ensures.ok)

pub returns-in_ok-push-in-Some-Name-default-2 : goal.returns-in_ok-push-in-Some-Name-default-2
returns-in_ok-push-in-Some-Name-default-2 c =
    let first = rw (c.in-Some-Name-default.is, c.in-Some-Name-default.field-0-0-is) at c.first_part.ensures in
    takes_piece c.args.tokens.now c.push-in-Some-Name-default.new.self c.args.left.now c.push-in-Some-Name-default-2.new.self c.args.text.now
    c.in-Some-Name-default.behind.now (part.name c.in-Some-Name-default.name.now) (Name c.in-Some-Name-default.name.now)
    (λ e. eqb-false (length c.args.text.now) 0 (sym c.is_empty.ensures ∙ c.if-is_empty.false) (ap length e))
    (sym first)
    refl
    (rw c.in_ok-from_slice-in-Some-Name-default.ensures at c.in_ok-push-in-Some-Name-default.ensures.ok)
    (one_more_gives c.args.left.now _ _ c.in_ok-push-in-Some-Name-default-2.ensures.ok)
    (one_more_weighs c.args.left.now _ _ c.in_ok-push-in-Some-Name-default-2.ensures.ok)

pub returns-in_ok-leave_choice-in-Some-Choice-default : goal.returns-in_ok-leave_choice-in-Some-Choice-default
returns-in_ok-leave_choice-in-Some-Choice-default c =
    let first = rw (c.in-Some-Choice-default.is, c.in-Some-Choice-default.field-0-0-is) at c.first_part.ensures in
    takes_choice c.args.tokens.now c.push-in-Some-Choice-default.new.self c.args.left.now c.leave_choice.new.left c.args.text.now
    c.in-Some-Choice-default.name.now c.in-Some-Choice-default.full.now c.in-Some-Choice-default.empty.now c.in-Some-Choice-default.behind.now
    (λ e. eqb-false (length c.args.text.now) 0 (sym c.is_empty.ensures ∙ c.if-is_empty.false) (ap length e))
    (sym first)
    (rw c.in_ok-from_slice-in-Some-Choice-default.ensures at c.in_ok-push-in-Some-Choice-default.ensures.ok)
    c.in_ok-leave_choice-in-Some-Choice-default.ensures.gives
    c.in_ok-leave_choice-in-Some-Choice-default.ensures.weighs
