use Rattle.std.proofs.Common.{ap, ◌∙◌}
use Rattle.std.proofs.lemmas.Result.{err_from_is_err_and}
use Rattle.pf_base.specs.Text.Logical.{Physical}
use Rattle.pf_table.proofs.AheadLaws.{alone_text, first_is, found, left_is, nothing_leading}
use Rattle.pf_table.proofs.TextLemmas.{stays_fault}
use Rattle.pf_table.proofs.lines.TextLines.next.Goals as goal

pub invariant_of-self-in_err-take : goal.invariant_of-self-in_err-take
invariant_of-self-in_err-take c = nothing_leading c.next.new.self.leading _ c.continuing.ensures c.if-is_none.ensures

pub returns-in_err-take-clause-refusal : goal.returns-in_err-take-clause-refusal
returns-in_err-take-clause-refusal c =
    let p = err_from_is_err_and c.from_residual.result c.from_residual.ensures.1 in
    let none = nothing_leading c.next.new.self.leading _ c.continuing.ensures c.if-is_none.ensures in
    let first = first_is c.args.file.now c.args.folded c.self.inside.ahead _ c.next.new.self c.in-Some.text.now c.self.invariant c.in-Some.ensures.line
    (alone_text c.in-Some.text.now c.next.new.self.leading none) in
    rw (p.1, p.2, ← c.self.view_is, first) (λ memory. stays_fault _ _ _ (c.in_err-take.ensures.err memory))

pub invariant_of-self-then-is_none : goal.invariant_of-self-then-is_none
invariant_of-self-then-is_none c = nothing_leading c.next.new.self.leading _ c.continuing.ensures c.if-is_none.ensures

pub returns-then-is_none-clause-entry : goal.returns-then-is_none-clause-entry
returns-then-is_none-clause-entry c =
    let none = nothing_leading c.next.new.self.leading _ c.continuing.ensures c.if-is_none.ensures in
    let first = first_is c.args.file.now c.args.folded c.self.inside.ahead _ c.next.new.self c.in-Some.text.now c.self.invariant c.in-Some.ensures.line
    (alone_text c.in-Some.text.now c.next.new.self.leading none) in
    rw (← c.self.view_is, first) (ap found c.in_ok-take.ensures.ok)

pub returns-in_err-take-2-clause-refusal : goal.returns-in_err-take-2-clause-refusal
returns-in_err-take-2-clause-refusal c =
    let p = err_from_is_err_and c.from_residual-in_err-take-2.result c.from_residual-in_err-take-2.ensures.1 in
    let first = first_is c.args.file.now c.args.folded c.self.inside.ahead _ c.next.new.self c.as_slice.result.now c.self.invariant c.in-Some.ensures.line
    (c.as_slice.ensures ∙ c.in_ok-join.ensures.joined) in
    rw (p.1, p.2, ← c.self.view_is, first) (λ memory. stays_fault _ _ _ (c.in_err-take-2.ensures.err memory))

pub returns-in_err-take-2-clause-left : goal.returns-in_err-take-2-clause-left
returns-in_err-take-2-clause-left c =
    let line : Physical = record { number = c.in-Some.number; text = c.in-Some.text.now } in
    rw (← c.self.view_is, c.join.ensures.ahead) (left_is c.self.inside.ahead line c.next.new.self c.self.invariant c.in-Some.ensures.line)

pub returns-clause-entry : goal.returns-clause-entry
returns-clause-entry c =
    let first = first_is c.args.file.now c.args.folded c.self.inside.ahead _ c.next.new.self c.as_slice.result.now c.self.invariant c.in-Some.ensures.line
    (c.as_slice.ensures ∙ c.in_ok-join.ensures.joined) in
    rw (← c.self.view_is, first) (ap found c.in_ok-take-2.ensures.ok)
