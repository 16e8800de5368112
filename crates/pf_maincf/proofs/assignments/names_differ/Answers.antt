use Rattle.std.proofs.Common.{◌&&◌, drop, map, sym, ap, ◌∙◌}
use Rattle.std.proofs.lemmas.List.{drop-drop, take_rest}
use Rattle.pf_maincf.proofs.Differing.{differ_step}
use Rattle.pf_maincf.specs.Edit.{differ}
use Rattle.pf_maincf.specs.declared.setting.Setting.{Setting}
use Rattle.pf_maincf.proofs.assignments.names_differ.Goals as goal

pub returns-then-not-first_differs : goal.returns-then-not-first_differs
returns-then-not-first_differs c =
    let assignments = c.args.assignments.now in
    sym (c.loop-i.invariant ∙ differ_step (drop c.loop-i.i assignments)
    ∙ ap (λ b. b && differ (map (λ (assignment : Setting). assignment.name) (drop 1 (drop c.loop-i.i assignments)))) (sym (rw take_rest at c.first_differs.ensures) ∙ c.if-not-first_differs.true))

pub loop-i-preserved : goal.loop-i-preserved
loop-i-preserved c =
    let assignments = c.args.assignments.now in
    c.loop-i.invariant ∙ differ_step (drop c.loop-i.i assignments)
    ∙ ap (λ b. b && differ (map (λ (assignment : Setting). assignment.name) (drop 1 (drop c.loop-i.i assignments)))) (sym (rw take_rest at c.first_differs.ensures) ∙ c.if-not-first_differs.false)
    ∙ ap (λ more. differ (map (λ (assignment : Setting). assignment.name) more)) (drop-drop 1 c.loop-i.i assignments)
