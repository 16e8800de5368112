use Rattle.std.proofs.Common.{[], sym, ap, refl, ◌∙◌, arith}
use Rattle.std.proofs.lemmas.Result.{err_from_is_err_and}
use Rattle.pf_base.specs.Text.Logical.{grouped, numbered, outcome}
use Rattle.pf_base.proofs.LineEnds.{parts_are}
use Rattle.pf_base.proofs.LogicalLemmas.{outcome_at_end}
use Rattle.pf_base.proofs.text.logical.logical_lines.Goals as goal

pub lines-init : goal.lines-init
lines-init c = rw c.new.ensures (ap (λ p. grouped (numbered 1 p)) (parts_are c.args.text.now), λ none. refl, omega arith)

pub returns-in_err-take_line-in-None : goal.returns-in_err-take_line-in-None
returns-in_err-take_line-in-None c =
    let p = err_from_is_err_and c.from_residual.result c.from_residual.ensures.1 in
    let here = rw (c.in-None.ensures.none, c.in-None.ensures.no_rest) at c.lines.invariant.0 in
    rw (p.1, p.2) (λ memory. sym (ap outcome here ∙ c.in_err-take_line-in-None.ensures.line memory c.lines.invariant.1 (record { leading = []; logical = [] })))

pub returns-in-None : goal.returns-in-None
returns-in-None c =
    let here = rw (c.in-None.ensures.none, c.in-None.ensures.no_rest) at c.lines.invariant.0 in
    let next = c.in_ok-take_line-in-None.ensures.line (record { leading = []; logical = [] }) in
    rw (here, next, outcome_at_end c.take_line.new.self.closed c.take_line.new.self.last) c.into_lines.ensures
