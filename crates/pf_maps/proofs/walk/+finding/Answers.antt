use Rattle.std.proofs.Common.{◌∙◌, arith, drop}
use Rattle.std.proofs.lemmas.Result.{err_from_is_err_and}
use Rattle.pf_maps.proofs.MeaningLaws.{pipe_over, pipe_step, pipe_stop, same_found, union_step, union_stop}
use Rattle.pf_maps.proofs.walk.+finding.Goals as goal

pub find_union-members-preserved : goal.find_union-members-preserved
find_union-members-preserved t c =
    rw c.in_ok-one.ensures.same (
      union_step c.members.more (drop c.members.place c.members.nodes) (drop c.place_behind-place.result c.members.nodes) c.members.found c.in_ok-one.one c.in_ok-found.found
          c.args.key.now (λ e. omega (arith, c.members-test.true, e)) (rw c.in_ok-one.ensures.same at c.place_behind-place.ensures.is) c.in_ok-one.ensures.is
          (same_found _ _ c.in_ok-found.ensures) ∙ c.members.invariant.0,
      (c.members.invariant.1.0, rw c.in_ok-one.ensures.same at c.place_behind-place.ensures.within),
    )

pub find_union-returns-in_err-one-clause-is : goal.find_union-returns-in_err-one-clause-is
find_union-returns-in_err-one-clause-is t c =
    let p = err_from_is_err_and c.from_residual.result c.from_residual.ensures.1 in
    rw (p.1, p.2) (union_stop c.members.more c.args.count (drop c.members.place c.members.nodes) c.members.nodes c.args.nodes.now c.members.found c.args.key.now _
    (λ e. omega (arith, c.members-test.true, e)) c.members.invariant.0 c.members.invariant.1.0 c.in_err-one.ensures.is)

pub find_pipe-members-preserved : goal.find_pipe-members-preserved
find_pipe-members-preserved t c =
    rw c.in_ok-find_at.ensures.same (
      pipe_step c.members.more (drop c.members.place c.members.nodes) (drop c.place_behind-place.result c.members.nodes) c.in_ok-find_at.field-0 c.members.value c.in-Value.next
          (λ e. omega (arith, c.members-test.true, e)) (rw c.in_ok-find_at.ensures.same at c.place_behind-place.ensures.is)
          (rw c.as_slice.ensures at c.in_ok-find_at.ensures.is) c.in-Value.is ∙ c.members.invariant.0,
      (c.members.invariant.1.0, rw c.in_ok-find_at.ensures.same at c.place_behind-place.ensures.within),
    )

pub find_pipe-returns-in_err-find_at-clause-is : goal.find_pipe-returns-in_err-find_at-clause-is
find_pipe-returns-in_err-find_at-clause-is t c =
    let p = err_from_is_err_and c.from_residual.result c.from_residual.ensures.1 in
    rw (p.1, p.2) (pipe_stop c.members.more c.args.count (drop c.members.place c.members.nodes) c.members.nodes c.args.nodes.now c.members.value c.args.key.now _
    (λ e. omega (arith, c.members-test.true, e)) c.members.invariant.0 c.members.invariant.1.0 (rw c.as_slice.ensures at c.in_err-find_at.ensures.is))

pub find_pipe-returns-in-Absent-clause-is : goal.find_pipe-returns-in-Absent-clause-is
find_pipe-returns-in-Absent-clause-is t c =
    pipe_over c.members.more c.args.count (drop c.members.place c.members.nodes) c.members.nodes c.args.nodes.now c.members.value c.args.key.now c.in_ok-find_at.field-0
    (λ e. omega (arith, c.members-test.true, e)) c.members.invariant.0 c.members.invariant.1.0 (rw c.as_slice.ensures at c.in_ok-find_at.ensures.is) c.in-Absent.is
