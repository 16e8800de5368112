use Rattle.std.proofs.Common.{◌≡◌, ◌+◌, drop}
use Rattle.pf_eval.specs.Judge.{end_from, end_of}
use Rattle.pf_eval.proofs.judge.judge_plain.Given as goal

abbrev pub invariant-loop-item : goal.invariant-loop-item
invariant-loop-item l =
    (l.place ≡ l.item-index + 1)
    × (end_from l.policy l.client l.domain l.place (drop l.item-index l.item-items) ≡ end_of l.policy l.client l.domain)
    × (l.item-items ≡ l.policy.relay)
