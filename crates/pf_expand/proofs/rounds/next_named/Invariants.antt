use Rattle.std.proofs.Common.{◌≡◌, ◌+◌, map, take}
use Rattle.std.specs.Map.{keys_of}
use Rattle.pf_expand.specs.Clauses.Meanings.{level_value}
use Rattle.pf_expand.specs.Clauses.Sizes.{size_of}
use Rattle.pf_expand.proofs.rounds.next_named.Given as goal

abbrev pub invariant-loop-place : goal.invariant-loop-place
invariant-loop-place l = l.named ≡ map (λ name. size_of (level_value l.names (l.sizes.levels + 1) name)) (take l.place (keys_of l.names))
