use Rattle.std.proofs.Common.{◌≡◌, ◌++◌}
use Rattle.std.specs.Option.{option_map}
use Rattle.pf_expand.specs.Clauses.Parting.{gives, weighs}
use Rattle.pf_expand.specs.Clauses.Tokens as spec
use Rattle.pf_expand.proofs.parse.tokens_of.Given as goal

abbrev pub invariant-parts : goal.invariant-parts
invariant-parts l = spec.tokens_of l.text ≡ option_map (λ ts. l.tokens ++ ts) (gives l.left)

abbrev pub decreases-parts : goal.decreases-parts
decreases-parts l = weighs l.left
