use Rattle.std.proofs.Common.{◌≡◌, ◌∷◌, map, take}
use Rattle.pf_base.specs.Text.Ascii as ascii
use Rattle.pf_class.proofs.subject.file_keys.Given as goal

abbrev pub invariant-loop-domain : goal.invariant-loop-domain
invariant-loop-domain l = l.keys ≡ map (λ domain. ascii.at_sign ∷ domain) (take l.domain-index l.domains)
