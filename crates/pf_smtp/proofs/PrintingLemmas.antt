-- What is printed in parts is what is printed at once.
use Rattle.std.proofs.Common.{◌≡◌, ℕ, List, [], ◌∷◌, ◌++◌, refl, sym, ap, ◌∙◌}
use Rattle.std.proofs.lemmas.List.{map-append}
use Rattle.std.specs.List.{flat_map}
use Rattle.pf_base.specs.Text.Printing.{printable, printed}

pub printed_parts : {X : Type 0} (f : X → List ℕ) (parts : List X) → flat_map (λ part. printed (f part)) parts ≡ printed (flat_map f parts)
printed_parts f [] = refl
printed_parts f (part ∷ parts) = ap (λ text. printed (f part) ++ text) (printed_parts f parts) ∙ sym (map-append printable (f part) (flat_map f parts))
