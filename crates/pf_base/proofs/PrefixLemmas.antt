-- A prefix of a text.
use Rattle.std.proofs.Common.{◌≡◌, ℕ, List, ◌++◌, length, take, drop, sym, subst, ap, ◌∙◌, arith, length-append}
use Rattle.std.proofs.Math.Seq.{take-append_seam}
use Rattle.std.proofs.lemmas.Grind.{flat_map-append}
use Rattle.std.proofs.lemmas.List.{map-append, take-append-drop, take-append-le}
use Rattle.std.specs.List.{flat_map}
use Rattle.pf_base.specs.Clauses.Prefixes.{AddsPrefix}
use Rattle.pf_base.specs.Text.Printing.{printable, printed}

-- a text is a prefix of one that goes on
pub whole_prefix : (old new text more : List ℕ) → new ≡ old ++ text → AddsPrefix old new (text ++ more)
whole_prefix old new text more is = record {
  count = length text;
  within = omega (arith, length-append text more);
  is = is ∙ ap (λ bytes. old ++ bytes) (sym (take-append_seam text more));
}

-- and so is a prefix of it
pub prefix_of_longer : (old new text more : List ℕ) → AddsPrefix old new text → AddsPrefix old new (text ++ more)
prefix_of_longer old new text more prefix = record {
  count = prefix.count;
  within = omega (arith, prefix.within, length-append text more);
  is = prefix.is ∙ ap (λ bytes. old ++ bytes) (sym (take-append-le prefix.count text more prefix.within));
}

-- the first parts are a prefix of all
pub parts_prefix : {P : Type 0} (f : P → List ℕ) (old new : List ℕ) (parts : List P) (i : ℕ) → new ≡ old ++ flat_map f (take i parts) → AddsPrefix old new (flat_map f parts)
parts_prefix f old new parts i is =
    let all = ap (flat_map f) (sym (take-append-drop i parts)) ∙ flat_map-append f (take i parts) (drop i parts) in
    subst (AddsPrefix old new) (sym all) (whole_prefix old new (flat_map f (take i parts)) (flat_map f (drop i parts)) is)

-- the first bytes, as they are printed, are a prefix of all
pub printed_prefix : (old new bytes : List ℕ) (i : ℕ) → new ≡ old ++ printed (take i bytes) → AddsPrefix old new (printed bytes)
printed_prefix old new bytes i is =
    let all = ap printed (sym (take-append-drop i bytes)) ∙ map-append printable (take i bytes) (drop i bytes) in
    subst (AddsPrefix old new) (sym all) (whole_prefix old new (printed (take i bytes)) (printed (drop i bytes)) is)
