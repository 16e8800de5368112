-- A file that is read in parts.
use Rattle.std.proofs.Common.{◌≡◌, ◌+◌, ℕ, List, ◌++◌, length, take, drop, ap, ◌∙◌, sym}
use Rattle.std.proofs.lemmas.List.{take-append-drop, drop-drop}
use Rattle.std.proofs.Math.Seq.{take-add}

-- what is before the next part and that part are the prefix of the file
pub take_part : (file old new : List ℕ) (n : ℕ) → old ≡ take (length old) file → new ≡ old ++ take n (drop (length old) file)
    → length new ≡ length old + n → new ≡ take (length new) file
take_part file old new n prefix part len =
    part ∙ ap (λ l. l ++ take n (drop (length old) file)) prefix ∙ sym (take-add (length old) n file) ∙ ap (λ k. take k file) (sym len)

-- what is left, once some of it was copied, is what comes after
pub copied_prefix : (bytes copied : List ℕ) (at n : ℕ) → take n copied ≡ take n (drop at bytes) → drop at bytes ≡ take n copied ++ drop (at + n) bytes
copied_prefix bytes copied at n e =
    sym (take-append-drop n (drop at bytes)) ∙ ap (λ l. l ++ drop n (drop at bytes)) (sym e) ∙ ap (λ l. take n copied ++ l) (drop-drop n at bytes)
