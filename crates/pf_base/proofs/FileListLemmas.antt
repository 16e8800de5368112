-- A file put into a list of files.
use Rattle.std.proofs.Common.{◌≡◌, ℕ, suc, zero, ◌<◌, ◌≤◌, Bool, true, false, List, [], ◌∷◌, ◌++◌, length, get_or, set, refl, ap, arith, Some, None, cond, ltb}
use Rattle.std.specs.List.{position, position_or_len}
use Rattle.std.specs.Str.{bytes_eq}
use Rattle.std.proofs.lemmas.List.Sums.{fails_before_first}
use Rattle.std.proofs.lemmas.List.Quantifiers.{position-Some}
use Rattle.std.proofs.lemmas.Bool.{ltb-false}
use Rattle.pf_base.specs.Outside.FileList.{with_file}
use Rattle.pf_base.specs.declared.pair.Pair.{Pair}

abbrev pub is_named : List ℕ → Pair → Bool
is_named name pair = bytes_eq pair.key name

with_file_set : (name bytes : List ℕ) (files : List Pair) (k : ℕ) → k < length files → ((d : Pair) → is_named name (get_or files k d) ≡ true)
    → ((j : ℕ) (d : Pair) → j < k → is_named name (get_or files j d) ≡ false) → with_file files name bytes ≡ set files k (record { key = name; value = bytes })
with_file_set name bytes [] k lt at before = absurd (omega arith)
with_file_set name bytes (x ∷ xs) zero lt at before = rw (at x)
with_file_set name bytes (x ∷ xs) (suc k) lt at before =
    rw (before 0 x (omega arith)) (ap (λ l. x ∷ l) (with_file_set name bytes xs k (omega arith) at (λ j d lt. before (suc j) d (omega arith))))

pub with_file_at : (name bytes : List ℕ) (files : List Pair) (k : ℕ) → position (is_named name) files ≡ Some k → with_file files name bytes ≡ set files k (record { key = name; value = bytes })
with_file_at name bytes files k e =
    let p : Pair = record { key = name; value = bytes } in
    with_file_set name bytes files k (position-Some (is_named name) files k p e).0 (λ d. (position-Some (is_named name) files k d e).1) (λ j d lt. (position-Some (is_named name) files k d e).2 j lt)

with_file_push : (name bytes : List ℕ) (files : List Pair) → ((j : ℕ) (d : Pair) → j < length files → is_named name (get_or files j d) ≡ false)
    → with_file files name bytes ≡ files ++ (record { key = name; value = bytes } ∷ [])
with_file_push name bytes [] none = refl
with_file_push name bytes (x ∷ xs) none =
    rw (none 0 x (omega arith)) (ap (λ l. x ∷ l) (with_file_push name bytes xs (λ j d lt. none (suc j) d (omega arith))))

pub with_file_new : (name bytes : List ℕ) (files : List Pair) → position (is_named name) files ≡ None → with_file files name bytes ≡ files ++ (record { key = name; value = bytes } ∷ [])
with_file_new name bytes files e =
    let n : ℕ = position_or_len (is_named name) files in
    let past : length files ≤ n = ltb-false n (length files) (elim (ltb n (length files)) as (λ b. cond b (Some n) None ≡ None → b ≡ false) [ true ↦ λ h. cc | false ↦ λ h. refl ] e) in
    with_file_push name bytes files (λ j d lt. fails_before_first (is_named name) files j d (omega arith))
