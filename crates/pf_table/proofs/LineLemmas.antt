-- A line that begins with a quote, and texts that are made small.
use Rattle.std.proofs.Common.{◌≡◌, ◌<◌, ◌+◌, ◌++◌, ◌==◌, ◌&&◌, ℕ, Bool, true, false, List, [], ◌∷◌, Some, length, take, drop, set, get_or, map, refl, sym, ap, ◌∙◌, append_assoc, arith}
use Rattle.std.proofs.lemmas.Bool.{eqb-true}
use Rattle.std.proofs.lemmas.List.{drop_more, get_or_at, length-map, length-take-le, map_more, set_at}
use Rattle.std.specs.Char.{to_ascii_lowercase}
use Rattle.std.specs.List.{list_all}
use Rattle.std.specs.Option.{option_map}
use Rattle.pf_base.specs.Text.Names.{folded}
use Rattle.pf_table.specs.Line.{closing_quote, pair_behind, quoted_pair, unquoted, valued}

-- a line whose quote is closed
pub quoted_line : (folds : Bool) (text : List ℕ) (place : ℕ) (quoted behind : List ℕ) → closing_quote false text ≡ Some place
    → quoted ≡ take place text → behind ≡ drop (place + 1) text
    → valued (quoted_pair folds text) ≡ valued (Some (pair_behind folds (unquoted false quoted) behind))
quoted_line folds text place quoted behind closing quoted_is behind_is =
    ap (λ o. valued (option_map (λ n. pair_behind folds (unquoted false (take n text)) (drop (n + 1) text)) o)) closing
    ∙ ap (λ q. valued (Some (pair_behind folds (unquoted false q) (drop (place + 1) text)))) (sym quoted_is)
    ∙ ap (λ b. valued (Some (pair_behind folds (unquoted false quoted) b))) (sym behind_is)

-- one byte more
pub small_more : (f : ℕ → ℕ) (old text : List ℕ) (i : ℕ) → i < length old → text ≡ map f (take i old) ++ drop i old
    → set text i (f (get_or text i 0)) ≡ map f (take (i + 1) old) ++ drop (i + 1) old
small_more f old text i low is =
    ap (λ b. set text i (f b)) byte
    ∙ ap (λ xs. set xs i (f (get_or old i 0))) parted
    ∙ set_at (map f (take i old)) (get_or old i 0) (drop (i + 1) old) (f (get_or old i 0)) i size
    ∙ sym (append_assoc (map f (take i old)) (f (get_or old i 0) ∷ []) (drop (i + 1) old))
    ∙ ap (λ xs. xs ++ drop (i + 1) old) (sym (map_more f old i 0 low))
  where
    size : length (map f (take i old)) ≡ i
    size = length-map (take i old) f ∙ length-take-le i old (omega arith)

    parted : text ≡ map f (take i old) ++ (get_or old i 0 ∷ drop (i + 1) old)
    parted = is ∙ ap (λ xs. map f (take i old) ++ xs) (drop_more old i 0 low)

    byte : get_or text i 0 ≡ get_or old i 0
    byte = ap (λ xs. get_or xs i 0) parted ∙ get_or_at (map f (take i old)) (get_or old i 0) (drop (i + 1) old) 0 i size

-- a key that folding leaves as it is
pub small_stays : (key : List ℕ) → list_all (λ b. to_ascii_lowercase b == b) key ≡ true → folded key ≡ key
small_stays [] all = refl
small_stays (b ∷ key) all = by (to_ascii_lowercase b == b) refl (list_all (λ c. to_ascii_lowercase c == c) key) (λ more. small_stays key more) all
  where
    by : (s : Bool) → (to_ascii_lowercase b == b) ≡ s → (t : Bool) → (t ≡ true → folded key ≡ key) → (s && t) ≡ true → to_ascii_lowercase b ∷ folded key ≡ b ∷ key
    by true here true behind e = ap (λ c. c ∷ folded key) (eqb-true (to_ascii_lowercase b) b here) ∙ ap (λ more. b ∷ more) (behind refl)
    by true here false behind e = cc
    by false here t behind e = cc
