-- Where a name is put, and that there is just one list of the names in order.
use Rattle.std.proofs.Common.{◌≡◌, ℕ, ◌+◌, ◌<◌, ◌≤◌, List, [], ◌∷◌, ◌++◌, take, length, refl, sym, ap, ◌∙◌, map, arith}
use Rattle.std.proofs.lemmas.List.{map-append, take_all, take_more}
use Rattle.std.proofs.lemmas.List.Sums.{fold-append}
use Rattle.std.proofs.Math.Path.{fun_ext}
use Rattle.std.proofs.lemmas.Map.Lookups.{btree_set_from_contains, exact_bytes}
use Rattle.std.proofs.lemmas.Map.Text.{is_eq-slice_cmp}
use Rattle.std.specs.BTreeSet.{insert_key}
use Rattle.std.specs.Cmp.Lexicographic.{nat_list_cmp_total, slice_cmp}
use Rattle.std.specs.List.{fold}
use Rattle.std.specs.List.{list_any}
use Rattle.std.specs.Ordering.{is_eq, match_ordering, nat_cmp}
use Rattle.std.specs.declared.cmp.Ordering.{Ordering}
use Rattle.std.specs.declared.cmp.Ordering.TheVariants.{Less, Equal, Greater}
use Rattle.pf_base.specs.declared.meaning.Meaning.TheVariants.{Is}
use Rattle.pf_catalogue.specs.Catalogue.{Row, catalogue, row, row_at}
use Rattle.pf_catalogue.specs.declared.count.TheConstants.{PARAMS}
use Rattle.pf_catalogue.specs.declared.kind.Kind.TheVariants.{Text}
use Rattle.pf_maincf.specs.Settings.{Conf}
use Rattle.pf_params.proofs.CatalogueLaws.{count}
use Rattle.pf_tools.specs.Asked.{asked_names, names_of, names_or, parameter_names, shown_names}
use Rattle.pf_tools.specs.Clauses.Ordering.{put_in_order, with_name}
use Rattle.pf_tools.specs.Order.{IsInOrder, has}
use Rattle.pf_words.specs.declared.postconf.ConfWords.{ConfWords}

-- keys with one more at its place, by their texts
pub put_mapped : {K : Type 0} (text : K → List ℕ) (keys : List K) (key : K)
    → map text (insert_key (λ x y. slice_cmp nat_cmp (text x) (text y)) keys key) ≡ with_name (map text keys) (text key)
put_mapped text [] key = refl
put_mapped text (x ∷ keys) key = by_how (slice_cmp nat_cmp (text key) (text x)) (put_mapped text keys key) where
  by_how : (how : Ordering) → map text (insert_key (λ x y. slice_cmp nat_cmp (text x) (text y)) keys key) ≡ with_name (map text keys) (text key)
      → map text (match_ordering how (key ∷ x ∷ keys) (x ∷ keys) (x ∷ insert_key (λ x y. slice_cmp nat_cmp (text x) (text y)) keys key))
      ≡ match_ordering how (text key ∷ text x ∷ map text keys) (text x ∷ map text keys) (text x ∷ with_name (map text keys) (text key))
  by_how Less more = refl
  by_how Equal more = refl
  by_how Greater more = ap (λ rest. text x ∷ rest) more

-- the names of two lists
pub both_lists : (old mid new first second all : List (List ℕ)) → mid ≡ fold with_name old first → new ≡ fold with_name mid second → all ≡ first ++ second
    → new ≡ fold with_name old all
both_lists old mid new first second all mid_is new_is all_is =
    new_is ∙ ap (λ names. fold with_name names second) mid_is ∙ sym (fold-append with_name old first second) ∙ ap (fold with_name old) (sym all_is)

-- the names of the parameters so far
abbrev pub HasParameters : List (List ℕ) → List (List ℕ) → ℕ → Type 0
HasParameters old names place = names ≡ fold with_name old (map (λ (r : Row). r.name) (take place catalogue))

pub parameters_more : (old names new : List (List ℕ)) (place : ℕ) → place < PARAMS → HasParameters old names place → new ≡ with_name names (row_at place).name
    → HasParameters old new (place + 1)
parameters_more old names new place within so_far is =
    both_lists old names new (map (λ (r : Row). r.name) (take place catalogue)) ((row_at place).name ∷ []) _ so_far is (
    ap (map (λ (r : Row). r.name)) (take_more catalogue place (row [] Text (Is [])) (omega (arith, count)))
    ∙ map-append (λ (r : Row). r.name) (take place catalogue) (row_at place ∷ [])
    )

pub parameters_all : (old names : List (List ℕ)) (place : ℕ) → PARAMS ≤ place → HasParameters old names place → names ≡ fold with_name old parameter_names
parameters_all old names place past so_far =
    so_far ∙ ap (λ (rows : List Row). fold with_name old (map (λ (r : Row). r.name) rows)) (take_all place catalogue (omega (arith, count)))

-- there is just one list of the names in order
pub only_one : (names first second : List (List ℕ)) → IsInOrder names first → IsInOrder names second → first ≡ second
only_one names first second a b =
    btree_set_from_contains nat_list_cmp_total (record { keys = first }) (record { keys = second }) a.ascends b.ascends
    (λ name. by_order name first ∙ a.same name ∙ sym (b.same name) ∙ sym (by_order name second)) exact_bytes
  where
    by_order : (name : List ℕ) (xs : List (List ℕ)) → list_any (λ other. is_eq (slice_cmp nat_cmp name other)) xs ≡ has xs name
    by_order name xs = ap (λ test. list_any test xs) (fun_ext (λ other. is_eq-slice_cmp name other))

-- which are all that are asked for, where the words name none
pub all_asked : (words : ConfWords) (s : Conf) (names : List (List ℕ)) → length words.rest < 1 → IsInOrder (names_of words.mode s) names → names ≡ asked_names words s
all_asked words s names none order = by_rest words.rest none where
  by_rest : (rest : List (List ℕ)) → length rest < 1 → names ≡ names_or rest (shown_names words.mode s)
  by_rest [] h = only_one (names_of words.mode s) names (shown_names words.mode s) order (put_in_order (names_of words.mode s))
  by_rest (name ∷ rest) h = absurd (omega (arith, h))
