-- What is held for a key is what the list of the file's pairs has at the key.
use Rattle.std.proofs.Common.{◌≡◌, ◌+◌, ◌-◌, ◌%◌, ℕ, Bool, true, false, cond, List, [], ◌∷◌, Option, Some, None, length, map, take, drop, refl, ap, ◌∙◌, sym, arith, ⊎_elim}
use Rattle.std.specs.List.{Contains, filter, find, range_with_len}
use Rattle.std.specs.Prelude.{◌==◌, slice_range}
use Rattle.std.specs.Option.{option_map}
use Rattle.std.specs.Str.{bytes_eq}
use Rattle.std.proofs.lemmas.Bool.{and_parts, cases_Bool, true≢false}
use Rattle.std.proofs.lemmas.List.Elements.{All-contains, filter_passes}
use Rattle.std.proofs.lemmas.Slice.Eq.{bytes_eq-Decides}
use Rattle.pf_cdb.proofs.HeldLaws.{find_there, held_lies, is_there}
use Rattle.pf_cdb.proofs.ListLaws.{is_held_from, is_held_means}
use Rattle.pf_cdb.proofs.RangeLaws.{contains_cons, contains_filter, contains_range, no_member}
use Rattle.pf_cdb.specs.Hash.{hash_of}
use Rattle.pf_cdb.specs.Held.{elements_of, held, is_held, value_span}
use Rattle.pf_cdb.specs.Layout.{key_at, key_length, pair_at, slot_of, value_at, value_length}
use Rattle.pf_cdb.specs.Sound.{IsSound}

find_map : {X Y : Type 0} (p : Y → Bool) (f : X → Y) (xs : List X) → find p (map f xs) ≡ option_map f (find (λ x. p (f x)) xs)
find_map p f [] = refl
find_map p f (x ∷ xs) =
    ⊎_elim {A = p (f x) ≡ true} {B = p (f x) ≡ false}
    (λ t. ap (λ b. cond b (Some (f x)) (find p (map f xs))) t ∙ ap (λ b. option_map f (cond b (Some x) (find (λ y. p (f y)) xs))) (sym t))
    (λ t. ap (λ b. cond b (Some (f x)) (find p (map f xs))) t ∙ find_map p f xs
    ∙ ap (λ b. option_map f (cond b (Some x) (find (λ y. p (f y)) xs))) (sym t))
    (cases_Bool (p (f x)))

found_some : {X : Type 0} (p : X → Bool) (xs : List X) (x : X) → Contains xs x → p x ≡ true → (y : X) × (find p xs ≡ Some y)
found_some p [] x there pass = absurd (no_member x there)
found_some p (z ∷ zs) x there pass =
    ⊎_elim {A = p z ≡ true} {B = p z ≡ false}
    (λ t. (z, ap (λ b. cond b (Some z) (find p zs)) t))
    (λ f. ⊎_elim {A = z ≡ x} {B = Contains zs x}
    (λ same. absurd (true≢false (sym pass ∙ ap p (sym same) ∙ f)))
    (λ rest. let (y, e) = found_some p zs x rest pass in (y, ap (λ b. cond b (Some z) (find p zs)) f ∙ e))
    (contains_cons z zs x there))
    (cases_Bool (p z))

-- an answer that is one of those that pass, and the only one
pub record IsOnly {X : Type 0} (p : X → Bool) (xs : List X) (o : Option X) : Type 0 where
  pub there : (x : X) → o ≡ Some x → Contains xs x
  pub passes : (x : X) → o ≡ Some x → p x ≡ true
  pub only : (x : X) → Contains xs x → p x ≡ true → o ≡ Some x

only_is : {X : Type 0} (p : X → Bool) (xs : List X) (o f : Option X) → find p xs ≡ f → IsOnly p xs o → f ≡ o
only_is p xs o (Some x) e is =
    let (k, low, at, pass) = find_there p xs x e in sym (is.only x (k, low, at) pass)
only_is p xs None None e is = refl
only_is p xs (Some x) None e is =
    let (y, found) = found_some p xs x (is.there x refl) (is.passes x refl) in absurd (cc)

find_only : {X : Type 0} (p : X → Bool) (xs : List X) (o : Option X) → IsOnly p xs o → find p xs ≡ o
find_only p xs o is = only_is p xs o (find p xs) refl is

-- the record that is held for a key has the key
pub held_has : (file key : List ℕ) (at : ℕ) → held file key ≡ Some at → key_at file at ≡ key
held_has file key at e =
    let there = is_there file key at e in
    let slot = slot_of file (hash_of key % 256) there.i in
    let same : key_at file slot.at ≡ key = (bytes_eq-Decides (key_at file slot.at) key).0 (and_parts (slot.hash == hash_of key) _ there.has).1 in
    ap (key_at file) (sym there.names) ∙ same

held_is_only : (file key : List ℕ) → IsSound file → IsOnly (λ at. bytes_eq (key_at file at) key) (filter (is_held file) (range_with_len 0 (length file))) (held file key)
held_is_only file key sound = record {
  there = λ at e.
      let lies = held_lies file key at sound e in
      contains_filter (is_held file) (range_with_len 0 (length file)) at
      (contains_range 0 (length file) at (omega arith) (omega (arith, lies.whole)))
      (is_held_from file at (ap (held file) (held_has file key at e) ∙ e));
  passes = λ at e. (bytes_eq-Decides (key_at file at) key).1 (held_has file key at e);
  only = λ at there pass.
      let holds : is_held file at ≡ true =
      All-contains (λ k. is_held file k ≡ true) (filter (is_held file) (range_with_len 0 (length file))) at (filter_passes (is_held file) (range_with_len 0 (length file))) there in
      let same : key_at file at ≡ key = (bytes_eq-Decides (key_at file at) key).0 pass in
      ap (held file) (sym same) ∙ is_held_means file at holds;
}

pub pair_of_key : (file key : List ℕ) → IsSound file → find (λ pair. bytes_eq pair.key key) (elements_of file) ≡ option_map (pair_at file) (held file key)
unfolding elements_of
pair_of_key file key sound =
    find_map (λ pair. bytes_eq pair.key key) (pair_at file) (filter (is_held file) (range_with_len 0 (length file)))
    ∙ ap (option_map (pair_at file)) (find_only _ _ (held file key) (held_is_only file key sound))

-- the bytes where the value is are the value
value_is : (file : List ℕ) (at : ℕ) → slice_range file (value_span file at).start (value_span file at).end ≡ value_at file at
value_is file at =
    let size : at + 8 + key_length file at + value_length file at - (at + 8 + key_length file at) ≡ value_length file at = omega arith in
    ap (λ n. take n (drop (at + 8 + key_length file at) file)) size

span_of_pair : (file : List ℕ) (o : Option ℕ)
    → option_map (λ span. slice_range file span.start span.end) (option_map (value_span file) o) ≡ option_map (λ pair. pair.value) (option_map (pair_at file) o)
span_of_pair file None = refl
span_of_pair file (Some at) = ap Some (value_is file at)

pub value_of_key : (file key : List ℕ) → IsSound file
    → option_map (λ span. slice_range file span.start span.end) (option_map (value_span file) (held file key))
    ≡ option_map (λ pair. pair.value) (find (λ pair. bytes_eq pair.key key) (elements_of file))
value_of_key file key sound = span_of_pair file (held file key) ∙ ap (option_map (λ pair. pair.value)) (sym (pair_of_key file key sound))
