-- What the values of a kind say.
use Rattle.std.proofs.Common.{◌≡◌, ◌≤◌, ℕ, ◌&&◌, Bool, true, false, List, [], Option, None, Some, Result, Ok, Err, refl, sym, ap, subst, ◌∙◌, codes, arith, if◌then◌else◌}
use Rattle.std.specs.Prelude.{nat_le}
use Rattle.std.proofs.lemmas.Bool.{leb-true}
use Rattle.std.specs.Str.Parse.{digits_value}
use Rattle.std.specs.Option.{option_map}
use Rattle.pf_base.specs.Text.Names.{same_in_any_case}
use Rattle.pf_base.specs.Text.Words.{words_of}
use Rattle.pf_base.specs.declared.text.words.WordsFault.{WordsFault}
use Rattle.pf_catalogue.specs.Numbers.{is_number, number_within}
use Rattle.pf_catalogue.specs.Values.{IsNumberOf, answer_in, are_items, greatest_code, least_code, list_in, list_of, number_in, value_of}
use Rattle.pf_catalogue.specs.declared.kind.Kind.{Kind}
use Rattle.pf_catalogue.specs.declared.kind.Kind.TheVariants as kind
use Rattle.pf_catalogue.specs.declared.value.Value.{Value}
use Rattle.pf_catalogue.specs.declared.value.Value.TheVariants.{Text, Number, Yes, Items}
use Rattle.pf_params.specs.Accepted.{is_list, is_numeric}

-- a value that is a number, an answer or a list
pub is_number_value : (v : Value) (n : ℕ) → Some n ≡ number_in v → v ≡ Number n
is_number_value (Number m) n is = let same : n ≡ m = cc in ap Number (sym same)
is_number_value Text n is = cc
is_number_value (Yes b) n is = cc
is_number_value (Items items) n is = cc

pub is_answer_value : (v : Value) (b : Bool) → Some b ≡ answer_in v → v ≡ Yes b
is_answer_value (Yes a) b is = let same : b ≡ a = cc in ap Yes (sym same)
is_answer_value Text b is = cc
is_answer_value (Number n) b is = cc
is_answer_value (Items items) b is = cc

pub is_list_value : (v : Value) (items : List (List ℕ)) → Some items ≡ list_in v → v ≡ Items items
is_list_value (Items others) items is = let same : items ≡ others = cc in ap Items (sym same)
is_list_value Text items is = cc
is_list_value (Number n) items is = cc
is_list_value (Yes b) items is = cc

-- the values of numbers, of yes and no, and of lists are such
number_there : (o : Option ℕ) (v : Value) → option_map Number o ≡ Some v → None ≡ number_in v → ⊥
number_there None v is none = cc
number_there (Some n) v is none = let same : Number n ≡ v = cc in let there = none ∙ ap number_in (sym same) in cc

pub numeric_there : (k : Kind) (text : List ℕ) (v : Value) → is_numeric k ≡ true → value_of k text ≡ Some v → None ≡ number_in v → ⊥
numeric_there (kind.Number least most) text v h is = number_there (number_within least most text) v is
numeric_there kind.Code text v h is = number_there (number_within least_code greatest_code text) v is
numeric_there k text v h is = cc

pub answer_there : (k : Kind) (text : List ℕ) (v : Value) → k ≡ kind.Yes → value_of k text ≡ Some v → None ≡ answer_in v → ⊥
answer_there k text v h is none = by_tests (same_in_any_case text (codes "yes")) (same_in_any_case text (codes "no")) (sym (ap (λ x. value_of x text) h) ∙ is) where
  by_tests : (s t : Bool) → (if s then Some (Yes true) else if t then Some (Yes false) else None) ≡ Some v → ⊥
  by_tests true t is = let same : Yes true ≡ v = cc in let there = none ∙ ap answer_in (sym same) in cc
  by_tests false true is = let same : Yes false ≡ v = cc in let there = none ∙ ap answer_in (sym same) in cc
  by_tests false false is = cc

items_there : (k : Kind) (r : Result (List (List ℕ)) WordsFault) (v : Value) → list_of k r ≡ Some v → None ≡ list_in v → ⊥
items_there k (Err fault) v is none = cc
items_there k (Ok items) v is none = by_test (are_items k items) is where
  by_test : (t : Bool) → (if t then Some (Items items) else None) ≡ Some v → ⊥
  by_test true is = let same : Items items ≡ v = cc in let there = none ∙ ap list_in (sym same) in cc
  by_test false is = cc

pub list_there : (k : Kind) (text : List ℕ) (v : Value) → is_list k ≡ true → value_of k text ≡ Some v → None ≡ list_in v → ⊥
list_there kind.Text text v h is = cc
list_there kind.Unset text v h is = cc
list_there kind.Origin text v h is = cc
list_there (kind.Number least most) text v h is = cc
list_there kind.Code text v h is = cc
list_there kind.Yes text v h is = cc
list_there kind.FixedYes text v h is = cc
list_there k text v h is = items_there k (words_of text) v is

-- a number is one of its kind
both : (a b c : Bool) → (a && b && c) ≡ true → (b ≡ true) × (c ≡ true)
both true true true h = (refl, refl)
both true true false h = cc
both true false c h = cc
both false b c h = cc

number_bounds : (least most : ℕ) (text : List ℕ) (n : ℕ) → option_map Number (number_within least most text) ≡ Some (Number n) → (least ≤ n) × (n ≤ most)
number_bounds least most text n is = by_test (is_number text && nat_le least value && nat_le value most) refl is where
  value : ℕ
  value = digits_value 10 text

  by_test : (t : Bool) → (is_number text && nat_le least value && nat_le value most) ≡ t → option_map Number (if t then Some value else None) ≡ Some (Number n)
      → (least ≤ n) × (n ≤ most)
  by_test false e is = cc
  by_test true e is =
      let same : value ≡ n = cc in
      let within = both (is_number text) (nat_le least value) (nat_le value most) e in
      let low = leb-true least value within.0 in
      let high = leb-true value most within.1 in
      (omega (arith, same, low), omega (arith, same, high))

pub number_of_kind : (k : Kind) (text : List ℕ) (n : ℕ) → is_numeric k ≡ true → value_of k text ≡ Some (Number n) → IsNumberOf k n
number_of_kind (kind.Number least most) text n h is = number_bounds least most text n is
number_of_kind kind.Code text n h is = number_bounds least_code greatest_code text n is
number_of_kind k text n h is = cc

-- items are those of their kind
items_allowed : (k : Kind) (r : Result (List (List ℕ)) WordsFault) (items : List (List ℕ)) → list_of k r ≡ Some (Items items) → are_items k items ≡ true
items_allowed k (Err fault) items is = cc
items_allowed k (Ok words) items is = by_test (are_items k words) refl is where
  by_test : (t : Bool) → are_items k words ≡ t → (if t then Some (Items words) else None) ≡ Some (Items items) → are_items k items ≡ true
  by_test true e is = let same : words ≡ items = cc in ap (are_items k) (sym same) ∙ e
  by_test false e is = cc

pub items_of_kind : (k : Kind) (text : List ℕ) (items : List (List ℕ)) → is_list k ≡ true → value_of k text ≡ Some (Items items) → are_items k items ≡ true
items_of_kind kind.Text text items h is = cc
items_of_kind kind.Unset text items h is = cc
items_of_kind kind.Origin text items h is = cc
items_of_kind (kind.Number least most) text items h is = cc
items_of_kind kind.Code text items h is = cc
items_of_kind kind.Yes text items h is = cc
items_of_kind kind.FixedYes text items h is = cc
items_of_kind k text items h is = items_allowed k (words_of text) items is
