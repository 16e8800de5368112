-- Each value that a table of patterns has at some key is among its results.
use Rattle.std.proofs.Common.{◌≡◌, ◌||◌, ℕ, Bool, true, false, List, [], ◌∷◌, Option, Some, None, refl, sym, ap, ◌∙◌}
use Rattle.std.specs.Prelude.{if◌then◌else◌, is_some, option_map}
use Rattle.std.proofs.lemmas.Slice.Eq.{bytes_eq-Decides}
use Rattle.std.specs.List.{flat_map, list_all, list_any}
use Rattle.std.specs.Option.{option_or}
use Rattle.std.specs.Str.{bytes_eq}
use Rattle.std.specs.Str.Lossy.{utf8_lossy}
use Rattle.pf_asks.specs.declared.lookup.Found.TheVariants.{Value}
use Rattle.pf_asks.specs.Looking.{HasAll, IsAmong}
use Rattle.pf_asks.specs.declared.lookup.Results.TheVariants.{Anything, Listed}
use Rattle.pf_pcre.specs.Patterns.{Seen, expanded, found, span_of}
use Rattle.pf_pcre.specs.Tables.{entry_values, first_of, first_value, found_as, has_group, holds, names_group, pcre_meaning, plain_value, results_of, rule_value, rules_of}
use Rattle.pf_pcre.specs.declared.entry.Condition.{Condition}
use Rattle.pf_pcre.specs.declared.entry.Entry.{Entry}
use Rattle.pf_pcre.specs.declared.entry.Entry.TheVariants.{Endif, If, Rule}
use Rattle.pf_pcre.specs.declared.entry.Rule as rules
use Rattle.pf_pcre.specs.declared.pieces.Piece.{Piece}
use Rattle.pf_pcre.specs.declared.pieces.Piece.TheVariants.{Byte, Group}
use Rattle.pf_pcre.proofs.Cases.{either_way}

alike : (a b : List ℕ) → a ≡ b → bytes_eq a b ≡ true
alike a b e = (bytes_eq-Decides a b).1 e

or_left : (a b : Bool) → a ≡ true → (a || b) ≡ true
or_left true b e = refl
or_left false b e = cc

or_right : (a b : Bool) → b ≡ true → (a || b) ≡ true
or_right true b e = refl
or_right false b e = e

neither : (a b : Bool) → (a || b) ≡ false → (a ≡ false) × (b ≡ false)
neither true b e = cc
neither false b e = (refl, e)

-- without groups a result is the same in each text
plain : (text : List ℕ) (spans : ℕ → Option (ℕ × ℕ)) (pieces : List Piece) → names_group pieces ≡ false → expanded text spans pieces ≡ plain_value pieces
plain text spans [] none = refl
plain text spans (Byte b ∷ pieces) none = ap (λ rest. b ∷ rest) (plain text spans pieces none)
plain text spans (Group group ∷ pieces) none = cc

of_seen : (text value : List ℕ) (pieces : List Piece) (seen : Option Seen) → names_group pieces ≡ false
    → option_map (λ s. expanded text (span_of s) pieces) seen ≡ Some value → plain_value pieces ≡ value
of_seen text value pieces None none is = cc
of_seen text value pieces (Some s) none is = let e : expanded text (span_of s) pieces ≡ value = cc in sym (plain text (span_of s) pieces none) ∙ e

of_rule : (text value : List ℕ) (rule : rules.Rule) → names_group rule.pieces ≡ false → rule_value text rule ≡ Some value → plain_value rule.pieces ≡ value
of_rule text value rule none is =
    either_way rule.condition.negated
    (λ negated. without (is_some (found rule.condition.pattern text)) (rw negated at is))
    (λ plainly. of_seen text value rule.pieces (found rule.condition.pattern text) none (rw plainly at is)) where
      without : (t : Bool) → (if t then None else Some (plain_value rule.pieces)) ≡ Some value → plain_value rule.pieces ≡ value
      without true h = cc
      without false h = cc

of_within : (text value : List ℕ) (t : Bool) (rule : rules.Rule) → names_group rule.pieces ≡ false
    → (if t then rule_value text rule else None) ≡ Some value → plain_value rule.pieces ≡ value
of_within text value true rule none is = of_rule text value rule none is
of_within text value false rule none is = cc

either_value : (a b : Option (List ℕ)) (value : List ℕ) (P : Type 0) → option_or a b ≡ Some value → (a ≡ Some value → P) → (b ≡ Some value → P) → P
either_value None b value P is f g = g is
either_value (Some x) b value P is f g = f is

among : (text value : List ℕ) (conditions : List Condition) (entries : List Entry) → list_any has_group entries ≡ false
    → first_of text (rules_of conditions entries) ≡ Some value → list_any (bytes_eq value) (flat_map entry_values entries) ≡ true
among text value conditions [] none is = cc
among text value conditions (Rule rule ∷ entries) none is =
    let parts = neither (names_group rule.pieces) (list_any has_group entries) none in
    either_value (if list_all (holds text) conditions then rule_value text rule else None) (first_of text (rules_of conditions entries)) value _ is
    (λ here. or_left (bytes_eq value (plain_value rule.pieces)) (list_any (bytes_eq value) (flat_map entry_values entries)) (alike value (plain_value rule.pieces) (sym (of_within text value (list_all (holds text) conditions) rule parts.0 here))))
    (λ behind. or_right (bytes_eq value (plain_value rule.pieces)) (list_any (bytes_eq value) (flat_map entry_values entries)) (among text value conditions entries parts.1 behind))
among text value conditions (If condition ∷ entries) none is = among text value _ entries none is
among text value conditions (Endif ∷ entries) none is = among text value _ entries none is

found_value : (o : Option (List ℕ)) (value : List ℕ) → found_as o ≡ Value value → o ≡ Some value
found_value None value is = cc
found_value (Some x) value is = let e : x ≡ value = cc in ap Some e

has : (entries : List Entry) (text value : List ℕ) → first_value entries text ≡ Some value → (t : Bool) → list_any has_group entries ≡ t
    → IsAmong value (if t then Anything else Listed (flat_map entry_values entries))
unfolding first_value
has entries text value is true some = tt
has entries text value is false none = among text value [] entries none is

pub has_all : (entries : List Entry) → HasAll (pcre_meaning entries)
unfolding results_of
has_all entries key value is =
    let e : found_as (first_value entries (utf8_lossy key)) ≡ Value value = cc in
    has entries (utf8_lossy key) value (found_value _ value e) (list_any has_group entries) refl
