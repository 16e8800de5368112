-- Lists that say the same of each subject.
use Rattle.std.proofs.Common.{◌≡◌, ◌++◌, ◌∷◌, ◌+◌, ◌<◌, ◌≤◌, ◌&&◌, ◌||◌, ◌==◌, ℕ, Bool, true, false, not, List, [], Option, None, Some, refl, sym, ap, ◌∙◌, arith, get_or, length, take, if◌then◌else◌}
use Rattle.std.proofs.lemmas.Grind.{flat_map-append}
use Rattle.std.proofs.lemmas.List.{append-nil, append_assoc, take_all, take_more}
use Rattle.std.proofs.lemmas.List.Elements.{filter_map-append}
use Rattle.std.proofs.lemmas.List.Folds.{list_any-append}
use Rattle.std.proofs.lemmas.Slice.Eq.{bytes_eq-Decides}
use Rattle.std.specs.List.{cons_option, filter_map, list_any}
use Rattle.std.specs.Option.{option_map, option_to_list}
use Rattle.std.specs.Str.{bytes_eq}
use Rattle.pf_asks.specs.Questions as questions
use Rattle.pf_asks.specs.Questions.{done}
use Rattle.pf_asks.specs.Tries.{Try, ◌>>=◌}
use Rattle.pf_class.specs.Clauses.Lists.{SaysAs, names_item}
use Rattle.pf_class.specs.Members.{begins_with_dot, if_matched, is_among, is_member, item_says, names_domain, or_next, pattern_says, table_of, tables_of, turned, with_name}
use Rattle.pf_class.specs.declared.fault.ClassFault.{ClassFault}
use Rattle.pf_class.specs.declared.item.Item.{Item}
use Rattle.pf_class.specs.declared.subject.Subject.{Subject}

pub says_refl : (a : List Item) → SaysAs a a
says_refl a = record { says = λ subject behind. refl; tables = refl }

pub says_sym : {a b : List Item} → SaysAs a b → SaysAs b a
says_sym same = record { says = λ subject behind. sym (same.says subject behind); tables = sym same.tables }

pub says_trans : {a b c : List Item} → SaysAs a b → SaysAs b c → SaysAs a c
says_trans first second = record { says = λ subject behind. first.says subject behind ∙ second.says subject behind; tables = first.tables ∙ second.tables }

tables_append : (a b : List Item) → tables_of (a ++ b) ≡ tables_of a ++ tables_of b
tables_append a b = flat_map-append (λ item. table_of item.pattern) a b

-- with the same items after both
pub says_more : {a b : List Item} (c : List Item) → SaysAs a b → SaysAs (a ++ c) (b ++ c)
says_more {a = a} {b = b} c same = record {
  says = λ subject behind. rw (append_assoc a c behind, append_assoc b c behind) (same.says subject (c ++ behind));
  tables = rw (tables_append a c, tables_append b c) (ap (λ tables. tables ++ tables_of c) same.tables);
}

same_behind : (a b c : List Item) (subject : Subject) → is_member b subject ≡ is_member c subject → is_member (a ++ b) subject ≡ is_member (a ++ c) subject
unfolding is_member
same_behind [] b c subject same = same
same_behind (item ∷ a) b c subject same =
    ap (λ q. item_says item subject >>= (λ says. or_next says q)) (same_behind a b c subject same)

-- and before both
pub says_after : {b c : List Item} (a : List Item) → SaysAs b c → SaysAs (a ++ b) (a ++ c)
says_after {b = b} {c = c} a same = record {
  says = λ subject behind. rw (append_assoc a b behind, append_assoc a c behind)
      (same_behind a (b ++ behind) (c ++ behind) subject (same.says subject behind));
  tables = rw (tables_append a b, tables_append a c) (ap (λ tables. tables_of a ++ tables) same.tables);
}

-- what an item of names says
names_say : (excludes : Bool) (names : List (List ℕ)) (behind : List Item) (subject : Subject)
    → is_member (names_item excludes names ∷ behind) subject ≡ or_next (option_map (turned excludes) (if_matched (names_domain names subject.keys))) (is_member behind subject)
unfolding is_member item_says pattern_says done questions.◌>>=◌
names_say excludes names behind subject = refl

-- no names have no domain
none_among : (parents : List (List ℕ)) → list_any (λ parent. not (begins_with_dot parent) && is_among [] parent) parents ≡ false
none_among [] = refl
none_among (parent ∷ parents) = by (begins_with_dot parent) (none_among parents)
  where
    by : (dot : Bool) → list_any (λ parent. not (begins_with_dot parent) && is_among [] parent) parents ≡ false
        → ((not dot && false) || list_any (λ parent. not (begins_with_dot parent) && is_among [] parent) parents) ≡ false
    by true rest = rest
    by false rest = rest

no_domain : (keys : List (List ℕ)) → names_domain [] keys ≡ false
no_domain [] = refl
no_domain (domain ∷ parents) = none_among parents

pub says_nothing : (excludes : Bool) → SaysAs (names_item excludes [] ∷ []) []
says_nothing excludes = record {
  says = λ subject behind. names_say excludes [] behind subject
      ∙ ap (λ has. or_next (option_map (turned excludes) (if_matched has)) (is_member behind subject)) (no_domain subject.keys);
  tables = refl;
}

-- a name more
known : (names : List (List ℕ)) (name other : List ℕ) → is_among names name ≡ true → is_among names other ≡ (is_among names other || is_among (name ∷ []) other)
known names name other has = by (bytes_eq other name) (is_among names other) (λ same. rw ((bytes_eq-Decides other name).0 same) has)
  where
    by : (same among : Bool) → (same ≡ true → among ≡ true) → among ≡ (among || (same || false))
    by true true is = refl
    by true false is = is refl
    by false true is = refl
    by false false is = refl

among_more : (names : List (List ℕ)) (name other : List ℕ) → is_among (with_name names name) other ≡ (is_among names other || is_among (name ∷ []) other)
among_more names name other = by (is_among names name) refl
  where
    by : (has : Bool) → is_among names name ≡ has → is_among (if has then names else names ++ name ∷ []) other ≡ (is_among names other || is_among (name ∷ []) other)
    by true has = known names name other has
    by false has = list_any-append (bytes_eq other) names (name ∷ [])

either : (dot a b more others : Bool) → ((not dot && (a || b)) || (more || others)) ≡ (((not dot && a) || more) || ((not dot && b) || others))
either true a b more others = refl
either false true b more others = refl
either false false true true others = refl
either false false true false others = refl
either false false false more others = refl

parents_more : (names : List (List ℕ)) (name : List ℕ) (parents : List (List ℕ))
    → list_any (λ parent. not (begins_with_dot parent) && is_among (with_name names name) parent) parents
    ≡ (list_any (λ parent. not (begins_with_dot parent) && is_among names parent) parents
    || list_any (λ parent. not (begins_with_dot parent) && is_among (name ∷ []) parent) parents)
parents_more names name [] = refl
parents_more names name (parent ∷ parents) =
    rw (among_more names name parent, parents_more names name parents) (either (begins_with_dot parent) (is_among names parent) (is_among (name ∷ []) parent) _ _)

domain_more : (names : List (List ℕ)) (name : List ℕ) (keys : List (List ℕ))
    → names_domain (with_name names name) keys ≡ (names_domain names keys || names_domain (name ∷ []) keys)
domain_more names name [] = refl
domain_more names name (domain ∷ parents) =
    rw (among_more names name domain, parents_more names name parents) (either false (is_among names domain) (is_among (name ∷ []) domain) _ _)

joined : (excludes a b : Bool) (behind : Try ClassFault Bool) → or_next (option_map (turned excludes) (if_matched (a || b))) behind
    ≡ or_next (option_map (turned excludes) (if_matched a)) (or_next (option_map (turned excludes) (if_matched b)) behind)
joined excludes true b behind = refl
joined excludes false b behind = refl

-- an item of names with one more is that of the names and one of that name after it
pub says_joined : (excludes : Bool) (names : List (List ℕ)) (name : List ℕ)
    → SaysAs (names_item excludes (with_name names name) ∷ []) (names_item excludes names ∷ names_item excludes (name ∷ []) ∷ [])
says_joined excludes names name = record {
  says = λ subject behind.
      names_say excludes (with_name names name) behind subject
      ∙ ap (λ has. or_next (option_map (turned excludes) (if_matched has)) (is_member behind subject)) (domain_more names name subject.keys)
      ∙ joined excludes (names_domain names subject.keys) (names_domain (name ∷ []) subject.keys) (is_member behind subject)
      ∙ sym (names_say excludes names (names_item excludes (name ∷ []) ∷ behind) subject
      ∙ ap (or_next (option_map (turned excludes) (if_matched (names_domain names subject.keys)))) (names_say excludes (name ∷ []) behind subject));
  tables = refl;
}

-- items without names after them
pub says_closed : {a b : List Item} (excludes : Bool) → SaysAs a b → SaysAs (a ++ names_item excludes [] ∷ []) b
says_closed {a = a} {b = b} excludes same = says_trans (rw (append-nil a) at (says_after a (says_nothing excludes))) same

pub says_empty : (a : List Item) (excludes : Bool) (names : List (List ℕ)) → (length names == 0) ≡ true → SaysAs a (a ++ names_item excludes names ∷ [])
says_empty a excludes [] none = says_sym (says_closed excludes (says_refl a))
says_empty a excludes (name ∷ names) none = absurd (grind (arith, none))

-- a name joins those that were gathered
pub says_name : {b : List Item} {excludes : Bool} {more : List (List ℕ)} (items : List Item) (now : Bool) (names : List (List ℕ)) (name : List ℕ)
    → now ≡ excludes → more ≡ with_name names name → SaysAs (items ++ names_item now names ∷ []) b
    → SaysAs (items ++ names_item now more ∷ []) (b ++ names_item excludes (name ∷ []) ∷ [])
says_name items now names name one is same = rw (← one, is)
    (says_trans (says_after items (says_joined now names name))
    (rw (append_assoc items (names_item now names ∷ []) (names_item now (name ∷ []) ∷ [])) at (says_more (names_item now (name ∷ []) ∷ []) same)))

-- an item after those that were gathered, which are in the list then
pub says_pushed : {a b new : List Item} {names : List (List ℕ)} (excludes : Bool) (item : Item) → new ≡ a ++ item ∷ [] → names ≡ [] → SaysAs a b
    → SaysAs (new ++ names_item excludes names ∷ []) (b ++ item ∷ [])
says_pushed excludes item is none same = rw (is, none) (says_closed excludes (says_more (item ∷ []) same))

pub word_more : {X Y : Type 0} (item : X → Option Y) (words : List X) (i : ℕ) (d : X) → i < length words
    → filter_map item (take (i + 1) words) ≡ filter_map item (take i words) ++ option_to_list (item (get_or words i d))
word_more {Y = Y} item words i d less =
    ap (filter_map item) (take_more words i d less) ∙ filter_map-append item (take i words) (get_or words i d ∷ [])
    ∙ ap (λ more. filter_map item (take i words) ++ more) (one (item (get_or words i d)))
  where
    one : (o : Option Y) → cons_option o [] ≡ option_to_list o
    one None = refl
    one (Some x) = refl

-- a word more
next_word : {X Y : Type 0} (item : X → Option Y) (words : List X) (i : ℕ) (word : X) → i < length words → word ≡ get_or words i word
    → filter_map item (take (i + 1) words) ≡ filter_map item (take i words) ++ option_to_list (item word)
next_word item words i word less at = rw (← at) at (word_more item words i word less)

pub items_word : {X Y : Type 0} {old new : List Y} (item : X → Option Y) (words : List X) (i : ℕ) (word : X) → i < length words → word ≡ get_or words i word
    → old ≡ filter_map item (take i words) → new ≡ old ++ option_to_list (item word) → new ≡ filter_map item (take (i + 1) words)
items_word item words i word less at before more =
    more ∙ ap (λ items. items ++ option_to_list (item word)) before ∙ sym (next_word item words i word less at)

pub says_word : {X : Type 0} {a b : List Item} (item : X → Option Item) (words : List X) (i : ℕ) (word : X) → i < length words → word ≡ get_or words i word
    → SaysAs a (filter_map item (take i words)) → SaysAs b (a ++ option_to_list (item word)) → SaysAs b (filter_map item (take (i + 1) words))
says_word item words i word less at before more =
    says_trans more (rw (← next_word item words i word less at) at (says_more (option_to_list (item word)) before))

-- all words
pub says_all : {X : Type 0} {a b : List Item} (item : X → Option Item) (words : List X) (i : ℕ) → length words ≤ i
    → SaysAs a (filter_map item (take i words)) → SaysAs b a → SaysAs b (filter_map item words)
says_all item words i past before more = says_trans more (rw (take_all i words past) at before)
