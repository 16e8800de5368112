-- The places of the items that a key may match.
use Rattle.std.proofs.Common.{◌≡◌, ◌||◌, ℕ, zero, suc, ◌+◌, ◌<◌, ◌==◌, Bool, true, false, List, [], ◌∷◌, ◌++◌, length, get_or, take, Option, Some, None, refl, sym, ap, subst, ◌∙◌, arith}
use Rattle.std.specs.Prelude.{if◌then◌else◌}
use Rattle.std.specs.List.{position_from}
use Rattle.std.specs.Str.{bytes_eq}
use Rattle.std.proofs.lemmas.Bool.{eqb-true}
use Rattle.std.proofs.lemmas.List.{take_more}
use Rattle.std.proofs.lemmas.Slice.Eq.{bytes_eq-Decides}
use Rattle.pf_base.specs.Text.Ascii as ascii
use Rattle.pf_listfile.specs.Clauses.Places.{AreFirst, IsIndex, Puts, PutsFirst, at_dot, earlier, first_below, has_text, is_net, net_places, or_place, text_of}
use Rattle.pf_listfile.specs.Items.{is_below, names_domain, names_host}
use Rattle.pf_listfile.specs.declared.item.Item.{Item}
use Rattle.pf_listfile.specs.declared.item.Pattern.{Pattern}
use Rattle.pf_listfile.specs.declared.item.Pattern.TheVariants as pattern
use Rattle.pf_listfile.specs.declared.places.Kind.{Kind}
use Rattle.pf_listfile.specs.declared.places.Kind.TheVariants.{Below, Name}
use Rattle.pf_listfile.proofs.Cases.{either_way}
use Rattle.pf_listfile.proofs.FirstLaws.{alike, earlier_is, first_more, none_passes, or_last}

-- a text that has a place keeps it
pub stays : (places : List ℕ → Option ℕ) (set : List ℕ) (place first : ℕ) → places set ≡ Some first → PutsFirst places places set place
stays places set place first is text = by_test (bytes_eq set text) refl where
  kept : (there : Option ℕ) → there ≡ Some first → there ≡ or_place there place
  kept None e = cc
  kept (Some p) e = refl

  by_test : (t : Bool) → bytes_eq set text ≡ t → places text ≡ (if t then or_place (places text) place else places text)
  by_test false e = refl
  by_test true e = kept (places text) (subst (λ s. places s ≡ Some first) ((bytes_eq-Decides set text).0 e) is)

-- one that has none gets this one
pub put_first : (old new : List ℕ → Option ℕ) (set : List ℕ) (place : ℕ) → old set ≡ None → Puts old new set place → PutsFirst old new set place
put_first old new set place none puts text = puts text ∙ by_test (bytes_eq set text) refl where
  by_test : (t : Bool) → bytes_eq set text ≡ t → (if t then Some place else old text) ≡ (if t then or_place (old text) place else old text)
  by_test false e = refl
  by_test true e = let there : old text ≡ None = subst (λ s. old s ≡ None) ((bytes_eq-Decides set text).0 e) none in rw there refl

last_is : (first : Option ℕ) (passes : Bool) (place : ℕ) → (if passes then or_place first place else first) ≡ or_last first passes place
last_is None true place = refl
last_is None false place = refl
last_is (Some first) true place = refl
last_is (Some first) false place = refl

length_prefix : (xs : List Item) (i : ℕ) → i < length xs → length (take i xs) ≡ i
length_prefix [] i h = absurd (omega arith)
length_prefix (x ∷ xs) zero h = refl
length_prefix (x ∷ xs) (suc i) h = ap suc (length_prefix xs i (omega arith))

at_end : (xs : List Item) (i : ℕ) → i < length xs → length (take i xs) + 0 ≡ i
at_end xs i h = let len = length_prefix xs i h in omega (arith, len)

text_shown : (kind : Kind) (item : Item) (text asked : List ℕ) → text_of kind item.pattern ≡ Some text → has_text kind asked item ≡ bytes_eq text asked
text_shown kind item text asked is = rw is refl

text_hidden : (kind : Kind) (item : Item) (asked : List ℕ) → text_of kind item.pattern ≡ None → has_text kind asked item ≡ false
text_hidden kind item asked is = rw is refl

-- an item more that has a text
pub first_put : (old new : List ℕ → Option ℕ) (kind : Kind) (items : List Item) (i : ℕ) (item : Item) (text : List ℕ) → i < length items
    → item ≡ get_or items i item → text_of kind item.pattern ≡ Some text → AreFirst old kind (take i items) → PutsFirst old new text i
    → AreFirst new kind (take (i + 1) items)
first_put old new kind items i item text within at is first puts asked =
    let all = take_more items i item within ∙ ap (λ x. take i items ++ x ∷ []) (sym at) in
    let more = first_more (has_text kind asked) 0 (take i items) item in
    puts asked
    ∙ last_is (old asked) (bytes_eq text asked) i
    ∙ ap (λ p. or_last p (bytes_eq text asked) i) (first asked)
    ∙ ap (λ t. or_last (position_from (has_text kind asked) 0 (take i items)) t i) (sym (text_shown kind item text asked is))
    ∙ ap (or_last (position_from (has_text kind asked) 0 (take i items)) (has_text kind asked item)) (sym (at_end items i within))
    ∙ sym more
    ∙ ap (position_from (has_text kind asked) 0) (sym all)

-- and one that has none
pub first_left : (old : List ℕ → Option ℕ) (kind : Kind) (items : List Item) (i : ℕ) (item : Item) → i < length items
    → item ≡ get_or items i item → text_of kind item.pattern ≡ None → AreFirst old kind (take i items) → AreFirst old kind (take (i + 1) items)
first_left old kind items i item within at is first asked =
    let all = take_more items i item within ∙ ap (λ x. take i items ++ x ∷ []) (sym at) in
    let more = first_more (has_text kind asked) 0 (take i items) item in
    first asked
    ∙ last_is (position_from (has_text kind asked) 0 (take i items)) false i
    ∙ ap (λ t. or_last (position_from (has_text kind asked) 0 (take i items)) t i) (sym (text_hidden kind item asked is))
    ∙ ap (or_last (position_from (has_text kind asked) 0 (take i items)) (has_text kind asked item)) (sym (at_end items i within))
    ∙ sym more
    ∙ ap (position_from (has_text kind asked) 0) (sym all)

net_last : (n : ℕ) (xs : List Item) (y : Item)
    → net_places n (xs ++ y ∷ []) ≡ net_places n xs ++ (if is_net y.pattern then (length xs + n) ∷ [] else [])
net_last n [] y = ap (λ m. if is_net y.pattern then m ∷ [] else []) (omega arith)
net_last n (x ∷ xs) y =
    either_way (is_net x.pattern)
    (λ h. rw h (ap (λ more. n ∷ more) (next (net_last (n + 1) xs y))))
    (λ h. rw h (next (net_last (n + 1) xs y))) where
      next : net_places (n + 1) (xs ++ y ∷ []) ≡ net_places (n + 1) xs ++ (if is_net y.pattern then (length xs + (n + 1)) ∷ [] else [])
          → net_places (n + 1) (xs ++ y ∷ []) ≡ net_places (n + 1) xs ++ (if is_net y.pattern then (length (x ∷ xs) + n) ∷ [] else [])
      next e = e ∙ ap (λ m. net_places (n + 1) xs ++ (if is_net y.pattern then m ∷ [] else [])) (omega arith)

-- the places of the nets among one item more
pub net_more : (items : List Item) (i : ℕ) (item : Item) → i < length items → item ≡ get_or items i item
    → net_places 0 (take (i + 1) items) ≡ net_places 0 (take i items) ++ (if is_net item.pattern then i ∷ [] else [])
net_more items i item within at =
    ap (net_places 0) (take_more items i item within ∙ ap (λ x. take i items ++ x ∷ []) (sym at))
    ∙ net_last 0 (take i items) item
    ∙ ap (λ m. net_places 0 (take i items) ++ (if is_net item.pattern then m ∷ [] else [])) (at_end items i within)

pub earlier_none : (place : Option ℕ) → earlier place None ≡ place
earlier_none None = refl
earlier_none (Some place) = refl

pub earlier_assoc : (a b c : Option ℕ) → earlier (earlier a b) c ≡ earlier a (earlier b c)
earlier_assoc None b c = refl
earlier_assoc (Some a) None c = refl
earlier_assoc (Some a) (Some b) None = refl
earlier_assoc (Some a) (Some b) (Some c) = ap Some (omega arith)

-- an item is a name after a dot, which this text is
abbrev dotted : List ℕ → Pattern → Bool
dotted text (pattern.Name name) = false
dotted text (pattern.Below name) = bytes_eq (ascii.dot ∷ name) text
dotted text (pattern.Net net) = false

-- or one that this text is below
abbrev is_over : List ℕ → Pattern → Bool
is_over text (pattern.Name name) = false
is_over text (pattern.Below name) = is_below name text
is_over text (pattern.Net net) = false

or_false : (b : Bool) → b ≡ (b || false)
or_false true = refl
or_false false = refl

domain_parts : (domain : List ℕ) (item : Item) → names_domain item.pattern domain ≡ (has_text Name domain item || dotted domain item.pattern)
domain_parts domain item = by item.pattern where
  by : (one : Pattern) → names_domain one domain ≡ (has_text Name domain (record item { pattern = one }) || dotted domain one)
  by (pattern.Name name) = or_false (bytes_eq name domain)
  by (pattern.Below name) = refl
  by (pattern.Net net) = refl

host_parts : (host : List ℕ) (item : Item) → names_host item.pattern host ≡ (has_text Name host item || is_over host item.pattern)
host_parts host item = by item.pattern where
  by : (one : Pattern) → names_host one host ≡ (has_text Name host (record item { pattern = one }) || is_over host one)
  by (pattern.Name name) = or_false (bytes_eq name host)
  by (pattern.Below name) = refl
  by (pattern.Net net) = refl

over_parts : (b : ℕ) (host : List ℕ) (item : Item) → is_over (b ∷ host) item.pattern ≡ (dotted host item.pattern || is_over host item.pattern)
over_parts b host item = by item.pattern where
  by : (one : Pattern) → is_over (b ∷ host) one ≡ (dotted host one || is_over host one)
  by (pattern.Name name) = refl
  by (pattern.Below name) = refl
  by (pattern.Net net) = refl

dotted_empty : (item : Item) → dotted [] item.pattern ≡ false
dotted_empty item = by item.pattern where
  by : (one : Pattern) → dotted [] one ≡ false
  by (pattern.Name name) = refl
  by (pattern.Below name) = refl
  by (pattern.Net net) = refl

over_empty : (item : Item) → is_over [] item.pattern ≡ false
over_empty item = by item.pattern where
  by : (one : Pattern) → is_over [] one ≡ false
  by (pattern.Name name) = refl
  by (pattern.Below name) = refl
  by (pattern.Net net) = refl

dotted_dot : (text : List ℕ) (item : Item) → dotted (ascii.dot ∷ text) item.pattern ≡ has_text Below text item
dotted_dot text item = by item.pattern where
  by : (one : Pattern) → dotted (ascii.dot ∷ text) one ≡ has_text Below text (record item { pattern = one })
  by (pattern.Name name) = refl
  by (pattern.Below name) = refl
  by (pattern.Net net) = refl

dotted_other : (b : ℕ) (text : List ℕ) → (b == ascii.dot) ≡ false → (item : Item) → dotted (b ∷ text) item.pattern ≡ false
dotted_other b text other item = by item.pattern where
  differs : (name : List ℕ) (t : Bool) → bytes_eq (ascii.dot ∷ name) (b ∷ text) ≡ t → bytes_eq (ascii.dot ∷ name) (b ∷ text) ≡ false
  differs name false e = e
  differs name true e =
      let same : ascii.dot ∷ name ≡ b ∷ text = (bytes_eq-Decides (ascii.dot ∷ name) (b ∷ text)).0 e in
      let first : ascii.dot ≡ b = cc in
      absurd (no (subst (λ x. (x == ascii.dot) ≡ false) (sym first) other)) where
        no : (ascii.dot == ascii.dot) ≡ false → ⊥
        no h = cc

  by : (one : Pattern) → dotted (b ∷ text) one ≡ false
  by (pattern.Name name) = refl
  by (pattern.Below name) = differs name (bytes_eq (ascii.dot ∷ name) (b ∷ text)) refl
  by (pattern.Net net) = refl

-- where the first `.name` is that a text is
dotted_is : (below : List ℕ → Option ℕ) (items : List Item) → AreFirst below Below items → (text : List ℕ)
    → at_dot below text ≡ position_from (λ item. dotted text item.pattern) 0 items
dotted_is below items first [] = sym (none_passes (λ item. dotted [] item.pattern) (λ item. false) dotted_empty 0 items)
dotted_is below items first (b ∷ text) =
    either_way (b == ascii.dot)
    (λ h. let is : b ≡ ascii.dot = eqb-true _ _ h in
    subst (λ x. at_dot below (x ∷ text) ≡ position_from (λ item. dotted (x ∷ text) item.pattern) 0 items) (sym is)
    (first text ∙ sym (alike (λ item. dotted (ascii.dot ∷ text) item.pattern) (has_text Below text) (dotted_dot text) 0 items)))
    (λ h. rw h (sym (none_passes (λ item. dotted (b ∷ text) item.pattern) (λ item. false) (dotted_other b text h) 0 items)))

over_is : (below : List ℕ → Option ℕ) (items : List Item) → AreFirst below Below items → (host : List ℕ)
    → first_below below host ≡ position_from (λ item. is_over host item.pattern) 0 items
over_is below items first [] = sym (none_passes (λ item. is_over [] item.pattern) (λ item. false) over_empty 0 items)
over_is below items first (b ∷ host) =
    ap (λ place. earlier place (first_below below host)) (dotted_is below items first host)
    ∙ ap (earlier (position_from (λ item. dotted host item.pattern) 0 items)) (over_is below items first host)
    ∙ sym (earlier_is (λ item. dotted host item.pattern) (λ item. is_over host item.pattern) 0 items)
    ∙ sym (alike (λ item. is_over (b ∷ host) item.pattern) (λ item. dotted host item.pattern || is_over host item.pattern) (over_parts b host) 0 items)

module _ (names below : List ℕ → Option ℕ) (nets : List ℕ) (items : List Item) (index : IsIndex names below nets items) where
  -- where the first item is that a domain matches
  pub domain_at : (domain : List ℕ) → earlier (names domain) (at_dot below domain) ≡ position_from (λ item. names_domain item.pattern domain) 0 items
  domain_at domain =
      ap (λ place. earlier place (at_dot below domain)) (index.names_first domain)
      ∙ ap (earlier (position_from (has_text Name domain) 0 items)) (dotted_is below items index.below_first domain)
      ∙ sym (earlier_is (has_text Name domain) (λ item. dotted domain item.pattern) 0 items)
      ∙ sym (alike (λ item. names_domain item.pattern domain) (λ item. has_text Name domain item || dotted domain item.pattern) (domain_parts domain) 0 items)

  -- and that a host name matches
  pub host_at : (host : List ℕ) → earlier (names host) (first_below below host) ≡ position_from (λ item. names_host item.pattern host) 0 items
  host_at host =
      ap (λ place. earlier place (first_below below host)) (index.names_first host)
      ∙ ap (earlier (position_from (has_text Name host) 0 items)) (over_is below items index.below_first host)
      ∙ sym (earlier_is (has_text Name host) (λ item. is_over host item.pattern) 0 items)
      ∙ sym (alike (λ item. names_host item.pattern host) (λ item. has_text Name host item || is_over host item.pattern) (host_parts host) 0 items)
