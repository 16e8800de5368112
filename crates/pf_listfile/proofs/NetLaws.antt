-- The first net that has an address, among the places of the nets.
use Rattle.std.proofs.Common.{◌≡◌, ℕ, zero, suc, ◌+◌, ◌<◌, Bool, true, false, List, [], ◌∷◌, length, get_or, drop, cond, Option, Some, None, refl, sym, ap, subst, ◌∙◌, arith}
use Rattle.std.specs.List.{position_from, slice_get}
use Rattle.pf_cidr.specs.declared.address.Addr.{Addr}
use Rattle.pf_listfile.specs.Clauses.Places.{has_at, is_net, net_places}
use Rattle.pf_listfile.specs.Items.{has_address}
use Rattle.pf_listfile.specs.declared.item.Item.{Item}
use Rattle.pf_listfile.specs.declared.item.Pattern.{Pattern}
use Rattle.pf_listfile.specs.declared.item.Pattern.TheVariants as pattern
use Rattle.pf_listfile.proofs.Cases.{either_way}

-- the first of places that passes a test
abbrev pub scan : (ℕ → Bool) → List ℕ → Option ℕ
scan test [] = None
scan test (place ∷ places) = cond (test place) (Some place) (scan test places)

only_nets : (item : Item) (addr : Addr) → is_net item.pattern ≡ false → has_address item.pattern (Some addr) ≡ false
only_nets item addr is = by item.pattern is where
  by : (one : Pattern) → is_net one ≡ false → has_address one (Some addr) ≡ false
  by (pattern.Name name) h = refl
  by (pattern.Below name) h = refl
  by (pattern.Net net) h = cc

-- items from a place on are those of a list
abbrev AtPlace : List Item → ℕ → List Item → Type 0
AtPlace all n xs = (j : ℕ) → slice_get all (n + j) ≡ slice_get xs j

here : (all : List Item) (addr : Addr) (n : ℕ) (x : Item) (xs : List Item) → AtPlace all n (x ∷ xs) → has_at all addr n ≡ has_address x.pattern (Some addr)
here all addr n x xs at = let there : slice_get all n ≡ Some x = ap (slice_get all) (omega arith) ∙ at 0 in rw there refl

scans : (all : List Item) (addr : Addr) (n : ℕ) (xs : List Item) → AtPlace all n xs
    → scan (has_at all addr) (net_places n xs) ≡ position_from (λ item. has_address item.pattern (Some addr)) n xs
scans all addr n [] at = refl
scans all addr n (x ∷ xs) at =
    let behind = scans all addr (n + 1) xs (λ j. ap (slice_get all) (omega arith) ∙ at (suc j)) in
    either_way (is_net x.pattern)
    (λ h. rw h (ap (λ t. cond t (Some n) (scan (has_at all addr) (net_places (n + 1) xs))) (here all addr n x xs at)
    ∙ ap (cond (has_address x.pattern (Some addr)) (Some n)) behind))
    (λ h. rw (h, only_nets x addr h) behind)

pub nets_scanned : (items : List Item) (addr : Addr) → scan (has_at items addr) (net_places 0 items) ≡ position_from (λ item. has_address item.pattern (Some addr)) 0 items
nets_scanned items addr = scans items addr 0 items (λ j. ap (slice_get items) (omega arith))

places_within : (n : ℕ) (xs : List Item) (i d : ℕ) → i < length (net_places n xs) → get_or (net_places n xs) i d < n + length xs
places_within n [] i d h = absurd (omega (arith, h))
places_within n (x ∷ xs) i d h =
    either_way (is_net x.pattern)
    (λ e. rw e (by_index i (rw e at h) (places_within (n + 1) xs)))
    (λ e. rw e (let less = places_within (n + 1) xs i d (rw e at h) in omega (arith, less)))
  where
    by_index : (k : ℕ) → k < length (n ∷ net_places (n + 1) xs)
        → ((j e : ℕ) → j < length (net_places (n + 1) xs) → get_or (net_places (n + 1) xs) j e < (n + 1) + length xs)
        → get_or (n ∷ net_places (n + 1) xs) k d < n + length (x ∷ xs)
    by_index zero k behind = omega arith
    by_index (suc j) k behind = let less = behind j d (omega (arith, k)) in omega (arith, less)

-- the places are those of items
pub net_within : (items : List Item) (nets : List ℕ) (i d : ℕ) → nets ≡ net_places 0 items → i < length nets → get_or nets i d < length items
net_within items nets i d is h = subst (λ places. i < length places → get_or places i d < length items) (sym is) (λ k. let less = places_within 0 items i d k in omega (arith, less)) h

there : (items : List Item) (place : ℕ) (item : Item) → place < length items → item ≡ get_or items place item → slice_get items place ≡ Some item
there [] place item within at = absurd (omega (arith, within))
there (x ∷ items) zero item within at = ap Some (sym at)
there (x ∷ items) (suc place) item within at = there items place item (omega (arith, within)) at

-- the item at a place of a list has it
pub has_here : (items : List Item) (addr : Addr) (place : ℕ) (item : Item) → place < length items → item ≡ get_or items place item
    → has_at items addr place ≡ has_address item.pattern (Some addr)
has_here items addr place item within at = rw (there items place item within at) refl

-- a place that passes is the first one, and behind one that does not the first is that of the others
pub scan_here : (test : ℕ → Bool) (places : List ℕ) (i d : ℕ) → i < length places → true ≡ test (get_or places i d)
    → Some (get_or places i d) ≡ scan test (drop i places)
scan_here test [] i d h e = absurd (omega (arith, h))
scan_here test (place ∷ places) zero d h e = rw (← e) refl
scan_here test (place ∷ places) (suc i) d h e = scan_here test places i d (omega (arith, h)) e

pub scan_behind : (test : ℕ → Bool) (places : List ℕ) (i d : ℕ) → i < length places → false ≡ test (get_or places i d)
    → scan test (drop (i + 1) places) ≡ scan test (drop i places)
scan_behind test [] i d h e = absurd (omega (arith, h))
scan_behind test (place ∷ places) zero d h e = rw (← e) refl
scan_behind test (place ∷ places) (suc i) d h e =
    let next : suc i + 1 ≡ suc (i + 1) = omega arith in
    ap (λ n. scan test (drop n (place ∷ places))) next ∙ scan_behind test places i d (omega (arith, h)) e
