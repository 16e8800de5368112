-- What the first item says that a key matches.
use Rattle.std.proofs.Common.{◌≡◌, ℕ, ◌+◌, ◌<◌, false, List, length, Option, Some, None, refl, sym, ap, subst, ◌∙◌, arith}
use Rattle.std.specs.Prelude.{IfSome}
use Rattle.std.specs.List.{position_from, slice_get}
use Rattle.pf_asks.specs.declared.lookup.Found.TheVariants.{Value, Absent}
use Rattle.pf_base.specs.Text.Names.{folded}
use Rattle.pf_cidr.specs.Addresses.{address_of}
use Rattle.pf_listfile.specs.Clauses.Places.{earlier}
use Rattle.pf_listfile.specs.Items.{has_address, matches, matches_plain, names_host}
use Rattle.pf_listfile.specs.ListFile.{found_in, says, value_of}
use Rattle.pf_listfile.specs.declared.item.Item.{Item}
use Rattle.pf_listfile.specs.declared.item.Pattern.{Pattern}
use Rattle.pf_listfile.specs.declared.item.Pattern.TheVariants as pattern
use Rattle.pf_listfile.proofs.FirstLaws.{earlier_is, found_at, found_none, none_passes, within}

addressless : (item : Item) → has_address item.pattern None ≡ false
addressless item = by item.pattern where
  by : (one : Pattern) → has_address one None ≡ false
  by (pattern.Name name) = refl
  by (pattern.Below name) = refl
  by (pattern.Net net) = refl

-- what is no address is in no net
pub no_address : (items : List Item) → None ≡ position_from (λ item. has_address item.pattern None) 0 items
no_address items = sym (none_passes (λ item. has_address item.pattern None) (λ item. false) addressless 0 items)

-- a key is a name or an address
pub plain_at : (items : List Item) (key : List ℕ) (host address place : Option ℕ)
    → host ≡ position_from (λ item. names_host item.pattern (folded key)) 0 items
    → address ≡ position_from (λ item. has_address item.pattern (address_of key)) 0 items
    → place ≡ earlier host address → place ≡ position_from (λ item. matches_plain item.pattern key) 0 items
plain_at items key host address place host_is address_is is =
    is ∙ ap (λ p. earlier p address) host_is ∙ ap (earlier (position_from (λ item. names_host item.pattern (folded key)) 0 items)) address_is
    ∙ sym (earlier_is (λ item. names_host item.pattern (folded key)) (λ item. has_address item.pattern (address_of key)) 0 items)

pub place_within : (items : List Item) (key : List ℕ) (place : ℕ) → Some place ≡ position_from (matches key) 0 items → place < length items
place_within items key place is = let h : place < 0 + length items = subst (λ o. IfSome o (λ p. p < 0 + length items)) (sym is) (within (matches key) (matches key) 0 items) in omega (arith, h)

pub says_nothing : (items : List Item) (key : List ℕ) → None ≡ position_from (matches key) 0 items → Absent ≡ found_in items key
says_nothing items key is = ap value_of (sym (found_none (matches key) 0 items (sym is)))

pub says_here : (items : List Item) (key : List ℕ) (place : ℕ) (item : Item) (text : List ℕ) → Some place ≡ position_from (matches key) 0 items
    → slice_get items place ≡ Some item → text ≡ says item.excludes → Value text ≡ found_in items key
says_here items key place item text is at text_is =
    ap Value text_is ∙ sym (ap value_of (found_at (matches key) 0 items place (sym is) ∙ ap (slice_get items) (omega arith) ∙ at))
