-- Where in a list the items are that a key may match, as the code keeps them. Words of the code's contracts, by no standard.
use Rattle.std.specs.Prelude.{◌≡◌, ℕ, ◌+◌, ◌==◌, min, Bool, true, false, List, [], ◌∷◌, Option, None, Some, if◌then◌else◌}
use Rattle.std.specs.HashMap as hash
use Rattle.std.specs.List.{position_from, slice_get}
use Rattle.std.specs.Option.{option_map_or}
use Rattle.std.specs.Str.{bytes_eq}
use Rattle.pf_base.specs.Text.Ascii as ascii
use Rattle.pf_cidr.specs.declared.address.Addr.{Addr}
use Rattle.pf_listfile.specs.Items.{has_address}
use Rattle.pf_listfile.specs.declared.item.Item.{Item}
use Rattle.pf_listfile.specs.declared.item.Pattern.{Pattern}
use Rattle.pf_listfile.specs.declared.item.Pattern.TheVariants as pattern
use Rattle.pf_listfile.specs.declared.places.Kind.{Kind}
use Rattle.pf_listfile.specs.declared.places.Kind.TheVariants.{Below, Name}
use Rattle.pf_listfile.specs.declared.places.Places.{Places}

-- the place of a text
abbrev pub place_in : Places → List ℕ → Option ℕ
place_in p text = hash.get_by (λ k. bytes_eq text k.items) p.places

-- a place, or this one where there is none
abbrev pub or_place : Option ℕ → ℕ → Option ℕ
or_place None place = Some place
or_place (Some first) place = Some first

-- one text has a place now, this one unless it had another, and each other text that which it had
abbrev pub Puts : (List ℕ → Option ℕ) → (List ℕ → Option ℕ) → List ℕ → ℕ → Type 0
Puts old new set place = (text : List ℕ) → new text ≡ (if bytes_eq set text then Some place else old text)

abbrev pub PutsFirst : (List ℕ → Option ℕ) → (List ℕ → Option ℕ) → List ℕ → ℕ → Type 0
PutsFirst old new set place = (text : List ℕ) → new text ≡ (if bytes_eq set text then or_place (old text) place else old text)

-- the text of an item of a kind
abbrev pub name_text : Pattern → Option (List ℕ)
name_text (pattern.Name name) = Some name
name_text (pattern.Below name) = None
name_text (pattern.Net net) = None

abbrev pub below_text : Pattern → Option (List ℕ)
below_text (pattern.Name name) = None
below_text (pattern.Below name) = Some name
below_text (pattern.Net net) = None

abbrev pub text_of : Kind → Pattern → Option (List ℕ)
text_of Name one = name_text one
text_of Below one = below_text one

abbrev pub has_text : Kind → List ℕ → Item → Bool
has_text kind text item = option_map_or (λ own. bytes_eq own text) (text_of kind item.pattern) false

-- each text is at the first item that has it
abbrev pub AreFirst : (List ℕ → Option ℕ) → Kind → List Item → Type 0
AreFirst places kind items = (text : List ℕ) → places text ≡ position_from (has_text kind text) 0 items

abbrev pub is_net : Pattern → Bool
is_net (pattern.Name name) = false
is_net (pattern.Below name) = false
is_net (pattern.Net net) = true

-- the places of the nets among items, the first of which is at this place
abbrev pub net_places : ℕ → List Item → List ℕ
net_places place [] = []
net_places place (item ∷ items) =
    if is_net item.pattern then place ∷ net_places (place + 1) items else net_places (place + 1) items

-- whether the item at a place has an address
abbrev pub has_at : List Item → Addr → ℕ → Bool
has_at items addr place = option_map_or (λ item. has_address item.pattern (Some addr)) (slice_get items place) false

-- what is kept of a list
pub record IsIndex (names below : List ℕ → Option ℕ) (nets : List ℕ) (items : List Item) : Type 0 where
  pub names_first : AreFirst names Name items
  pub below_first : AreFirst below Below items
  pub nets_at : nets ≡ net_places 0 items

-- the earlier of two places
abbrev pub earlier : Option ℕ → Option ℕ → Option ℕ
earlier None other = other
earlier (Some place) None = Some place
earlier (Some place) (Some other) = Some (min place other)

-- the place of the name after a dot that a text begins with
abbrev pub at_dot : (List ℕ → Option ℕ) → List ℕ → Option ℕ
at_dot places [] = None
at_dot places (b ∷ name) = if b == ascii.dot then places name else None

-- the earliest place of a name that this one is below
abbrev pub first_below : (List ℕ → Option ℕ) → List ℕ → Option ℕ
first_below places [] = None
first_below places (b ∷ name) = earlier (at_dot places name) (first_below places name)
