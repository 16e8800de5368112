-- The same grammar as a function, for definitions that go on with what a text spells (RFC 5321, 4.1.2 and 4.1.3). Each word up to `path` says
-- what a whole text means as that part of a path, if it is one.
use Rattle.std.specs.Prelude.{ℕ, ◌+◌, ◌-◌, ◌==◌, ◌&&◌, ◌||◌, Bool, false, nat_lt, nat_le, List, [], ◌∷◌, Option, Some, None, length, take, drop, slice_index, if◌then◌else◌}
use Rattle.std.specs.List.{after_first, after_last, before_first, before_last, list_all, prefix_len, range_with_len}
use Rattle.std.specs.Option.{option_and_then, option_map, option_map_or, option_or}
use Rattle.pf_base.specs.Text.Ascii as ascii
use Rattle.pf_base.specs.Text.Space.{is_space, without_leading_space}
use Rattle.pf_addr.specs.Grammar.{is_end, is_literal_byte, is_lone_byte, is_name_byte, is_plain_byte, is_route}
use Rattle.pf_addr.specs.declared.address.Address.{Address}
use Rattle.pf_addr.specs.declared.address.Path.{Path}
use Rattle.pf_addr.specs.declared.address.Path.TheVariants.{Null, To}
use Rattle.pf_addr.specs.declared.address.PathRead.{PathRead}

-- what is between this first and this last byte
unfoldable pub between : ℕ → ℕ → List ℕ → Option (List ℕ)
between first last [] = None
between first last (b ∷ text) =
    if b == first && slice_index text (length text - 1) == last then Some (take (length text - 1) text) else None

-- *QcontentSMTP: a backslash takes the next byte, and a quote stands only after one
abbrev pub content : List ℕ → Option (List ℕ)
content [] = Some []
content (b ∷ []) = if b == ascii.double_quote || b == ascii.backslash then None else Some (b ∷ [])
content (b ∷ next ∷ text) =
    if b == ascii.backslash then option_map (λ local. next ∷ local) (content text)
    else (if b == ascii.double_quote then None else option_map (λ local. b ∷ local) (content (next ∷ text)))

-- Quoted-string
unfoldable pub quoted_string : List ℕ → Option (List ℕ)
quoted_string text = option_and_then content (between ascii.double_quote ascii.double_quote text)

-- Dot-string, of such bytes
unfoldable pub dot_string : (ℕ → Bool) → List ℕ → Option (List ℕ)
dot_string is_byte text = if nat_lt 0 (length text) && list_all is_byte text then Some text else None

-- Local-part = Dot-string / Quoted-string
unfoldable pub local_part : (ℕ → Bool) → List ℕ → Option (List ℕ)
local_part is_byte text = option_or (dot_string is_byte text) (quoted_string text)

-- Domain
abbrev pub is_name : List ℕ → Bool
is_name text = nat_lt 0 (length text) && list_all is_name_byte text

-- address-literal
abbrev pub is_literal : List ℕ → Bool
is_literal text = option_map_or (list_all is_literal_byte) (between ascii.left_bracket ascii.right_bracket text) false

-- Domain / address-literal, of at most 255 bytes
unfoldable pub is_domain : List ℕ → Bool
is_domain text = (is_name text || is_literal text) && nat_le (length text) 255

-- the at sign of a mailbox is its last one
abbrev pub is_at_sign : ℕ → Bool
is_at_sign b = b == ascii.at_sign

-- Local-part "@" ( Domain / address-literal )
unfoldable pub mailbox_with_domain : List ℕ → Option Address
mailbox_with_domain text =
    if is_domain (after_last is_at_sign text)
    then option_map (λ local. record { local = local; domain = after_last is_at_sign text }) (local_part is_plain_byte (before_last is_at_sign text))
    else None

-- Mailbox; the local part may also be alone
unfoldable pub mailbox : List ℕ → Option Address
mailbox text = option_or (mailbox_with_domain text) (option_map (λ local. record { local = local; domain = [] }) (local_part is_lone_byte text))

-- the colon of a route is the first one
abbrev pub is_colon : ℕ → Bool
is_colon b = b == ascii.colon

-- A-d-l ":" Mailbox
unfoldable pub routed_mailbox : List ℕ → Option Address
routed_mailbox text = if is_route (before_first is_colon text) then mailbox (after_first is_colon text) else None

-- [ A-d-l ":" ] Mailbox, or nothing, between brackets
unfoldable pub bracketed : List ℕ → Option (Path Address)
bracketed [] = Some Null
bracketed (b ∷ text) = option_map To (option_or (mailbox (b ∷ text)) (routed_mailbox (b ∷ text)))

-- a mailbox without brackets, where a path may end before the rest
unfoldable pub bare : List ℕ → List ℕ → Option (Path Address)
bare text rest = if is_end rest then option_map To (mailbox text) else None

-- a path before a rest
unfoldable pub path : List ℕ → List ℕ → Option (Path Address)
path text rest = option_or (option_and_then bracketed (between ascii.less_than_sign ascii.greater_than_sign text)) (bare text rest)

-- the path that a text begins with and that ends after so many bytes
abbrev pub path_to : List ℕ → ℕ → Option (PathRead Address)
path_to text end = option_map (λ read. record { path = read; end = end }) (path (take end text) (drop end text))

-- the first of some
abbrev pub first_some : {A B : Type 0} → (A → Option B) → List A → Option B
first_some f [] = None
first_some f (x ∷ xs) = option_or (f x) (first_some f xs)

-- the path that a text begins with, wherever it ends
unfoldable pub first_path : List ℕ → Option (PathRead Address)
first_path text = first_some (path_to text) (range_with_len 0 (length text + 1))

-- the path that a text begins with after space, and where it ends
unfoldable pub path_of : List ℕ → Option (PathRead Address)
path_of text =
    option_map (λ read. record { path = read.path; end = prefix_len is_space text + read.end }) (first_path (without_leading_space text))
