-- The lengths by which a path is read: words of contracts between the grammar and the code. A length of 0 says that there is none.
use Rattle.std.specs.Prelude.{ℕ, ◌+◌, ◌-◌, ◌==◌, ◌&&◌, false, nat_lt, nat_le, List, [], ◌∷◌, Option, Some, None, length, take, drop, slice_index, if◌then◌else◌}
use Rattle.std.specs.List.{before_first, prefix_len, take_while}
use Rattle.pf_base.specs.Text.Ascii as ascii
use Rattle.pf_base.specs.Text.Space.{is_space}
use Rattle.pf_addr.specs.Clauses.Quoted.{closing_quote, unquoted}
use Rattle.pf_addr.specs.Grammar.{is_end, is_literal_byte, is_name_byte, is_plain_byte, is_route}
use Rattle.pf_addr.specs.declared.address.Address.{Address}
use Rattle.pf_addr.specs.declared.address.Path.TheVariants.{Null, To}
use Rattle.pf_addr.specs.declared.address.PathRead.{PathRead}
use Rattle.pf_addr.specs.declared.mailbox.Mailbox.{Mailbox}

-- the place after the last at sign
abbrev pub behind_at : List ℕ → ℕ
behind_at [] = 0
behind_at (b ∷ text) = if behind_at text == 0 then (if b == ascii.at_sign then 1 else 0) else behind_at text + 1

abbrev pub plain_len_of : ℕ → ℕ → ℕ
plain_len_of end at = if at == 0 then end else at - 1

-- a local part without quotes: the plain bytes, up to the last at sign among them
unfoldable pub plain_len : List ℕ → ℕ
plain_len text = plain_len_of (prefix_len is_plain_byte text) (behind_at (take_while is_plain_byte text))

abbrev pub quoted_len_of : Option ℕ → ℕ
quoted_len_of None = 0
quoted_len_of (Some n) = n + 2

-- a local part
unfoldable pub local_len : List ℕ → ℕ
local_len text = if slice_index text 0 == ascii.double_quote then quoted_len_of (closing_quote false (drop 1 text)) else plain_len text

-- what is between the quotes of a local part, or all of one that has none
unfoldable pub content_of : List ℕ → List ℕ
content_of spelled = if slice_index spelled 0 == ascii.double_quote then take (length spelled - 2) (drop 1 spelled) else spelled

-- what a local part means that is spelled so
unfoldable pub local_of : List ℕ → List ℕ
local_of spelled = unquoted false (content_of spelled)

abbrev pub literal_len_of : List ℕ → ℕ → ℕ
literal_len_of inside n = if slice_index inside n == ascii.right_bracket then n + 2 else 0

-- a literal, or a name
abbrev pub unlimited_len : List ℕ → ℕ
unlimited_len text =
    if slice_index text 0 == ascii.left_bracket then literal_len_of (drop 1 text) (prefix_len is_literal_byte (drop 1 text))
    else prefix_len is_name_byte text

abbrev pub within_limit : ℕ → ℕ
within_limit n = if nat_le n 255 then n else 0

-- a domain
unfoldable pub domain_len : List ℕ → ℕ
domain_len text = within_limit (unlimited_len text)

abbrev pub with_domain : ℕ → ℕ → Option Mailbox
with_domain local domain = if domain == 0 then None else Some (record { local = local; domain = domain })

abbrev pub mailbox_with : List ℕ → ℕ → Option Mailbox
mailbox_with text local =
    if local == 0 then None
    else (if slice_index text local == ascii.at_sign then with_domain local (domain_len (drop (local + 1) text))
    else Some (record { local = local; domain = 0 }))

-- the lengths of a mailbox's parts
unfoldable pub mailbox : List ℕ → Option Mailbox
mailbox text = mailbox_with text (local_len text)

-- the length of a mailbox, its at sign counted
unfoldable pub mailbox_len : Mailbox → ℕ
mailbox_len m = if m.domain == 0 then m.local else m.local + m.domain + 1

-- the address of a mailbox at the head of a text
unfoldable pub address_of : List ℕ → Mailbox → Address
address_of text m = record { local = local_of (take m.local text); domain = take m.domain (drop (m.local + 1) text) }

abbrev pub route_len_of : List ℕ → List ℕ → ℕ
route_len_of text route = if nat_lt (length route) (length text) && is_route route then length route + 1 else 0

-- a route with its colon
unfoldable pub route_len : List ℕ → ℕ
route_len text = route_len_of text (before_first (λ b. b == ascii.colon) text)

-- the same path, after so many bytes
abbrev pub behind : ℕ → Option (PathRead Address) → Option (PathRead Address)
behind n None = None
behind n (Some read) = Some (record { path = read.path; end = n + read.end })

abbrev pub bare_of : List ℕ → Option Mailbox → Option (PathRead Address)
bare_of text None = None
bare_of text (Some m) = if is_end (drop (mailbox_len m) text) then Some (record { path = To (address_of text m); end = mailbox_len m }) else None

-- a path without brackets
unfoldable pub bare : List ℕ → Option (PathRead Address)
bare text = bare_of text (mailbox text)

abbrev pub closed_of : List ℕ → Option Mailbox → Option (PathRead Address)
closed_of text None = None
closed_of text (Some m) =
    if slice_index text (mailbox_len m) == ascii.greater_than_sign
    then Some (record { path = To (address_of text m); end = mailbox_len m + 1 }) else None

-- a mailbox and the bracket after it
unfoldable pub closed : List ℕ → Option (PathRead Address)
closed text = closed_of text (mailbox text)

-- what is after the first bracket of a path
unfoldable pub bracketed : List ℕ → Option (PathRead Address)
bracketed text =
    if slice_index text 0 == ascii.greater_than_sign then Some (record { path = Null; end = 1 })
    else behind (route_len text) (closed (drop (route_len text) text))

-- a path
unfoldable pub path : List ℕ → Option (PathRead Address)
path text = if slice_index text 0 == ascii.less_than_sign then behind 1 (bracketed (drop 1 text)) else bare text

-- a path after space
unfoldable pub reading : List ℕ → Option (PathRead Address)
reading text = behind (prefix_len is_space text) (path (drop (prefix_len is_space text) text))
