-- The items of lists (postconf(5): myorigin, mydestination, mynetworks, the lists of address classes, propagate_unmatched_extensions;
-- DATABASE_README for tables).
use Rattle.std.specs.Prelude.{ℕ, ◌==◌, ◌||◌, ◌&&◌, Bool, false, not, List, [], ◌∷◌, Option, None, Some, codes, if◌then◌else◌}
use Rattle.std.specs.List.{list_all, list_any}
use Rattle.std.specs.Str.{bytes_eq}
use Rattle.pf_base.specs.Text.Ascii as ascii

-- a file's name begins with a slash
abbrev pub is_file : List ℕ → Bool
is_file [] = false
is_file (b ∷ text) = b == ascii.slash

abbrev pub has_no_file : List (List ℕ) → Bool
has_no_file items = list_all (λ item. not (is_file item)) items

-- where an address is
abbrev pub is_address_kind : List ℕ → Bool
is_address_kind word =
    bytes_eq word (codes "envelope_sender") || bytes_eq word (codes "envelope_recipient")
    || bytes_eq word (codes "header_sender") || bytes_eq word (codes "header_recipient")

-- what hands an address's extension on
abbrev pub is_extension_way : List ℕ → Bool
is_extension_way word =
    bytes_eq word (codes "canonical") || bytes_eq word (codes "virtual") || bytes_eq word (codes "alias")
    || bytes_eq word (codes "forward") || bytes_eq word (codes "include") || bytes_eq word (codes "generic")

-- an item without the exclamation mark that turns it round
abbrev pub without_not : List ℕ → List ℕ
without_not [] = []
without_not (b ∷ text) = if b == ascii.exclamation_mark then text else b ∷ text

abbrev pub begins_with_bracket : List ℕ → Bool
begins_with_bracket [] = false
begins_with_bracket (b ∷ text) = b == ascii.left_bracket

-- a file, or a type, a colon and a name; an IPv6 address has colons too, and is in brackets
abbrev pub is_table : List ℕ → Bool
is_table text = is_file text || (list_any (λ b. b == ascii.colon) text && not (begins_with_bracket text))

-- the table or file that an item of a list of domains, networks or hosts names
abbrev pub table_in : List ℕ → Option (List ℕ)
table_in item = if is_table (without_not item) then Some (without_not item) else None
