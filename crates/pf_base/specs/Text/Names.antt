-- Names of hosts, and when two are the same.
use Rattle.std.specs.Prelude.{ℕ, ◌==◌, ◌&&◌, ◌||◌, Bool, nat_le, nat_lt, List, length, map}
use Rattle.std.specs.List.{list_all, slice_split}
use Rattle.std.specs.Char.{is_ascii_alphanumeric, to_ascii_lowercase}
use Rattle.std.specs.Str.{bytes_eq}
use Rattle.pf_base.specs.Text.Ascii as ascii

-- RFC 1123, 2.1: letters, digits and hyphens; postgate takes the underscore too, and any of them at the ends of a label
abbrev pub is_label_byte : ℕ → Bool
is_label_byte b = is_ascii_alphanumeric b || b == ascii.hyphen || b == ascii.underscore

-- RFC 1035, 2.3.4: a label has 1 to 63 bytes
abbrev pub is_label : List ℕ → Bool
is_label label = nat_lt 0 (length label) && nat_le (length label) 63 && list_all is_label_byte label

-- a host name (RFC 1035, 2.3.1): labels parted by single dots; postgate sets no limit to its length as a whole
abbrev pub is_host_name : List ℕ → Bool
is_host_name name = list_all is_label (slice_split (λ b. b == ascii.dot) name)

-- a text with its capital letters made small
abbrev pub folded : List ℕ → List ℕ
folded name = map to_ascii_lowercase name

-- RFC 1035, 2.3.3, and RFC 5321, 2.4: letters count as the same in either case
abbrev pub same_in_any_case : List ℕ → List ℕ → Bool
same_in_any_case a b = bytes_eq (folded a) (folded b)
