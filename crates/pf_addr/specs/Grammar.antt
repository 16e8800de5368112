-- How a path is spelled (RFC 5321, 4.1.2 and 4.1.3). Bytes that the RFC has and this profile leaves out, or the other way round, are named.
use Rattle.std.specs.Prelude.{ℕ, ◌+◌, ◌<◌, ◌≤◌, ◌≡◌, ◌==◌, ◌&&◌, ◌||◌, Bool, true, false, not, nat_lt, nat_le, List, [], ◌∷◌, ◌++◌, Option, Some, None, length, codes}
use Rattle.std.specs.Char.{is_ascii_alphanumeric}
use Rattle.std.specs.List.{list_all, list_any, slice_split}
use Rattle.pf_base.specs.Text.Ascii as ascii
use Rattle.pf_base.specs.Text.Space.{is_space}
use Rattle.pf_addr.specs.declared.address.Address.{Address}
use Rattle.pf_addr.specs.declared.address.Path.{Path}
use Rattle.pf_addr.specs.declared.address.Path.TheVariants.{Null, To}
use Rattle.pf_addr.specs.declared.address.PathRead.{PathRead}

-- Domain: letters, digits, hyphens and dots, in any order; the underscore is taken too
unfoldable pub is_name_byte : ℕ → Bool
is_name_byte b = is_ascii_alphanumeric b || b == ascii.hyphen || b == ascii.underscore || b == ascii.dot

-- address-literal: what may be between its brackets; no form of it is looked for
unfoldable pub is_literal_byte : ℕ → Bool
is_literal_byte b = not (b == ascii.right_bracket) && not (b == ascii.at_sign)

-- the bytes that stand for themselves in quotes alone
abbrev pub is_special : ℕ → Bool
is_special b = list_any (λ special. special == b) (codes "<>()[],;:\\\"")

-- Dot-string: the printable bytes that are not special, the at sign and dots in any order among them
unfoldable pub is_plain_byte : ℕ → Bool
is_plain_byte b = nat_le 33 b && nat_le b 126 && not (is_special b)

-- the same in a local part that no domain follows
unfoldable pub is_lone_byte : ℕ → Bool
is_lone_byte b = is_plain_byte b && not (b == ascii.at_sign)

-- Domain / address-literal, of at most 255 bytes (4.5.3.1.2)
pub data IsDomain (text : List ℕ) : Type 0 where
  name : 0 < length text → list_all is_name_byte text ≡ true → length text ≤ 255 → IsDomain text
  literal : (inside : List ℕ) → list_all is_literal_byte inside ≡ true → text ≡ ascii.left_bracket ∷ inside ++ ascii.right_bracket ∷ [] →
      length text ≤ 255 → IsDomain text

-- *QcontentSMTP, as it is spelled and what it means: a backslash takes the next byte, and a quote stands only after one
pub data IsContent : List ℕ → List ℕ → Type 0 where
  none : IsContent [] []
  byte : {text local : List ℕ} (b : ℕ) → (b == ascii.double_quote || b == ascii.backslash) ≡ false → IsContent text local →
      IsContent (b ∷ text) (b ∷ local)
  pair : {text local : List ℕ} (b : ℕ) → IsContent text local → IsContent (ascii.backslash ∷ b ∷ text) (b ∷ local)

-- Local-part = Dot-string / Quoted-string, as it is spelled and what it means
pub data IsLocalPart (is_byte : ℕ → Bool) (text local : List ℕ) : Type 0 where
  plain : 0 < length local → list_all is_byte local ≡ true → text ≡ local → IsLocalPart is_byte text local
  quoted : (content : List ℕ) → IsContent content local → text ≡ ascii.double_quote ∷ content ++ ascii.double_quote ∷ [] →
      IsLocalPart is_byte text local

-- Mailbox = Local-part "@" ( Domain / address-literal ); the local part may also be alone, as that of postmaster is
pub data IsMailbox (text : List ℕ) (address : Address) : Type 0 where
  with_domain : (local : List ℕ) → IsLocalPart is_plain_byte local address.local → IsDomain address.domain →
      text ≡ local ++ ascii.at_sign ∷ address.domain
      → IsMailbox text address
  alone : IsLocalPart is_lone_byte text address.local → address.domain ≡ [] → IsMailbox text address

-- At-domain = "@" Domain
unfoldable pub is_at_domain : List ℕ → Bool
is_at_domain [] = false
is_at_domain (b ∷ domain) = b == ascii.at_sign && nat_lt 0 (length domain) && nat_le (length domain) 255 && list_all is_name_byte domain

-- A-d-l = At-domain *( "," At-domain )
unfoldable pub is_route : List ℕ → Bool
is_route text = list_all is_at_domain (slice_split (λ b. b == ascii.comma) text)

-- [ A-d-l ":" ]
pub data IsRoute (text : List ℕ) : Type 0 where
  none : text ≡ [] → IsRoute text
  domains : (route : List ℕ) → is_route route ≡ true → text ≡ route ++ ascii.colon ∷ [] → IsRoute text

-- a path without brackets ends at space or with the text
abbrev pub is_end : List ℕ → Bool
is_end [] = true
is_end (b ∷ rest) = is_space b

-- Reverse-path = Path / "<>", Path = "<" [ A-d-l ":" ] Mailbox ">", before a rest; a mailbox without brackets is a path too
pub data IsPath (text rest : List ℕ) (path : Path Address) : Type 0 where
  null : text ≡ codes "<>" → path ≡ Null → IsPath text rest path
  bracketed : (route mailbox : List ℕ) (address : Address) → IsRoute route → IsMailbox mailbox address →
      text ≡ ascii.less_than_sign ∷ route ++ mailbox ++ ascii.greater_than_sign ∷ []
      → path ≡ To address → IsPath text rest path
  bare : (address : Address) → IsMailbox text address → is_end rest ≡ true → path ≡ To address → IsPath text rest path

-- a text begins with space and a path, and the path ends there
pub record IsSpelling (text : List ℕ) (read : PathRead Address) : Type 0 where
  pub space : List ℕ
  pub path : List ℕ
  pub rest : List ℕ
  pub whole : text ≡ space ++ path ++ rest
  pub blank : list_all is_space space ≡ true
  pub spells : IsPath path rest read.path
  pub end : read.end ≡ length space + length path

-- what reading a text gives: the one path that it spells, or nothing where it spells none
abbrev pub Reads : List ℕ → Option (PathRead Address) → Type 0
Reads text (Some read) = IsSpelling text read × ((other : PathRead Address) → IsSpelling text other → other ≡ read)
Reads text None = (read : PathRead Address) → ¬ (IsSpelling text read)
