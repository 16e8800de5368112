-- How an address is printed (RFC 5321, 4.1.2: a local part is quoted where it has to be, and as little as may be).
use Rattle.std.specs.Prelude.{ℕ, ◌≡◌, ◌==◌, ◌&&◌, ◌||◌, Bool, nat_lt, List, [], ◌∷◌, ◌++◌, length, codes, if◌then◌else◌}
use Rattle.std.specs.Char.{is_ascii_alphanumeric}
use Rattle.std.specs.List.{flat_map, list_all, list_any}
use Rattle.pf_addr.specs.declared.address.Address.{Address}
use Rattle.pf_addr.specs.declared.address.Path.TheVariants.{To}
use Rattle.pf_addr.specs.declared.address.PathRead.{PathRead}
use Rattle.pf_addr.specs.Grammar.{IsDomain}
use Rattle.pf_base.specs.Text.Ascii as ascii

-- atext (RFC 5322, 3.2.3), and the dot
unfoldable pub is_atom_byte : ℕ → Bool
is_atom_byte b = is_ascii_alphanumeric b || list_any (λ other. other == b) (codes ".!#$%&'*+-/=?^_`{|}~")

-- a quote and a backslash are after a backslash
unfoldable pub escaped : ℕ → List ℕ
escaped b = if b == ascii.double_quote || b == ascii.backslash then ascii.backslash ∷ b ∷ [] else b ∷ []

-- one or more bytes of atoms and dots
abbrev pub is_bare : List ℕ → Bool
is_bare local = nat_lt 0 (length local) && list_all is_atom_byte local

-- a local part, quoted where it is none of these
unfoldable pub printed_local : List ℕ → List ℕ
printed_local local = if is_bare local then local
    else ascii.double_quote ∷ flat_map escaped local ++ ascii.double_quote ∷ []

-- an at sign and the domain, where there is one
unfoldable pub printed_domain : List ℕ → List ℕ
printed_domain domain = if nat_lt 0 (length domain) then ascii.at_sign ∷ domain else []

-- an address as it is printed
unfoldable pub printed : Address → List ℕ
printed address = printed_local address.local ++ printed_domain address.domain

-- there is no domain, or one of the grammar
pub data IsDomainOrNone (text : List ℕ) : Type 0 where
  missing : text ≡ [] → IsDomainOrNone text
  given : IsDomain text → IsDomainOrNone text

-- reading a printed address gives it again, and takes all of it
abbrev pub read_again : Address → PathRead Address
read_again address = record { path = To address; end = length (printed address) }
