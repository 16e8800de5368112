-- What is printed of an address is a spelling of it.
use Rattle.std.proofs.Common.{◌≡◌, ℕ, Bool, List, [], ◌∷◌, length, true, false, refl, sym, ap, append-nil, arith, lt-ltb, ltb-true}
use Rattle.std.specs.Prelude.{◌==◌, ◌&&◌, ◌||◌, nat_eq, nat_lt}
use Rattle.std.specs.List.{flat_map, list_all, list_any}
use Rattle.std.proofs.lemmas.Bool.{and_parts, eqb-false, or_from, or_parts}
use Rattle.pf_addr.specs.Grammar.{IsLocalPart, IsMailbox, IsSpelling, plain, quoted, with_domain, alone, bare, is_lone_byte, is_plain_byte}
use Rattle.pf_addr.specs.Clauses.Quoted.{unquoted}
use Rattle.pf_addr.specs.Printed.{IsDomainOrNone, missing, given, escaped, is_atom_byte, printed, printed_domain, printed_local, read_again}
use Rattle.pf_addr.specs.declared.address.Address.{Address}
use Rattle.pf_addr.proofs.ByteLemmas.{atom_is_lone, lone_is_plain, other}
use Rattle.pf_addr.proofs.Cases.{either_way}
use Rattle.pf_addr.proofs.MailboxLemmas.{domain_some}
use Rattle.pf_addr.proofs.QuotedLemmas.{content_of}
use Rattle.pf_addr.proofs.Runs.{all_weaker}

quote_is_no_atom : is_atom_byte 34 ≡ false
unfolding is_atom_byte
quote_is_no_atom = refl

backslash_is_no_atom : is_atom_byte 92 ≡ false
unfolding is_atom_byte
backslash_is_no_atom = refl

atoms_escaped : (local : List ℕ) → list_all is_atom_byte local ≡ true → flat_map escaped local ≡ local
unfolding escaped
atoms_escaped [] all = refl
atoms_escaped (b ∷ local) all =
    let parts = and_parts (is_atom_byte b) (list_all is_atom_byte local) all in
    let plain_one = or_from (nat_eq b 34) (nat_eq b 92) (other is_atom_byte 34 b quote_is_no_atom parts.0) (other is_atom_byte 92 b backslash_is_no_atom parts.0) in
    rw plain_one (ap (λ l. b ∷ l) (atoms_escaped local parts.1))

-- a local part that is printed as it is has nothing to be escaped
pub bare_printed : (local : List ℕ) → (length local == 0) ≡ false → list_all is_atom_byte local ≡ true → printed_local local ≡ flat_map escaped local
unfolding printed_local
bare_printed local some all =
    let first : nat_lt 0 (length local) ≡ true = lt-ltb 0 (length local) (let ne = eqb-false _ 0 some in omega (arith, ne)) in
    rw (first, all) (sym (atoms_escaped local all))

-- content without quotes and backslashes is printed as it is
pub as_it_is : (content : List ℕ) → list_any (λ b. b == 34 || b == 92) content ≡ false → flat_map escaped (unquoted false content) ≡ content
unfolding escaped
as_it_is [] none = refl
as_it_is (b ∷ content) none =
    let parts = or_parts (b == 34 || b == 92) (list_any (λ b. b == 34 || b == 92) content) none in
    let other = or_parts (b == 34) (b == 92) parts.0 in
    rw (other.1, other.0, other.1) (ap (λ l. b ∷ l) (as_it_is content parts.1))

local_spelled : (is_byte : ℕ → Bool) (local : List ℕ) → ((b : ℕ) → is_atom_byte b ≡ true → is_byte b ≡ true) → IsLocalPart is_byte (printed_local local) local
unfolding printed_local
local_spelled is_byte local weaker =
    either_way (nat_lt 0 (length local) && list_all is_atom_byte local)
    (λ bytes.
    let parts = and_parts (nat_lt 0 (length local)) (list_all is_atom_byte local) bytes in
    rw bytes (plain (ltb-true 0 (length local) parts.0) (all_weaker is_atom_byte is_byte weaker local parts.1) refl))
    (λ others. rw others (quoted (flat_map escaped local) (content_of local) refl))

mailbox_spelled : (a : Address) → IsDomainOrNone a.domain → IsMailbox (printed a) a
unfolding printed printed_domain
mailbox_spelled a (missing no_domain) = rw (no_domain, append-nil (printed_local a.local)) (alone (local_spelled is_lone_byte a.local atom_is_lone) refl)
mailbox_spelled a (given domain) =
    rw (lt-ltb 0 (length a.domain) (domain_some a.domain domain))
    (with_domain (printed_local a.local) (local_spelled is_plain_byte a.local (λ b h. lone_is_plain b (atom_is_lone b h))) domain refl)

pub printed_spells : (a : Address) → IsDomainOrNone a.domain → IsSpelling (printed a) (read_again a)
printed_spells a domain = record {
  space = [];
  path = printed a;
  rest = [];
  whole = rw (append-nil (printed a));
  blank = refl;
  spells = bare a (mailbox_spelled a domain) refl refl;
  end = omega arith;
}
