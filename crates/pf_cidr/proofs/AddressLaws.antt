-- What is read of a text is the address that it writes.
use Rattle.std.proofs.Common.{◌≡◌, ℕ, List, [], ◌∷◌, ◌++◌, Some, None, length, refl, sym, ap, ◌∙◌, subst, append-nil, arith, lit≤}
use Rattle.std.proofs.lemmas.Bool.{ne_eqb}
use Rattle.std.proofs.lemmas.Option.{none-some, same_Some}
use Rattle.std.specs.declared.net.ip_addr.IpAddr.{IpAddr}
use Rattle.std.specs.declared.net.ip_addr.IpAddr.TheVariants as family
use Rattle.std.specs.Net.Grammar.{IsColonHex, IsDotted, IsIpText}
use Rattle.std.specs.Net.Reader.{Read, read_ipv4, read_ipv6, whole_value}
use Rattle.std.proofs.NetLemmas.Ipv4.{read_ipv4_complete, read_ipv4_sound}
use Rattle.std.proofs.NetLemmas.Ipv6.{EndsGroups-nil, IsDotted-not_colon_hex, read_ipv6_complete, read_ipv6_sound}
use Rattle.pf_cidr.specs.Addresses.{IsWritten, Reads, address_of, address_with}
use Rattle.pf_cidr.specs.declared.address.Addr.{Addr}
use Rattle.pf_cidr.proofs.Cases.{either_option}

whole_v4 : (text octets : List ℕ) → IsDotted text octets → whole_value (read_ipv4 text) ≡ Some octets
whole_v4 text octets written =
    ap whole_value (ap read_ipv4 (sym (append-nil text)) ∙ read_ipv4_complete text octets [] written (lit≤ tt))

whole_v6 : (text groups : List ℕ) → IsColonHex text groups → whole_value (read_ipv6 text) ≡ Some groups
whole_v6 text groups written =
    ap whole_value (ap read_ipv6 (sym (append-nil text)) ∙ read_ipv6_complete text groups [] written EndsGroups-nil)

-- where a text writes nothing, nothing is read of the whole of it
module _ (Writes : List ℕ → List ℕ → Type 0) (text : List ℕ) (never : (parts : List ℕ) → ¬ (Writes text parts)) where
  at_rest : (parts rest : List ℕ) → (prefix : List ℕ) × (text ≡ prefix ++ rest) × Writes prefix parts → whole_value (Some (parts, rest)) ≡ None
  at_rest parts [] sound = absurd (never parts (subst (λ t. Writes t parts) (sym (sound.1 ∙ append-nil sound.0)) sound.2))
  at_rest parts (b ∷ rest) sound = rw (ne_eqb (length (b ∷ rest)) 0 (omega arith))

  pub no_whole : (read : Read (List ℕ)) → ((parts rest : List ℕ) → read ≡ Some (parts, rest) → (prefix : List ℕ) × (text ≡ prefix ++ rest) × Writes prefix parts)
      → whole_value read ≡ None
  no_whole None sound = refl
  no_whole (Some p) sound = at_rest p.0 p.1 (sound p.0 p.1 refl)

-- what is read of the whole of it is what it writes
module _ (Writes : List ℕ → List ℕ → Type 0) (text : List ℕ) where
  ends_at : (parts rest other : List ℕ) → (prefix : List ℕ) × (text ≡ prefix ++ rest) × Writes prefix parts → whole_value (Some (parts, rest)) ≡ Some other → Writes text other
  ends_at parts [] other sound is =
      subst (Writes text) (same_Some parts other is) (subst (λ t. Writes t parts) (sym (sound.1 ∙ append-nil sound.0)) sound.2)
  ends_at parts (b ∷ rest) other sound is = absurd (none-some other (rw (ne_eqb (length (b ∷ rest)) 0 (omega arith)) at is))

  whole_sound : (read : Read (List ℕ)) → ((parts rest : List ℕ) → read ≡ Some (parts, rest) → (prefix : List ℕ) × (text ≡ prefix ++ rest) × Writes prefix parts)
      → (other : List ℕ) → whole_value read ≡ Some other → Writes text other
  whole_sound None sound other is = absurd (none-some other is)
  whole_sound (Some p) sound other is = ends_at p.0 p.1 other (sound p.0 p.1 refl) is

no_v4 : (text : List ℕ) → ((octets : List ℕ) → ¬ (IsDotted text octets)) → whole_value (read_ipv4 text) ≡ None
no_v4 text never = no_whole IsDotted text never (read_ipv4 text) (λ octets rest read. read_ipv4_sound text octets rest read)

no_v6 : (text : List ℕ) → ((groups : List ℕ) → ¬ (IsColonHex text groups)) → whole_value (read_ipv6 text) ≡ None
no_v6 text never = no_whole IsColonHex text never (read_ipv6 text) (λ groups rest read. read_ipv6_sound text groups rest read)

pub read_is : (text : List ℕ) (ip : IpAddr) → IsIpText text ip → address_of text ≡ Some (address_with ip)
unfolding address_of
read_is text (family.V4 a) written = rw (whole_v4 text a.octets written)
read_is text (family.V6 a) written =
    rw (no_v4 text (λ octets dotted. IsDotted-not_colon_hex text octets a.segments dotted written), whole_v6 text a.segments written)

pub nothing_is_read : (text : List ℕ) → ((ip : IpAddr) → ¬ (IsIpText text ip)) → address_of text ≡ None
unfolding address_of
nothing_is_read text never =
    rw (no_v4 text (λ octets. never (family.V4 (record { octets = octets }))), no_v6 text (λ groups. never (family.V6 (record { segments = groups }))))

pub address_sound : (text : List ℕ) (addr : Addr) → address_of text ≡ Some addr → IsWritten text addr
unfolding address_of
address_sound text addr is =
    either_option (whole_value (read_ipv4 text))
    (λ no_v4.
    either_option (whole_value (read_ipv6 text))
    (λ no_v6. absurd (none-some addr (rw (no_v4, no_v6) at is)))
    (λ groups read. (
      family.V6 (record { segments = groups }),
      whole_sound IsColonHex text (read_ipv6 text) (λ parts rest more. read_ipv6_sound text parts rest more) groups read,
      sym (same_Some _ addr (rw (no_v4, read) at is)),
    )))
    (λ octets read. (
      family.V4 (record { octets = octets }),
      whole_sound IsDotted text (read_ipv4 text) (λ parts rest more. read_ipv4_sound text parts rest more) octets read,
      sym (same_Some _ addr (rw read at is)),
    ))

pub address_complete : (text : List ℕ) (addr : Addr) → IsWritten text addr → address_of text ≡ Some addr
address_complete text addr written = read_is text written.0 written.1 ∙ ap Some (sym written.2)

pub address_reads : (text : List ℕ) → Reads text (address_of text)
address_reads text =
    either_option (address_of text)
    (λ none. rw none (λ addr written. none-some addr (sym none ∙ address_complete text addr written)))
    (λ addr is. rw is (address_sound text addr is, λ other written. same_Some other addr (sym (address_complete text other written) ∙ is)))
