-- No slash is in the address of a net.
use Rattle.std.proofs.Common.{◌≡◌, ℕ, ◌<◌, ◌≤◌, ◌^◌, Bool, true, false, List, [], ◌∷◌, ◌++◌, decimal, refl, sym, ap, subst, inl, inr, arith}
use Rattle.std.proofs.lemmas.Bool.{ne_eqb}
use Rattle.std.proofs.lemmas.Fmt.{decimal_is_IsNumeral}
use Rattle.std.proofs.lemmas.List.Folds.{list_any-append}
use Rattle.std.specs.Char.{digit_value}
use Rattle.std.specs.List.{list_any}
use Rattle.std.specs.Str.Parse.{AllDigits}
use Rattle.std.specs.declared.net.ip_addr.IpAddr.{IpAddr}
use Rattle.std.specs.declared.net.ip_addr.IpAddr.TheVariants as family
use Rattle.std.specs.Net.Grammar.{IsColonHex, IsDotted, IsGroupsAfter, IsIpText}
use Rattle.pf_cidr.specs.Nets.{IsHost, bracketed, is_slash, plain}
use Rattle.pf_cidr.specs.declared.address.Addr.{Addr}

pub record Slashless (text : List ℕ) : Type 0 where
  pub none : list_any is_slash text ≡ false

both : (xs ys : List ℕ) → Slashless xs → Slashless ys → Slashless (xs ++ ys)
both xs ys a b = record { none = rw (list_any-append is_slash xs ys, a.none, b.none) }

digits : (radix : ℕ) (text : List ℕ) → radix ≤ 36 → AllDigits radix text → Slashless text
digits radix [] small all = record { none = refl }
digits radix (c ∷ text) small all =
    let other = ne_eqb c 47 (λ is. let e : digit_value c ≡ 36 = ap digit_value is in absurd (omega (arith, all.0, e))) in
    record { none = rw (other, (digits radix text small all.1).none) }

pub decimal_slashless : (n : ℕ) → n < 2 ^ 64 → Slashless (decimal n)
decimal_slashless n small = digits 10 (decimal n) (omega arith) (decimal_is_IsNumeral n small).0.1

dot : Slashless (46 ∷ [])
dot = record { none = refl }

colon : Slashless (58 ∷ [])
colon = record { none = refl }

dotted_slashless : (text octets : List ℕ) → IsDotted text octets → Slashless text
dotted_slashless text octets d =
    let first = both _ _ (both _ _ (decimal_slashless d.a (omega (arith, d.fit.0))) dot) (decimal_slashless d.b (omega (arith, d.fit.1))) in
    let second = both _ _ (both _ _ first dot) (decimal_slashless d.c (omega (arith, d.fit.2))) in
    let third = both _ _ (both _ _ second dot) (decimal_slashless d.d (omega (arith, d.fit.3))) in
    subst Slashless (sym d.spelled) third

groups_slashless : (ipv4 : Bool) (lead text groups : List ℕ) → Slashless lead → IsGroupsAfter ipv4 lead text groups → Slashless text
groups_slashless ipv4 lead text [] ok is = subst Slashless (sym is) (record { none = refl })
groups_slashless ipv4 lead text (s ∷ groups) ok (inl g) =
    let group = digits 16 g.0 (omega arith) g.3.0.0.1 in
    let rest = groups_slashless ipv4 (58 ∷ []) g.1 groups colon g.4 in
    subst Slashless (sym g.2) (both _ _ (both _ _ ok group) rest)
groups_slashless ipv4 lead text (s ∷ groups) ok (inr g) =
    subst Slashless (sym g.3) (both _ _ ok (dotted_slashless g.0 g.1 g.4))

colon_hex_slashless : (text groups : List ℕ) → IsColonHex text groups → Slashless text
colon_hex_slashless text groups (inl whole) = groups_slashless true [] text groups (record { none = refl }) whole.0
colon_hex_slashless text groups (inr e) =
    let head = groups_slashless false [] e.head_text e.head (record { none = refl }) e.head_groups in
    let tail = groups_slashless true [] e.tail_text e.tail (record { none = refl }) e.tail_groups in
    subst Slashless (sym e.spelled) (both _ _ (both _ _ head (both _ _ colon colon)) tail)

address_slashless : (text : List ℕ) (ip : IpAddr) → IsIpText text ip → Slashless text
address_slashless text (family.V4 a) written = dotted_slashless text a.octets written
address_slashless text (family.V6 a) written = colon_hex_slashless text a.segments written

pub host_slashless : (text : List ℕ) (addr : Addr) → IsHost text addr → Slashless text
host_slashless text addr (plain written) = address_slashless text written.0 written.1
host_slashless text addr (bracketed inside bits written v6 is) =
    let rest = both inside (93 ∷ []) (address_slashless inside written.0 written.1) (record { none = refl }) in
    subst Slashless (sym is) (record { none = rest.none })
