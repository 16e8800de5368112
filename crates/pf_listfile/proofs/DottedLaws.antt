-- An IPv4 address is a host name too, and one text writes it: where it is taken as a name, nothing is lost.
use Rattle.std.proofs.Common.{◌≡◌, ◌||◌, ◌&&◌, ◌==◌, ℕ, ◌+◌, ◌*◌, ◌<◌, ◌≤◌, ◌^◌, ◌/◌, Bool, true, false, List, [], ◌∷◌, ◌++◌, length, decimal, Option, Some, None, Result, Ok, Err, refl, sym, ap, subst, ◌∙◌, inl, inr, arith, codes}
use Rattle.std.proofs.lemmas.Bool.{and_parts, eqb-true}
use Rattle.std.proofs.lemmas.Fmt.{decimal_is_IsNumeral}
use Rattle.std.proofs.lemmas.List.Folds.{list_any-append}
use Rattle.std.proofs.lemmas.Slice.Eq.{bytes_eq-Decides}
use Rattle.std.specs.Char.{digit_value}
use Rattle.std.specs.Int.{from_be_bytes, w32}
use Rattle.std.specs.List.{list_any}
use Rattle.std.specs.Str.{bytes_eq}
use Rattle.std.specs.Str.Parse.{IsNumeral}
use Rattle.std.specs.declared.net.ip_addr.IpAddr.{IpAddr}
use Rattle.std.specs.declared.net.ip_addr.IpAddr.TheVariants as family
use Rattle.std.specs.declared.net.ipv4_addr.Ipv4Addr.{Ipv4Addr}
use Rattle.std.specs.Net.Addr.{ipv4_bits, segments_of}
use Rattle.std.specs.Net.Grammar.{IsColonHex, IsDotted, IsGroupsAfter, IsIpText}
use Rattle.std.specs.Net.Text.{dotted_text}
use Rattle.pf_base.specs.Text.Ascii as ascii
use Rattle.pf_base.specs.Text.Names.{folded, is_host_name}
use Rattle.pf_cidr.proofs.AddressLaws.{address_sound}
use Rattle.pf_cidr.proofs.NetLaws.{reads}
use Rattle.pf_cidr.specs.Addresses.{IsWritten, address_of, address_with}
use Rattle.pf_cidr.specs.Nets.{IsHost, IsNet, Network, Reads, bracketed, net_has, net_of, part, plain, whole, width}
use Rattle.pf_cidr.specs.declared.address.Addr.{Addr}
use Rattle.pf_cidr.specs.declared.address.Addr.TheVariants.{V4, V6}
use Rattle.pf_listfile.specs.Items.{HasNetOf, is_in_net, matches_plain}
use Rattle.pf_listfile.specs.declared.item.Pattern.{Pattern}
use Rattle.pf_listfile.specs.declared.item.Pattern.TheVariants as pattern
use Rattle.pf_listfile.proofs.HostLaws.{Foreign, none_in_name}

abbrev has : ℕ → List ℕ → Bool
has byte text = list_any (λ b. b == byte) text

or_true : (a b : Bool) → b ≡ true → (a || b) ≡ true
or_true true b h = refl
or_true false b h = h

has_behind : (byte : ℕ) (front text : List ℕ) → has byte text ≡ true → has byte (front ++ text) ≡ true
has_behind byte front text h = list_any-append (λ b. b == byte) front text ∙ or_true (has byte front) (has byte text) h

has_before : (byte : ℕ) (front text : List ℕ) → has byte front ≡ true → has byte (front ++ text) ≡ true
has_before byte front text h = list_any-append (λ b. b == byte) front text ∙ ap (λ t. t || has byte text) h

-- a colon is in each IPv6 address
after_colon : (ipv4 : Bool) (text : List ℕ) (s : ℕ) (segments : List ℕ) → IsGroupsAfter ipv4 (58 ∷ []) text (s ∷ segments) → has 58 text ≡ true
after_colon ipv4 text s segments (inl g) = subst (λ t. has 58 t ≡ true) (sym g.2) refl
after_colon ipv4 text s segments (inr g) = subst (λ t. has 58 t ≡ true) (sym g.3) refl

short : (octets : List ℕ) (text : List ℕ) → IsDotted text octets → length (segments_of octets) ≡ 2
short octets text d = rw d.value refl

groups_colon : (text segments : List ℕ) → IsGroupsAfter true [] text segments → length segments ≡ 8 → has 58 text ≡ true
groups_colon text [] groups eight = absurd (omega (arith, eight))
groups_colon text (s ∷ []) groups eight = absurd (omega (arith, eight))
groups_colon text (s ∷ t ∷ segments) (inl g) eight =
    subst (λ x. has 58 x ≡ true) (sym g.2) (has_behind 58 g.0 g.1 (after_colon true g.1 t segments g.4))
groups_colon text (s ∷ t ∷ segments) (inr g) eight =
    let two : length (s ∷ t ∷ segments) ≡ 2 = ap length g.5 ∙ short g.1 g.0 g.4 in absurd (omega (arith, eight, two))

hex_colon : (text segments : List ℕ) → IsColonHex text segments → has 58 text ≡ true
hex_colon text segments (inl groups) = groups_colon text segments groups.0 groups.1
hex_colon text segments (inr e) = subst (λ x. has 58 x ≡ true) (sym e.spelled) (has_before 58 (e.head_text ++ codes "::") e.tail_text (has_behind 58 e.head_text (codes "::") refl))

-- what a net is written as that has no slash, bracket or colon
record Plain (text : List ℕ) : Type 0 where
  slash : has 47 text ≡ false
  bracket : has 91 text ≡ false
  colon : has 58 text ≡ false

both_ways : (byte : ℕ) (text : List ℕ) → has byte text ≡ false → has byte text ≡ true → ⊥
both_ways byte text without with_one = cc

record OneAddress (text : List ℕ) (net : Network) : Type 0 where
  ip : Ipv4Addr
  dotted : IsDotted text ip.octets
  addr : net.addr ≡ V4 (ipv4_bits ip)
  prefix : net.prefix ≡ 32

by_address : (text : List ℕ) (net : Network) → Plain text → net.prefix ≡ width net.addr → IsWritten text net.addr → OneAddress text net
by_address text net clear all (family.V4 ip, dotted, is) = record { ip = ip; dotted = dotted; addr = is; prefix = all ∙ ap width is }
by_address text net clear all (family.V6 ip, hex, is) = absurd (both_ways 58 text clear.colon (hex_colon text ip.segments hex))

by_host : (text : List ℕ) (net : Network) → Plain text → net.prefix ≡ width net.addr → IsHost text net.addr → OneAddress text net
by_host text net clear all (plain written) = by_address text net clear all written
by_host text net clear all (bracketed inside bits written v6 spelled) =
    absurd (both_ways 91 text clear.bracket (subst (λ t. has 91 t ≡ true) (sym spelled) refl))

by_net : (text : List ℕ) (net : Network) → Plain text → IsNet text net → OneAddress text net
by_net text net clear (whole host all) = by_host text net clear all host
by_net text net clear (part host written spelled small) =
    absurd (both_ways 47 text clear.slash (subst (λ t. has 47 t ≡ true) (sym spelled) (has_behind 47 host (47 ∷ decimal net.prefix) refl)))

one_address : (text : List ℕ) (net : Network) → Plain text → net_of text ≡ Ok net → OneAddress text net
one_address text net clear is = let read : Reads text (Ok net) = subst (Reads text) is (reads text) in by_net text net clear read.0

-- two texts of one IPv4 address are the same
octet_parts : (a b c d e f g h : ℕ) → a < 256 → b < 256 → c < 256 → d < 256 → e < 256 → f < 256 → g < 256 → h < 256
    → from_be_bytes w32 (a ∷ b ∷ c ∷ d ∷ []) ≡ from_be_bytes w32 (e ∷ f ∷ g ∷ h ∷ [])
    → (a ≡ e) × (b ≡ f) × (c ≡ g) × (d ≡ h)
octet_parts a b c d e f g h la lb lc ld le lf lg lh same = (
  omega (arith, la, lb, lc, ld, le, lf, lg, lh, same),
  omega (arith, la, lb, lc, ld, le, lf, lg, lh, same),
  omega (arith, la, lb, lc, ld, le, lf, lg, lh, same),
  omega (arith, la, lb, lc, ld, le, lf, lg, lh, same),
)

same_text : (text key : List ℕ) (ip other : Ipv4Addr) → IsDotted text ip.octets → IsDotted key other.octets → ipv4_bits ip ≡ ipv4_bits other → text ≡ key
unfolding ipv4_bits
same_text text key ip other x y bits =
    let values : from_be_bytes w32 (x.a ∷ x.b ∷ x.c ∷ x.d ∷ []) ≡ from_be_bytes w32 (y.a ∷ y.b ∷ y.c ∷ y.d ∷ []) =
    ap (from_be_bytes w32) (sym x.value) ∙ bits ∙ ap (from_be_bytes w32) y.value in
    let parts = octet_parts x.a x.b x.c x.d y.a y.b y.c y.d x.fit.0 x.fit.1 x.fit.2 x.fit.3 y.fit.0 y.fit.1 y.fit.2 y.fit.3 values in
    x.spelled
    ∙ (λ i. decimal (parts.0 i) ++ codes "." ++ decimal (parts.1 i) ++ codes "." ++ decimal (parts.2 i) ++ codes "." ++ decimal (parts.3 i))
    ∙ sym y.spelled

-- a key that is in a net of one address writes that address
in_one : (net : Network) (bits other : ℕ) → net.addr ≡ V4 bits → net.prefix ≡ 32 → net_has net (V4 other) ≡ true → bits ≡ other
in_one net bits other addr prefix has =
    let is : net_has (record { addr = V4 bits; prefix = 32 }) (V4 other) ≡ true = same net.addr net.prefix addr prefix has in
    let first : other / 1 ≡ bits / 1 = eqb-true _ _ is in
    omega (arith, first)
  where
    same : (a : Addr) (p : ℕ) → a ≡ V4 bits → p ≡ 32 → net_has (record { addr = a; prefix = p }) (V4 other) ≡ true → net_has (record { addr = V4 bits; prefix = 32 }) (V4 other) ≡ true
    same a p ea ep h = subst (λ x. net_has (record { addr = V4 bits; prefix = x }) (V4 other) ≡ true) ep
        (subst (λ x. net_has (record { addr = x; prefix = p }) (V4 other) ≡ true) ea h)

no_six : (net : Network) (bits six : ℕ) → net.addr ≡ V4 bits → net_has net (V6 six) ≡ true → ⊥
no_six net bits six addr has = no (subst (λ x. net_has (record { addr = x; prefix = net.prefix }) (V6 six) ≡ true) addr has) where
  no : net_has (record { addr = V4 bits; prefix = net.prefix }) (V6 six) ≡ true → ⊥
  no h = cc

by_written : (text key : List ℕ) (net : Network) (other : ℕ) → OneAddress text net → net_has net (V4 other) ≡ true → IsWritten key (V4 other) → text ≡ key
by_written text key net other one has (family.V4 ip, dotted, is) =
    let bits : other ≡ ipv4_bits ip = cc in
    same_text text key one.ip ip one.dotted dotted (in_one net (ipv4_bits one.ip) other one.addr one.prefix has ∙ bits)
by_written text key net other one has (family.V6 ip, hex, is) = cc

the_text : (text key : List ℕ) (net : Network) → OneAddress text net → is_in_net net (address_of key) ≡ true → text ≡ key
the_text text key net one has = by (address_of key) refl has where
  by : (read : Option Addr) → address_of key ≡ read → is_in_net net read ≡ true → text ≡ key
  by None e h = cc
  by (Some (V4 other)) e h = by_written text key net other one h (address_sound key (V4 other) e)
  by (Some (V6 six)) e h = absurd (no_six net (ipv4_bits one.ip) six one.addr h)

foreign : (byte : ℕ) (text : List ℕ) → Foreign byte → is_host_name text ≡ true → has byte text ≡ false
foreign byte text other is = none_in_name byte other text is

plain_name : (text : List ℕ) → is_host_name text ≡ true → Plain text
plain_name text is = record {
  slash = foreign 47 text (record { in_no_label = refl; parts_none = refl }) is;
  bracket = foreign 91 text (record { in_no_label = refl; parts_none = refl }) is;
  colon = foreign 58 text (record { in_no_label = refl; parts_none = refl }) is;
}

-- a host name that writes a net matches the addresses in it
pub name_has_net : (text : List ℕ) → is_host_name text ≡ true → HasNetOf text (pattern.Name (folded text))
name_has_net text is net key written has =
    let same : text ≡ key = the_text text key net (one_address text net (plain_name text is) written) has in
    let equal : bytes_eq (folded text) (folded key) ≡ true = (bytes_eq-Decides (folded text) (folded key)).1 (ap folded same) in
    rw equal refl

-- a host name after a dot writes none: an address begins with a digit
abbrev BeginsWithDigit : List ℕ → Type 0
BeginsWithDigit [] = ⊥
BeginsWithDigit (b ∷ text) = digit_value b < 10

longer : (text more : List ℕ) → BeginsWithDigit text → BeginsWithDigit (text ++ more)
longer [] more digit = absurd digit
longer (b ∷ text) more digit = digit

first_digit : (a : ℕ) → a < 256 → BeginsWithDigit (decimal a)
first_digit a small = by (decimal a) (decimal_is_IsNumeral a (omega (arith, small))).0 where
  by : (digits : List ℕ) → IsNumeral 10 digits → BeginsWithDigit digits
  by [] numeral = absurd (omega (arith, numeral.0))
  by (b ∷ digits) numeral = numeral.1.0

begins_dotted : (a b c d : ℕ) → a < 256 → BeginsWithDigit (dotted_text a b c d)
begins_dotted a b c d small =
    longer _ (decimal d) (longer _ (codes ".") (longer _ (decimal c) (longer _ (codes ".") (longer _ (decimal b) (longer _ (codes ".") (first_digit a small))))))

no_dot_first : (text other : List ℕ) → ascii.dot ∷ text ≡ other → BeginsWithDigit other → ⊥
no_dot_first text other is digit = no_digit (subst BeginsWithDigit (sym is) digit) where
  no_digit : digit_value ascii.dot < 10 → ⊥
  no_digit value = omega (arith, value)

pub below_has_net : (text : List ℕ) → is_host_name text ≡ true → HasNetOf (ascii.dot ∷ text) (pattern.Below (folded text))
below_has_net text is net key written has =
    let name = plain_name text is in
    let clear : Plain (ascii.dot ∷ text) = record { slash = name.slash; bracket = name.bracket; colon = name.colon } in
    let one = one_address (ascii.dot ∷ text) net clear written in
    absurd (no_dot_first text (dotted_text one.dotted.a one.dotted.b one.dotted.c one.dotted.d) one.dotted.spelled
    (begins_dotted one.dotted.a one.dotted.b one.dotted.c one.dotted.d one.dotted.fit.0))

-- and a net has its own
pub net_has_net : (text : List ℕ) (net : Network) → net_of text ≡ Ok net → HasNetOf text (pattern.Net net)
net_has_net text net is other key written has =
    let same : other ≡ net = cc in subst (λ n. is_in_net n (address_of key) ≡ true) same has
