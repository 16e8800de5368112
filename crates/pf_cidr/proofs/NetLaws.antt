-- What is read of a text is the net that it writes.
use Rattle.std.proofs.Common.{◌≡◌, ℕ, suc, ◌+◌, ◌-◌, ◌<◌, ◌≤◌, ◌^◌, true, false, List, [], ◌∷◌, ◌++◌, length, get_or, take, drop, decimal, Some, None, refl, sym, ap, ◌∙◌, subst, inl, inr, arith, length-append, le-leb, leb-true, eqb}
use Rattle.std.specs.Prelude.{◌==◌, ◌&&◌, ◌||◌, nat_lt, nat_le, not, slice_range}
use Rattle.std.proofs.Math.Seq.{take-append_seam}
use Rattle.std.proofs.lemmas.Bool.{and_from, and_parts, cases_lt, eq-eqb, eqb-false, eqb-true, lt-ltb, ne_eqb, or_parts}
use Rattle.std.proofs.lemmas.Fmt.{decimal-digits_value, decimal_digit, decimal_is_IsNumeral, first_decimal}
use Rattle.std.proofs.lemmas.List.{get_or_at, take_all, take_more}
use Rattle.std.proofs.lemmas.List.Folds.{list_any-append}
use Rattle.std.proofs.lemmas.List.Sums.{passes_at_first, split_at_first}
use Rattle.std.proofs.lemmas.Option.{none-some, same_Some}
use Rattle.std.specs.Char.{is_ascii_digit}
use Rattle.std.specs.List.{after_first, before_first, list_all, list_any, position_or_len}
use Rattle.std.specs.Net.Reader.{read_ipv4, read_ipv6, read_number, read_octet, read_segment, read_segments}
use Rattle.std.specs.Str.Parse.{digits_value}
use Rattle.pf_cidr.specs.Addresses.{address_of}
use Rattle.pf_cidr.specs.Nets.{IsHost, IsNet, Network, Reads, alone, bracketed, has_host_bits, host_of, if_v6, is_in_brackets, is_slash, net_of, part, plain, prefixed, whole, width, written_net}
use Rattle.pf_base.specs.Text.Numbers.{decimal_within, is_decimal}
use Rattle.pf_cidr.specs.declared.address.Addr.{Addr}
use Rattle.pf_cidr.specs.declared.address.Addr.TheVariants.{V4, V6}
use Rattle.pf_cidr.proofs.AddressLaws.{address_complete, address_sound}
use Rattle.pf_cidr.proofs.Cases.{either_option, either_way}
use Rattle.pf_base.proofs.NumberLemmas.{not_empty, own}
use Rattle.pf_cidr.proofs.SlashLaws.{host_slashless}

-- no address begins with a bracket
no_bracket : (rest : List ℕ) → address_of (91 ∷ rest) ≡ None
unfolding address_of read_ipv4 read_ipv6 read_number read_octet read_segment read_segments
no_bracket rest = refl

not_in_brackets : (text : List ℕ) (addr : Addr) → address_of text ≡ Some addr → is_in_brackets text ≡ false
not_in_brackets [] addr is = refl
not_in_brackets (b ∷ rest) addr is =
    either_way (eqb b 91)
    (λ at. let e : address_of (91 ∷ rest) ≡ Some addr = ap (λ c. address_of (c ∷ rest)) (sym (eqb-true b 91 at)) ∙ is in
    absurd (none-some addr (sym (no_bracket rest) ∙ e)))
    (λ other. rw other (either_way (nat_le 2 (length (b ∷ rest))) (λ h. rw h) (λ h. rw h)))

-- brackets round a text
abbrev in_brackets : List ℕ → List ℕ
in_brackets inside = 91 ∷ inside ++ (93 ∷ [])

brackets_are : (inside : List ℕ) → is_in_brackets (in_brackets inside) ≡ true
brackets_are inside =
    let len : length (in_brackets inside) ≡ length inside + 2 = omega (arith, length-append inside (93 ∷ [])) in
    let last : length (in_brackets inside) - 1 ≡ suc (length inside) = omega (arith, len) in
    rw (le-leb 2 (length (in_brackets inside)) (omega (arith, len)), last, get_or_at inside 93 [] 0 (length inside) refl)

inside_is : (inside : List ℕ) → slice_range (in_brackets inside) 1 (length (in_brackets inside) - 1) ≡ inside
inside_is inside =
    let count : length (in_brackets inside) - 1 - 1 ≡ length inside = omega (arith, length-append inside (93 ∷ [])) in
    rw count (take-append_seam inside (93 ∷ []))

in_brackets_is : (text : List ℕ) → is_in_brackets text ≡ true → text ≡ in_brackets (slice_range text 1 (length text - 1))
in_brackets_is [] is = cc
in_brackets_is (b ∷ rest) is =
    let parts = and_parts _ _ is in
    let first = and_parts _ _ parts.0 in
    let some : 2 ≤ length (b ∷ rest) = leb-true 2 _ first.0 in
    let at : b ≡ 91 = eqb-true b 91 first.1 in
    let place : length (b ∷ rest) - 1 ≡ suc (length rest - 1) = omega (arith, some) in
    let last : get_or rest (length rest - 1) 0 ≡ 93 = eqb-true _ 93 (rw place at parts.1) in
    let count : length (b ∷ rest) - 1 - 1 ≡ length rest - 1 = omega (arith, some) in
    let all : length rest - 1 + 1 ≡ length rest = omega (arith, some) in
    let more : take (length rest) rest ≡ take (length rest - 1) rest ++ (93 ∷ []) =
    rw all at (take_more rest (length rest - 1) 0 (omega (arith, some))) ∙ ap (λ c. take (length rest - 1) rest ++ (c ∷ [])) last in
    rw count (ap (λ c. c ∷ rest) at ∙ ap (λ r. 91 ∷ r) (sym (take_all (length rest) rest (omega arith)) ∙ more))

host_complete : (text : List ℕ) (addr : Addr) → IsHost text addr → host_of text ≡ Some addr
unfolding host_of
host_complete text addr (plain written) =
    let read = address_complete text addr written in
    rw (not_in_brackets text addr read) read
host_complete text addr (bracketed inside bits written v6 is) =
    let read = address_complete inside addr written in
    rw (is, brackets_are inside, inside_is inside, read, v6)

if_v6_is : (addr other : Addr) → if_v6 addr ≡ Some other → (bits : ℕ) × (addr ≡ V6 bits) × (other ≡ V6 bits)
if_v6_is (V4 bits) other is = absurd (none-some other is)
if_v6_is (V6 bits) other is = (bits, refl, sym (same_Some _ other is))

host_sound : (text : List ℕ) (addr : Addr) → host_of text ≡ Some addr → IsHost text addr
unfolding host_of
host_sound text addr is =
    either_way (is_in_brackets text)
    (λ inside.
    either_option (address_of (slice_range text 1 (length text - 1)))
    (λ none. absurd (none-some addr (rw (inside, none) at is)))
    (λ own read.
    let v6 = if_v6_is own addr (rw (inside, read) at is) in
    let same : own ≡ addr = v6.1 ∙ sym v6.2 in
    bracketed (slice_range text 1 (length text - 1)) v6.0 (address_sound _ addr (read ∙ ap Some same)) v6.2 (in_brackets_is text inside)))
    (λ out. plain (address_sound text addr (rw out at is)))

-- decimal digits are those of their number
decimal_complete : (most n : ℕ) → n ≤ most → n < 2 ^ 64 → decimal_within most (decimal n) ≡ Some n
decimal_complete most n within small =
    let numeral = decimal_is_IsNumeral n small in
    let ascii : list_all is_ascii_digit (decimal n) ≡ true = own.from (decimal n) numeral.0.1 in
    let lead : (length (decimal n) == 1 || nat_lt 1 (length (decimal n)) && not (get_or (decimal n) 0 0 == 48)) ≡ true =
    elim (cases_lt n 10) [
      | inl one ↦ rw (decimal_digit n one)
      | inr more ↦ either_way (length (decimal n) == 1) (λ h. rw h) (λ h.
          let some : 1 < length (decimal n) = omega (arith, numeral.0.0, eqb-false _ 1 h) in
          let first = first_decimal n (omega arith) small in
          rw (h, lt-ltb 1 _ some, ne_eqb (get_or (decimal n) 0 0) 48 (omega (arith, first))))
    ] in
    rw (and_from _ _ ascii lead, numeral.1, le-leb n most within)

lead_is : (text : List ℕ) → (length text == 1 || nat_lt 1 (length text) && not (get_or text 0 0 == 48)) ≡ true → get_or text 0 0 ≡ 48 → length text ≡ 1
lead_is text is zero_first =
    either_way (length text == 1)
    (λ one. eqb-true (length text) 1 one)
    (λ more.
    let parts = and_parts (nat_lt 1 (length text)) (not (get_or text 0 0 == 48)) (rw more at is) in
    cc (rw (eq-eqb (get_or text 0 0) 48 zero_first) at parts.1))

decimal_sound : (most : ℕ) (text : List ℕ) (n : ℕ) → most < 2 ^ 64 → decimal_within most text ≡ Some n → (text ≡ decimal n) × (n ≤ most)
decimal_sound most text n fits is =
    either_way (is_decimal text)
    (λ decimal_text.
    either_way (nat_le (digits_value 10 text) most)
    (λ low.
    let value : digits_value 10 text ≡ n = same_Some _ n (rw (decimal_text, low) at is) in
    let within = leb-true (digits_value 10 text) most low in
    let parts = and_parts _ _ decimal_text in
    let same = decimal-digits_value own text parts.0 (not_empty text decimal_text) (lead_is text parts.1) (omega (arith, within)) in
    (sym same ∙ ap decimal value, omega (arith, within, value)))
    (λ high. absurd (none-some n (rw (decimal_text, high) at is))))
    (λ other. absurd (none-some n (rw other at is)))

-- a text before a slash, and what is after it
place_here : (host rest : List ℕ) → list_any is_slash host ≡ false → position_or_len is_slash (host ++ (47 ∷ rest)) ≡ length host
place_here [] rest none = refl
place_here (b ∷ host) rest none =
    let parts = or_parts (is_slash b) (list_any is_slash host) none in
    rw (parts.0, place_here host rest parts.1) (omega arith)

drop_seam : (host rest : List ℕ) (b : ℕ) → drop (length host + 1) (host ++ (b ∷ rest)) ≡ rest
drop_seam [] rest b = refl
drop_seam (c ∷ host) rest b = let e : suc (length host) + 1 ≡ suc (length host + 1) = omega arith in rw e (drop_seam host rest b)

width_small : (addr : Addr) → width addr ≤ 128
width_small (V4 bits) = omega arith
width_small (V6 bits) = omega arith

net_complete : (text : List ℕ) (net : Network) → IsNet text net → written_net text ≡ Some net
unfolding written_net
net_complete text net (whole host prefix) =
    rw ((host_slashless text net.addr host).none, host_complete text net.addr host) (ap (λ p. Some (record { addr = net.addr; prefix = p })) (sym prefix))
net_complete text net (part host is_host is within) =
    let none = (host_slashless host net.addr is_host).none in
    let digits = decimal net.prefix in
    let small = width_small net.addr in
    let has : list_any is_slash (host ++ (47 ∷ digits)) ≡ true = rw (list_any-append is_slash host (47 ∷ digits), none) in
    let here = place_here host digits none in
    let before : before_first is_slash (host ++ (47 ∷ digits)) ≡ host = rw here (take-append_seam host (47 ∷ digits)) in
    let after : after_first is_slash (host ++ (47 ∷ digits)) ≡ digits = rw here (drop_seam host digits 47) in
    ap written_net is
    ∙ rw (has, before, host_complete host net.addr is_host, after, decimal_complete (width net.addr) net.prefix within (omega (arith, within, small)))

has_within : (text : List ℕ) → list_any is_slash text ≡ true → position_or_len is_slash text < length text
has_within [] has = cc
has_within (b ∷ text) has =
    either_way (is_slash b) (λ h. rw h (omega arith)) (λ h. let more = has_within text (rw h at has) in rw h (omega (arith, more)))

parted : (text : List ℕ) → list_any is_slash text ≡ true → text ≡ before_first is_slash text ++ (47 ∷ after_first is_slash text)
parted text has =
    let within = has_within text has in
    let at = eqb-true (get_or text (position_or_len is_slash text) 0) 47 (passes_at_first is_slash text 0 within) in
    split_at_first is_slash text 0 within ∙ ap (λ b. before_first is_slash text ++ (b ∷ after_first is_slash text)) at

alone_sound : (text : List ℕ) (net : Network) → alone text ≡ Some net → IsNet text net
alone_sound text net is =
    either_option (host_of text)
    (λ none. absurd (none-some net (rw none at is)))
    (λ addr read. subst (IsNet text) (same_Some _ net (rw read at is)) (whole (host_sound text addr read) refl))

prefixed_sound : (text : List ℕ) (net : Network) → list_any is_slash text ≡ true → prefixed text ≡ Some net → IsNet text net
prefixed_sound text net has is =
    either_option (host_of (before_first is_slash text))
    (λ none. absurd (none-some net (rw none at is)))
    (λ addr read.
    either_option (decimal_within (width addr) (after_first is_slash text))
    (λ none. absurd (none-some net (rw (read, none) at is)))
    (λ prefix count.
    let small = width_small addr in
    let digits = decimal_sound (width addr) (after_first is_slash text) prefix (omega (arith, small)) count in
    let spelled = parted text has ∙ ap (λ d. before_first is_slash text ++ (47 ∷ d)) digits.0 in
    subst (IsNet text) (same_Some _ net (rw (read, count) at is))
    (part (before_first is_slash text) (host_sound (before_first is_slash text) addr read) spelled digits.1)))

net_sound : (text : List ℕ) (net : Network) → written_net text ≡ Some net → IsNet text net
unfolding written_net
net_sound text net is =
    either_way (list_any is_slash text) (λ has. prefixed_sound text net has (rw has at is)) (λ none. alone_sound text net (rw none at is))

pub reads : (text : List ℕ) → Reads text (net_of text)
unfolding net_of
reads text =
    either_option (written_net text)
    (λ none. rw none (λ net written. none-some net (sym none ∙ net_complete text net written)))
    (λ net is.
    either_way (has_host_bits net)
    (λ set. rw (is, set) (net, net_sound text net is, set))
    (λ unset. rw (is, unset) (net_sound text net is, unset, λ other written. same_Some other net (sym (net_complete text other written) ∙ is))))
