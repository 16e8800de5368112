-- An address as it is printed writes that address.
use Rattle.std.proofs.Common.{◌≡◌, ℕ, zero, suc, ◌+◌, ◌*◌, ◌-◌, ◌/◌, ◌%◌, ◌^◌, ◌<◌, List, [], ◌∷◌, length, get_or, refl, sym, ap, ◌∙◌, arith}
use Rattle.std.proofs.Math.Nat as nat
use Rattle.std.proofs.lemmas.Nat.{from_be_bytes-to_be_bytes_4}
use Rattle.std.specs.Int.{w128, w32, byte_at, bytes_high_first, from_be_bytes, to_be_bytes}
use Rattle.std.specs.declared.net.ip_addr.IpAddr.TheVariants as family
use Rattle.std.specs.Net.Addr.{ipv4_bits, ipv6_bits, octets_of, segments_of}
use Rattle.std.proofs.NetLemmas.Texts.{IsColonHex-hex_groups_text, IsDotted-ipv4_text}
use Rattle.pf_cidr.specs.Addresses.{IsWritten, printed}
use Rattle.pf_cidr.specs.declared.address.Addr.TheVariants.{V4, V6}

-- a number is what its bytes say
byte_and_rest : (n p : ℕ) → n / p ≡ n / p % 256 + n / (p * 256) * 256
byte_and_rest n p = omega (arith, nat.div-div-eq-div-mul n p 256)

joined : (d0 d1 d2 d3 d4 d5 d6 d7 d8 d9 d10 d11 d12 d13 d14 d15 n q1 q2 q3 q4 q5 q6 q7 q8 q9 q10 q11 q12 q13 q14 q15 : ℕ)
    → n ≡ d0 + q1 * 256
    → q1 ≡ d1 + q2 * 256
    → q2 ≡ d2 + q3 * 256
    → q3 ≡ d3 + q4 * 256
    → q4 ≡ d4 + q5 * 256
    → q5 ≡ d5 + q6 * 256
    → q6 ≡ d6 + q7 * 256
    → q7 ≡ d7 + q8 * 256
    → q8 ≡ d8 + q9 * 256
    → q9 ≡ d9 + q10 * 256
    → q10 ≡ d10 + q11 * 256
    → q11 ≡ d11 + q12 * 256
    → q12 ≡ d12 + q13 * 256
    → q13 ≡ d13 + q14 * 256
    → q14 ≡ d14 + q15 * 256
    → q15 ≡ d15
    → d0 + d1 * 256 + d2 * 65536 + d3 * 16777216 + d4 * 4294967296 + d5 * 1099511627776 + d6 * 281474976710656 + d7 * 72057594037927936 + d8 * 18446744073709551616 + d9 * 4722366482869645213696 + d10 * 1208925819614629174706176 + d11 * 309485009821345068724781056 + d12 * 79228162514264337593543950336 + d13 * 20282409603651670423947251286016 + d14 * 5192296858534827628530496329220096 + d15 * 1329227995784915872903807060280344576 ≡ n
joined d0 d1 d2 d3 d4 d5 d6 d7 d8 d9 d10 d11 d12 d13 d14 d15 n q1 q2 q3 q4 q5 q6 q7 q8 q9 q10 q11 q12 q13 q14 q15 at_0 at_1 at_2 at_3 at_4 at_5 at_6 at_7 at_8 at_9 at_10 at_11 at_12 at_13 at_14 at_15 = omega arith

turned : (d0 d1 d2 d3 d4 d5 d6 d7 d8 d9 d10 d11 d12 d13 d14 d15 : ℕ) → d15 + d14 + d13 + d12 + d11 + d10 + d9 + d8 + d7 + d6 + d5 + d4 + d3 + d2 + d1 + d0 ≡ d0 + d1 + d2 + d3 + d4 + d5 + d6 + d7 + d8 + d9 + d10 + d11 + d12 + d13 + d14 + d15
turned d0 d1 d2 d3 d4 d5 d6 d7 d8 d9 d10 d11 d12 d13 d14 d15 = omega arith

from_bytes : (n : ℕ) → n < 2 ^ 128 → from_be_bytes w128 (to_be_bytes w128 n) ≡ n
from_bytes n fits =
    let low : n ≡ n % 256 + n / 256 * 256 = omega arith in
    let high : n / 1329227995784915872903807060280344576 ≡ n / 1329227995784915872903807060280344576 % 256 = omega arith in
    turned (n % 256) (n / 256 % 256 * 256) (n / 65536 % 256 * 65536) (n / 16777216 % 256 * 16777216) (n / 4294967296 % 256 * 4294967296) (n / 1099511627776 % 256 * 1099511627776) (n / 281474976710656 % 256 * 281474976710656) (n / 72057594037927936 % 256 * 72057594037927936) (n / 18446744073709551616 % 256 * 18446744073709551616) (n / 4722366482869645213696 % 256 * 4722366482869645213696) (n / 1208925819614629174706176 % 256 * 1208925819614629174706176) (n / 309485009821345068724781056 % 256 * 309485009821345068724781056) (n / 79228162514264337593543950336 % 256 * 79228162514264337593543950336) (n / 20282409603651670423947251286016 % 256 * 20282409603651670423947251286016) (n / 5192296858534827628530496329220096 % 256 * 5192296858534827628530496329220096) (n / 1329227995784915872903807060280344576 % 256 * 1329227995784915872903807060280344576)
    ∙ joined _ _ _ _ _ _ _ _ _ _ _ _ _ _ _ _ n _ _ _ _ _ _ _ _ _ _ _ _ _ _ _ low (byte_and_rest n 256) (byte_and_rest n 65536) (byte_and_rest n 16777216) (byte_and_rest n 4294967296) (byte_and_rest n 1099511627776) (byte_and_rest n 281474976710656) (byte_and_rest n 72057594037927936) (byte_and_rest n 18446744073709551616) (byte_and_rest n 4722366482869645213696) (byte_and_rest n 1208925819614629174706176) (byte_and_rest n 309485009821345068724781056) (byte_and_rest n 79228162514264337593543950336) (byte_and_rest n 20282409603651670423947251286016) (byte_and_rest n 5192296858534827628530496329220096) high

-- two octets are the parts of their group
octets_again : (pairs : ℕ) (octets : List ℕ) → length octets ≡ 2 * pairs → ((k : ℕ) → get_or octets k 0 < 256) → octets_of (segments_of octets) ≡ octets
octets_again pairs [] even small = refl
octets_again pairs (a ∷ []) even small = absurd (omega arith)
octets_again pairs (a ∷ b ∷ octets) even small =
    let low : b < 256 = small 1 in
    let high : (a * 256 + b) / 256 ≡ a = omega arith in
    let rest : (a * 256 + b) % 256 ≡ b = omega arith in
    λ i. high i ∷ rest i ∷ octets_again (pairs - 1) octets (omega arith) (λ k. small (suc (suc k))) i

byte_small : (i n : ℕ) → byte_at i n < 256
byte_small zero n = omega arith
byte_small (suc i) n = omega arith

octet_small : (count n k : ℕ) → get_or (bytes_high_first count n) k 0 < 256
octet_small zero n k = omega arith
octet_small (suc count) n zero = byte_small count n
octet_small (suc count) n (suc k) = octet_small count n k

group_small : (octets : List ℕ) → ((k : ℕ) → get_or octets k 0 < 256) → (k : ℕ) → get_or (segments_of octets) k 0 < 2 ^ 16
group_small [] small k = omega arith
group_small (a ∷ []) small k = omega arith
group_small (a ∷ b ∷ octets) small zero = omega (arith, small 0, small 1)
group_small (a ∷ b ∷ octets) small (suc k) = group_small octets (λ i. small (suc (suc i))) k

pub printed_v4 : (bits : ℕ) → bits < 2 ^ 32 → IsWritten (printed (V4 bits)) (V4 bits)
unfolding ipv4_bits
printed_v4 bits fits = (
  family.V4 (record { octets = to_be_bytes w32 bits }),
  IsDotted-ipv4_text (to_be_bytes w32 bits) refl (octet_small 4 bits),
  ap V4 (sym (from_be_bytes-to_be_bytes_4 bits fits)),
)

pub printed_v6 : (bits : ℕ) → bits < 2 ^ 128 → IsWritten (printed (V6 bits)) (V6 bits)
unfolding ipv6_bits
printed_v6 bits fits =
    let small = octet_small 16 bits in
    let again = octets_again 8 (to_be_bytes w128 bits) refl small in (
      family.V6 (record { segments = segments_of (to_be_bytes w128 bits) }),
      IsColonHex-hex_groups_text (segments_of (to_be_bytes w128 bits)) refl (group_small (to_be_bytes w128 bits) small),
      ap V6 (sym (ap (from_be_bytes w128) again ∙ from_bytes bits fits)),
    )
