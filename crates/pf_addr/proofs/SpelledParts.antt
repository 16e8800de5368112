-- The parts of a path that the function of the grammar reads are those of the relation: local parts, domains, mailboxes and routes.
use Rattle.std.proofs.Common.{◌≡◌, ℕ, ◌+◌, ◌-◌, ◌<◌, Bool, eqb, List, [], ◌∷◌, ◌++◌, Option, Some, None, length, get_or, take, true, false, refl, sym, ap, ◌∙◌, append_assoc, arith, length-append, length-drop, length-take, lt-ltb, ltb-true, le-leb, leb-true}
use Rattle.std.specs.Prelude.{◌==◌, ◌&&◌, ◌||◌, is_some, not, nat_le, nat_lt, reverse}
use Rattle.std.specs.List.{after_first, after_last, before_first, before_last, list_all, position_or_len, prefix_len}
use Rattle.std.specs.Option.{option_map, option_or}
use Rattle.std.proofs.lemmas.Bool.{and_from, and_parts, eqb-true, not-false, or_from, or_parts, or_right}
use Rattle.std.proofs.lemmas.List.{drop_more, get_or-reverse, get_or_at, length-reverse, reverse-append, take-append-drop, take_all, take_at, take_more}
use Rattle.std.proofs.lemmas.List.Folds.{list_all-append}
use Rattle.std.proofs.lemmas.List.Sums.{passes_at_first, prefix_len_stops}
use Rattle.pf_addr.specs.Grammar.{IsContent, IsDomain, IsLocalPart, IsMailbox, none, byte, pair, name, literal, plain, quoted, with_domain, alone}
use Rattle.pf_addr.specs.Grammar.{is_literal_byte, is_lone_byte, is_name_byte, is_plain_byte, is_route}
use Rattle.pf_addr.specs.Spelled.{between, content, dot_string, is_at_sign, is_colon, is_domain, is_literal, is_name, local_part, mailbox, mailbox_with_domain, quoted_string, routed_mailbox}
use Rattle.pf_addr.specs.declared.address.Address.{Address}
use Rattle.pf_addr.proofs.AtLemmas.{is_other}
use Rattle.pf_addr.proofs.ByteLemmas.{name_is_no_at}
use Rattle.pf_addr.proofs.Cases.{either_way, either_option}
use Rattle.pf_addr.proofs.DomainLemmas.{read_within}
use Rattle.pf_addr.proofs.LocalLemmas.{local_some}
use Rattle.pf_addr.proofs.MailboxLemmas.{drop_next}
use Rattle.pf_addr.proofs.RouteLemmas.{before_at, route_bytes}
use Rattle.pf_addr.proofs.Runs.{all_weaker, run}

pub left_some : {A : Type 0} (a b : Option A) → is_some a ≡ true → is_some (option_or a b) ≡ true
left_some None b h = cc
left_some (Some x) b h = refl

pub right_some : {A : Type 0} (a b : Option A) → is_some b ≡ true → is_some (option_or a b) ≡ true
right_some None b h = h
right_some (Some x) b h = refl

pub map_some : {A B : Type 0} (f : A → B) (o : Option A) → is_some o ≡ true → is_some (option_map f o) ≡ true
map_some f None h = cc
map_some f (Some x) h = refl

-- what is between two bytes
pub between_sound : (first last : ℕ) (text inside : List ℕ) → 0 < last → between first last text ≡ Some inside → text ≡ first ∷ inside ++ last ∷ []
unfolding between
between_sound first last [] inside some h = cc
between_sound first last (b ∷ text) inside some h =
    either_way (b == first && get_or text (length text - 1) 0 == last)
    (λ both.
    let two = and_parts (b == first) (get_or text (length text - 1) 0 == last) both in
    let e : take (length text - 1) text ≡ inside = cc (rw both at h) in
    let last_is = eqb-true _ last two.1 in
    let place = read_within text (length text - 1) last last_is some in
    let n : length text - 1 + 1 ≡ length text = omega (arith, place) in
    let whole : text ≡ take (length text - 1) text ++ last ∷ [] =
    sym (take_all (length text) text (omega arith)) ∙ rw n at (take_more text (length text - 1) 0 place) ∙ ap (λ l. take (length text - 1) text ++ l ∷ []) last_is in
    rw (eqb-true b first two.0, ← e) (ap (λ l. first ∷ l) whole))
    (λ other. cc (rw other at h))

pub between_is : (first last : ℕ) (inside : List ℕ) → eqb first first ≡ true → eqb last last ≡ true
    → between first last (first ∷ inside ++ last ∷ []) ≡ Some inside
unfolding between
between_is first last inside same_first same_last =
    let n : length (inside ++ last ∷ []) - 1 ≡ length inside = simp length-append (omega arith) in
    rw (same_first, n, get_or_at inside last [] 0 (length inside) refl, same_last, take_at inside (last ∷ []) (length inside) refl)

-- the content of a quoted string
pub content_sound : (text local : List ℕ) → content text ≡ Some local → IsContent text local
content_sound [] local h = let e : [] ≡ local = cc in rw (← e) none
content_sound (b ∷ []) local h =
    either_way (b == 34 || b == 92)
    (λ special. cc (rw special at h))
    (λ other. let e : b ∷ [] ≡ local = cc (rw other at h) in rw (← e) (byte b other none))
content_sound (b ∷ next ∷ text) local h =
    either_way (eqb b 92)
    (λ slash. either_option (content text)
    (λ no. cc (rw (slash, no) at h))
    (λ l is. let e : next ∷ l ≡ local = cc (rw (slash, is) at h) in rw (eqb-true b 92 slash, ← e) (pair next (content_sound text l is))))
    (λ no_slash. either_way (eqb b 34)
    (λ quote. cc (rw (no_slash, quote) at h))
    (λ no_quote. either_option (content (next ∷ text))
    (λ no. cc (rw (no_slash, no_quote, no) at h))
    (λ l is. let e : b ∷ l ≡ local = cc (rw (no_slash, no_quote, is) at h) in
    rw (← e) (byte b (or_from (eqb b 34) (eqb b 92) no_quote no_slash) (content_sound (next ∷ text) l is)))))

byte_more : (b : ℕ) (text local : List ℕ) → (b == 34 || b == 92) ≡ false → content text ≡ Some local → content (b ∷ text) ≡ Some (b ∷ local)
byte_more b [] local other h = let e : [] ≡ local = cc in rw (other, ← e)
byte_more b (next ∷ text) local other h = let parts = or_parts (eqb b 34) (eqb b 92) other in rw (parts.1, parts.0, h)

pub content_is : {text local : List ℕ} → IsContent text local → content text ≡ Some local
content_is none = refl
content_is (byte {text = text} {local = local} b other more) = byte_more b text local other (content_is more)
content_is (pair b more) = rw (content_is more)

-- local parts
pub local_part_sound : (is_byte : ℕ → Bool) (text local : List ℕ) → local_part is_byte text ≡ Some local → IsLocalPart is_byte text local
unfolding local_part dot_string quoted_string
local_part_sound is_byte text local h =
    either_way (nat_lt 0 (length text) && list_all is_byte text)
    (λ both.
    let two = and_parts (nat_lt 0 (length text)) (list_all is_byte text) both in
    let e : text ≡ local = cc (rw both at h) in
    rw (← e) (plain (ltb-true 0 (length text) two.0) two.1 refl))
    (λ no. either_option (between 34 34 text)
    (λ none. cc (rw (no, none) at h))
    (λ inside is. quoted inside (content_sound inside local (rw (no, is) at h)) (between_sound 34 34 text inside (omega arith) is)))

pub local_part_some : (is_byte : ℕ → Bool) (text local : List ℕ) → IsLocalPart is_byte text local → is_some (local_part is_byte text) ≡ true
unfolding local_part dot_string quoted_string
local_part_some is_byte text local (plain some all is) = rw (is, lt-ltb 0 (length local) some, all)
local_part_some is_byte text local (quoted inside meant is) =
    right_some _ (quoted_string text) (rw (is, between_is 34 34 inside refl refl, content_is meant))

-- domains
pub is_domain_sound : (text : List ℕ) → is_domain text ≡ true → IsDomain text
unfolding is_domain
is_domain_sound text h =
    let two = and_parts (is_name text || is_literal text) (nat_le (length text) 255) h in
    let limit = leb-true (length text) 255 two.1 in
    either_way (is_name text)
    (λ is. let parts = and_parts (nat_lt 0 (length text)) (list_all is_name_byte text) is in
    name (ltb-true 0 (length text) parts.0) parts.1 limit)
    (λ no. either_option (between 91 93 text)
    (λ none. cc (rw (no, none) at two.0))
    (λ inside is. literal inside (rw (no, is) at two.0) (between_sound 91 93 text inside (omega arith) is) limit))

pub is_domain_is : (text : List ℕ) → IsDomain text → is_domain text ≡ true
unfolding is_domain
is_domain_is text (name some all limit) = rw (lt-ltb 0 (length text) some, all, le-leb (length text) 255 limit)
is_domain_is text (literal inside all is limit) =
    let it : is_literal text ≡ true = rw (is, between_is 91 93 inside refl refl) all in
    and_from (is_name text || is_literal text) (nat_le (length text) 255) (or_right (is_name text) (is_literal text) it) (le-leb (length text) 255 limit)

-- the last at sign
all_reverse : (p : ℕ → Bool) (xs : List ℕ) → list_all p xs ≡ true → list_all p (reverse xs) ≡ true
all_reverse p [] all = refl
all_reverse p (x ∷ xs) all =
    let parts = and_parts (p x) (list_all p xs) all in
    rw (reverse-append (x ∷ []) xs, list_all-append p (reverse xs) (x ∷ []), all_reverse p xs parts.1, parts.0)

record LastAt (text local domain : List ℕ) : Type 0 where
  pub before : before_last is_at_sign text ≡ local
  pub after : after_last is_at_sign text ≡ domain

last_at : (local domain : List ℕ) → list_all is_other domain ≡ true → LastAt (local ++ 64 ∷ domain) local domain
last_at local domain all =
    let whole : reverse (local ++ 64 ∷ domain) ≡ reverse domain ++ 64 ∷ reverse local =
    reverse-append local (64 ∷ domain) ∙ ap (λ l. l ++ reverse local) (reverse-append (64 ∷ []) domain) ∙ append_assoc (reverse domain) (64 ∷ []) (reverse local) in
    let n : prefix_len is_other (reverse (local ++ 64 ∷ domain)) ≡ length domain =
    rw whole (run is_other (reverse domain) (64 ∷ reverse local) (all_reverse is_other domain all) refl ∙ length-reverse domain) in
    let len : length (local ++ 64 ∷ domain) ≡ length local + length domain + 1 = simp length-append (omega arith) in
    let before : length local + length domain + 1 - length domain - 1 ≡ length local = omega arith in
    let after : length local + length domain + 1 - length domain ≡ length local + 1 = omega arith in
    record {
      before = rw (n, len, before) (take_at local (64 ∷ domain) (length local) refl);
      after = rw (n, len, after) (drop_next local domain 64);
    }

-- where something is before the last at sign there is one
parted_at : (text : List ℕ) → 0 < length (before_last is_at_sign text) → text ≡ before_last is_at_sign text ++ 64 ∷ after_last is_at_sign text
parted_at text some =
    let n = prefix_len is_other (reverse text) in
    let fits : prefix_len is_other (reverse text) + 1 < length text =
    omega (arith, some, length-take (length text - prefix_len is_other (reverse text) - 1) text) in
    let within : prefix_len is_other (reverse text) < length (reverse text) = omega (arith, fits, length-reverse text) in
    let m = length text - prefix_len is_other (reverse text) - 1 in
    let place : length text - prefix_len is_other (reverse text) - 1 < length text = omega (arith, fits) in
    let from_end : length text - 1 - prefix_len is_other (reverse text) ≡ length text - prefix_len is_other (reverse text) - 1 = omega (arith, fits) in
    let stop = rw (get_or-reverse text (prefix_len is_other (reverse text)) 0 (omega (arith, fits)), from_end) at (prefix_len_stops is_other (reverse text) 0 within) in
    let at : get_or text (length text - prefix_len is_other (reverse text) - 1) 0 ≡ 64 = eqb-true _ 64 (not-false _ stop) in
    let next : length text - prefix_len is_other (reverse text) - 1 + 1 ≡ length text - prefix_len is_other (reverse text) = omega (arith, fits) in
    sym (take-append-drop m text)
    ∙ ap (λ l. take (length text - prefix_len is_other (reverse text) - 1) text ++ l)
    (drop_more text (length text - prefix_len is_other (reverse text) - 1) 0 place
    ∙ rw (at, next))

-- no byte of a domain is an at sign
literal_is_no_at : (b : ℕ) → is_literal_byte b ≡ true → is_other b ≡ true
unfolding is_literal_byte
literal_is_no_at b h = (and_parts (not (b == 93)) (not (b == 64)) h).1

domain_no_at : (domain : List ℕ) → IsDomain domain → list_all is_other domain ≡ true
domain_no_at domain (name some all limit) = all_weaker is_name_byte is_other name_is_no_at domain all
domain_no_at domain (literal inside all is limit) =
    rw (is, list_all-append is_other inside (93 ∷ []), all_weaker is_literal_byte is_other literal_is_no_at inside all)

-- mailboxes
alone_sound : (text : List ℕ) (a : Address) → option_map (λ local. record { local = local; domain = [] }) (local_part is_lone_byte text) ≡ Some a → IsMailbox text a
alone_sound text a h =
    either_option (local_part is_lone_byte text)
    (λ none. cc (rw none at h))
    (λ local is. let e : record { local = local; domain = [] } ≡ a = cc (rw is at h) in
    rw (← e) (alone (local_part_sound is_lone_byte text local is) refl))

with_domain_sound : (text : List ℕ) (a : Address) → mailbox_with_domain text ≡ Some a → IsMailbox text a
unfolding mailbox_with_domain
with_domain_sound text a h =
    either_way (is_domain (after_last is_at_sign text))
    (λ domain. either_option (local_part is_plain_byte (before_last is_at_sign text))
    (λ none. cc (rw (domain, none) at h))
    (λ local is.
    let e : record { local = local; domain = after_last is_at_sign text } ≡ a = cc (rw (domain, is) at h) in
    let there = local_part_sound is_plain_byte (before_last is_at_sign text) local is in
    rw (← e) (with_domain (before_last is_at_sign text) there (is_domain_sound (after_last is_at_sign text) domain)
    (parted_at text (local_some is_plain_byte _ local there)))))
    (λ no. cc (rw no at h))

pub mailbox_is_sound : (text : List ℕ) (a : Address) → mailbox text ≡ Some a → IsMailbox text a
unfolding mailbox
mailbox_is_sound text a h =
    either_option (mailbox_with_domain text)
    (λ none. alone_sound text a (rw none at h))
    (λ found is. with_domain_sound text a (is ∙ rw is at h))

with_domain_some : (local : List ℕ) (a : Address) → IsLocalPart is_plain_byte local a.local → IsDomain a.domain
    → is_some (mailbox_with_domain (local ++ 64 ∷ a.domain)) ≡ true
unfolding mailbox_with_domain
with_domain_some local a local_is domain_is =
    let parts = last_at local a.domain (domain_no_at a.domain domain_is) in
    rw (parts.after, parts.before, is_domain_is a.domain domain_is)
    (map_some _ (local_part is_plain_byte local) (local_part_some is_plain_byte local a.local local_is))

pub mailbox_some : (text : List ℕ) (a : Address) → IsMailbox text a → is_some (mailbox text) ≡ true
unfolding mailbox
mailbox_some text a (with_domain local local_is domain_is is) =
    left_some (mailbox_with_domain text) _ (rw is (with_domain_some local a local_is domain_is))
mailbox_some text a (alone local_is no_domain) =
    right_some (mailbox_with_domain text) _ (map_some _ (local_part is_lone_byte text) (local_part_some is_lone_byte text a.local local_is))

mailbox_first_byte : (text : List ℕ) (a : Address) → IsMailbox text a → 0 < length text
mailbox_first_byte text a (with_domain local local_is domain_is is) = rw is (simp length-append (omega arith))
mailbox_first_byte text a (alone local_is no_domain) = local_some is_lone_byte text a.local local_is

-- a mailbox after a route
pub record Routed (text : List ℕ) (a : Address) : Type 0 where
  pub route : List ℕ
  pub spelled : List ℕ
  pub route_is : is_route route ≡ true
  pub mailbox_is : IsMailbox spelled a
  pub whole : text ≡ route ++ 58 ∷ spelled

-- where something is after the first colon there is one
parted_colon : (text : List ℕ) → 0 < length (after_first is_colon text) → text ≡ before_first is_colon text ++ 58 ∷ after_first is_colon text
parted_colon text some =
    let place : position_or_len is_colon text < length text = omega (arith, some, length-drop (position_or_len is_colon text + 1) text) in
    let colon = eqb-true _ 58 (passes_at_first is_colon text 0 place) in
    sym (take-append-drop (position_or_len is_colon text) text)
    ∙ ap (λ l. before_first is_colon text ++ l) (drop_more text (position_or_len is_colon text) 0 place ∙ ap (λ b. b ∷ after_first is_colon text) colon)

pub routed_sound : (text : List ℕ) (a : Address) → routed_mailbox text ≡ Some a → Routed text a
unfolding routed_mailbox
routed_sound text a h =
    either_way (is_route (before_first is_colon text))
    (λ route.
    let there = mailbox_is_sound (after_first is_colon text) a (rw route at h) in
    record {
      route = before_first is_colon text;
      spelled = after_first is_colon text;
      route_is = route;
      mailbox_is = there;
      whole = parted_colon text (mailbox_first_byte _ a there);
    })
    (λ no. cc (rw no at h))

pub routed_some : (route spelled : List ℕ) (a : Address) → is_route route ≡ true → IsMailbox spelled a → is_some (routed_mailbox (route ++ 58 ∷ spelled)) ≡ true
unfolding routed_mailbox
routed_some route spelled a route_is is =
    let before = before_at is_colon route spelled 58 (route_bytes route route_is) refl in
    let n = run (λ b. not (is_colon b)) route (58 ∷ spelled) (route_bytes route route_is) refl in
    let after : after_first is_colon (route ++ 58 ∷ spelled) ≡ spelled = rw n (drop_next route spelled 58) in
    rw (before, route_is, after) (mailbox_some spelled a is)
