-- Mailboxes and the lengths of their parts.
use Rattle.std.proofs.Common.{◌≡◌, ℕ, suc, ◌+◌, ◌<◌, ◌≤◌, eqb, List, [], ◌∷◌, ◌++◌, Some, length, get_or, take, drop, true, false, refl, sym, ap, ◌∙◌, append_assoc, arith, length-append, length-drop, take-add}
use Rattle.std.specs.List.{list_all}
use Rattle.std.proofs.lemmas.Bool.{and_from, and_parts, eqb-true, eqb-false, ne_eqb, not-true}
use Rattle.std.proofs.lemmas.List.{drop_at, drop-drop, drop_more, get_or_at, get_or-append-add, take_at}
use Rattle.std.proofs.lemmas.List.Folds.{list_all-append}
use Rattle.pf_addr.specs.Grammar.{IsDomain, IsLocalPart, IsMailbox, name, literal, plain, quoted, with_domain, alone, is_lone_byte, is_plain_byte}
use Rattle.pf_addr.specs.Clauses.Reading.{address_of, domain_len, local_len, local_of, mailbox, mailbox_len, route_len}
use Rattle.pf_addr.specs.declared.address.Address.{Address}
use Rattle.pf_addr.specs.declared.mailbox.Mailbox.{Mailbox}
use Rattle.pf_addr.proofs.ByteLemmas.{lone_is_no_at, lone_is_plain, plain_is_no}
use Rattle.pf_addr.proofs.Cases.{either_way}
use Rattle.pf_addr.proofs.DomainLemmas.{DomainAt, domain_complete, domain_sound, read_within}
use Rattle.pf_addr.proofs.LocalLemmas.{LocalAt, local_alone, local_before, local_meant, local_some, local_sound}
use Rattle.pf_addr.proofs.RouteLemmas.{at_within, no_at_first, no_route, plain_no_colon, plain_no_comma}
use Rattle.pf_addr.proofs.Runs.{all_weaker, first_passes}

some_length : (n : ℕ) → 0 < n → eqb n 0 ≡ false
some_length n some = ne_eqb n 0 (λ e. omega (arith, e))

no_length : (n : ℕ) → eqb n 0 ≡ false → 0 < n
no_length n h = let f = eqb-false n 0 h in omega (arith, f)

pub domain_some : (domain : List ℕ) → IsDomain domain → 0 < length domain
domain_some domain (name some all limit) = some
domain_some domain (literal inside all is limit) = rw is (omega arith)

pub drop_next : (xs ys : List ℕ) (y : ℕ) → drop (length xs + 1) (xs ++ y ∷ ys) ≡ ys
drop_next xs ys y = sym (drop-drop 1 (length xs) (xs ++ y ∷ ys)) ∙ ap (drop 1) (drop_at xs (y ∷ ys) (length xs) refl)

-- a mailbox at the head of a text, with this address and this length
pub record Found (text : List ℕ) (address : Address) (n : ℕ) : Type 0 where
  pub m : Mailbox
  pub is : mailbox text ≡ Some m
  pub len : mailbox_len m ≡ n
  pub address_is : address_of text m ≡ address

at_is_plain : is_plain_byte 64 ≡ true
unfolding is_plain_byte
at_is_plain = refl

no_at : (rest : List ℕ) → is_plain_byte (get_or rest 0 0) ≡ false → eqb (get_or rest 0 0) 64 ≡ false
no_at rest ends = ne_eqb _ 64 (λ e. cc (ends, at_is_plain, ap is_plain_byte e))

found_before : (local rest : List ℕ) (a : Address) → IsLocalPart is_plain_byte local a.local → IsDomain a.domain → is_plain_byte (get_or rest 0 0) ≡ false
    → Found (local ++ 64 ∷ (a.domain ++ rest)) a (length (local ++ 64 ∷ a.domain))
unfolding mailbox mailbox_len address_of
found_before local rest a local_is domain_is ends =
    let n = local_before local a.local a.domain rest local_is domain_is ends in
    let some = some_length (length local) (local_some is_plain_byte local a.local local_is) in
    let at = get_or_at local 64 (a.domain ++ rest) 0 (length local) refl in
    let behind = drop_next local (a.domain ++ rest) 64 in
    let d = domain_complete a.domain rest domain_is ends in
    let more = some_length (length a.domain) (domain_some a.domain domain_is) in
    record {
      m = record { local = length local; domain = length a.domain };
      is = rw (n, some, at, behind, d, more);
      len = rw more (simp length-append (omega arith));
      address_is =
          rw (
            behind,
            take_at local (64 ∷ (a.domain ++ rest)) (length local) refl,
            take_at a.domain rest (length a.domain) refl,
            local_meant is_plain_byte local a.local (λ b h. h) local_is,
          );
    }

found_alone : (local rest : List ℕ) (a : Address) → IsLocalPart is_lone_byte local a.local → a.domain ≡ [] → is_plain_byte (get_or rest 0 0) ≡ false
    → Found (local ++ rest) a (length local)
unfolding mailbox mailbox_len address_of
found_alone local rest a local_is none ends =
    let n = local_alone local a.local rest local_is ends in
    let some = some_length (length local) (local_some is_lone_byte local a.local local_is) in
    let zero : length local + 0 ≡ length local = omega arith in
    let at : eqb (get_or (local ++ rest) (length local) 0) 64 ≡ false =
    rw (rw zero at (get_or-append-add local rest 0 0)) (no_at rest ends) in
    record {
      m = record { local = length local; domain = 0 };
      is = rw (n, some, at);
      len = refl;
      address_is = rw (take_at local rest (length local) refl, local_meant is_lone_byte local a.local lone_is_plain local_is, none);
    }

pub mailbox_complete : (spelled rest : List ℕ) (a : Address) → IsMailbox spelled a → is_plain_byte (get_or rest 0 0) ≡ false
    → Found (spelled ++ rest) a (length spelled)
mailbox_complete spelled rest a (with_domain local local_is domain_is is) ends =
    rw (is, append_assoc local (64 ∷ a.domain) rest) (found_before local rest a local_is domain_is ends)
mailbox_complete spelled rest a (alone local_is none) ends = found_alone spelled rest a local_is none ends

-- a mailbox is at the head of a text
pub record MailboxAt (text : List ℕ) (m : Mailbox) : Type 0 where
  pub within : mailbox_len m ≤ length text
  pub is : IsMailbox (take (mailbox_len m) text) (address_of text m)

both_at : (text : List ℕ) (n d : ℕ) → eqb (get_or text n 0) 64 ≡ true → LocalAt text n → DomainAt (drop (n + 1) text) d → 0 < d
    → IsMailbox (take (n + d + 1) text) (record { local = local_of (take n text); domain = take d (drop (n + 1) text) })
both_at text n d at local domain some =
    let within = read_within text n 64 (eqb-true _ 64 at) (omega arith) in
    let e : n + d + 1 ≡ n + (suc d) = omega arith in
    let behind : drop n text ≡ 64 ∷ drop (n + 1) text = drop_more text n 0 within ∙ ap (λ b. b ∷ drop (n + 1) text) (eqb-true _ 64 at) in
    let parts : take (n + d + 1) text ≡ take n text ++ 64 ∷ take d (drop (n + 1) text) =
    rw e (take-add n (suc d) text ∙ ap (λ l. take n text ++ take (suc d) l) behind) in
    with_domain (take n text) local.before domain.domain parts

pub mailbox_sound : (text : List ℕ) (m : Mailbox) → mailbox text ≡ Some m → MailboxAt text m
unfolding mailbox mailbox_len address_of
mailbox_sound text m h =
    either_way (eqb (local_len text) 0) (λ none. cc (rw none at h)) (λ some.
    let local = local_sound text (no_length _ some) in
    either_way (eqb (get_or text (local_len text) 0) 64)
    (λ at. either_way (eqb (domain_len (drop (local_len text + 1) text)) 0) (λ none. cc (rw (some, at, none) at h)) (λ more.
    let domain = domain_sound (drop (local_len text + 1) text) (no_length _ more) in
    let place = read_within text (local_len text) 64 (eqb-true _ 64 at) (omega arith) in
    let fits : local_len text + domain_len (drop (local_len text + 1) text) + 1 ≤ length text =
    omega (arith, place, domain.within, length-drop (local_len text + 1) text) in
    let e : record { local = local_len text; domain = domain_len (drop (local_len text + 1) text) } ≡ m = cc (rw (some, at, more) at h) in
    rw (← e) (record {
      within = rw more fits;
      is = rw more (both_at text (local_len text) (domain_len (drop (local_len text + 1) text)) at local domain (no_length _ more));
    })))
    (λ other. let e : record { local = local_len text; domain = 0 } ≡ m = cc (rw (some, other) at h) in
    rw (← e) (record { within = local.within; is = alone (local.alone other) refl })))

-- a mailbox begins with no route
plain_prefix : (x : ℕ) (local rest : List ℕ) → list_all is_plain_byte (x ∷ local) ≡ true → eqb x 64 ≡ false → route_len ((x ∷ local) ++ rest) ≡ 0
plain_prefix x local rest all other =
    let first : list_all is_plain_byte (x ∷ []) ≡ true = and_from (is_plain_byte x) true (and_parts (is_plain_byte x) (list_all is_plain_byte local) all).0 refl in
    no_route (x ∷ []) (local ++ rest) (all_weaker is_plain_byte _ plain_no_colon (x ∷ []) first) (all_weaker is_plain_byte _ plain_no_comma (x ∷ []) first)
    (λ more. no_at_first x more other)

at_prefix : (local rest : List ℕ) → list_all is_plain_byte local ≡ true → route_len ((64 ∷ local) ++ 64 ∷ rest) ≡ 0
at_prefix local rest all =
    let prefix : list_all is_plain_byte (64 ∷ local ++ 64 ∷ []) ≡ true = rw (at_is_plain, list_all-append is_plain_byte local (64 ∷ []), all, at_is_plain) in
    let whole : (64 ∷ local) ++ 64 ∷ rest ≡ (64 ∷ local ++ 64 ∷ []) ++ rest = sym (append_assoc (64 ∷ local) (64 ∷ []) rest) in
    rw whole (no_route (64 ∷ local ++ 64 ∷ []) rest (all_weaker is_plain_byte _ plain_no_colon (64 ∷ local ++ 64 ∷ []) prefix)
    (all_weaker is_plain_byte _ plain_no_comma (64 ∷ local ++ 64 ∷ []) prefix)
    (λ more. rw (append_assoc local (64 ∷ []) more) (at_within local more)))

before_prefix : (local rest : List ℕ) → 0 < length local → list_all is_plain_byte local ≡ true → route_len (local ++ 64 ∷ rest) ≡ 0
before_prefix [] rest some all = absurd (omega arith)
before_prefix (x ∷ local) rest some all =
    either_way (eqb x 64)
    (λ at. let e = eqb-true x 64 at in rw e (at_prefix local rest ((and_parts (is_plain_byte x) (list_all is_plain_byte local) all).1)))
    (λ other. plain_prefix x local (64 ∷ rest) all other)

alone_prefix : (local rest : List ℕ) → 0 < length local → list_all is_lone_byte local ≡ true → route_len (local ++ rest) ≡ 0
alone_prefix [] rest some all = absurd (omega arith)
alone_prefix (x ∷ local) rest some all =
    plain_prefix x local rest (all_weaker is_lone_byte is_plain_byte lone_is_plain (x ∷ local) all)
    (not-true (eqb x 64) (lone_is_no_at x (and_parts (is_lone_byte x) (list_all is_lone_byte local) all).0))

quoted_prefix : (content rest : List ℕ) → route_len ((34 ∷ content) ++ rest) ≡ 0
quoted_prefix content rest = no_route (34 ∷ []) (content ++ rest) refl refl (λ more. no_at_first 34 more refl)

pub mailbox_no_route : (spelled rest : List ℕ) (a : Address) → IsMailbox spelled a → route_len (spelled ++ rest) ≡ 0
mailbox_no_route spelled rest a (with_domain local (plain some all same) domain_is is) =
    rw (is, same, append_assoc a.local (64 ∷ a.domain) rest) (before_prefix a.local (a.domain ++ rest) some all)
mailbox_no_route spelled rest a (with_domain local (quoted content inside same) domain_is is) =
    rw (is, same, append_assoc (34 ∷ content ++ 34 ∷ []) (64 ∷ a.domain) rest, append_assoc content (34 ∷ []) ((64 ∷ a.domain) ++ rest))
    (quoted_prefix content (34 ∷ ((64 ∷ a.domain) ++ rest)))
mailbox_no_route spelled rest a (alone (plain some all same) no_domain) = rw same (alone_prefix a.local rest some all)
mailbox_no_route spelled rest a (alone (quoted content inside same) no_domain) =
    rw (same, append_assoc content (34 ∷ []) rest) (quoted_prefix content (34 ∷ rest))

-- a mailbox begins with a plain byte or a quote
pub mailbox_first : (spelled rest : List ℕ) (a : Address) (c : ℕ) → is_plain_byte c ≡ false → eqb 34 c ≡ false → IsMailbox spelled a
    → eqb (get_or (spelled ++ rest) 0 0) c ≡ false
mailbox_first spelled rest a c fails quote (with_domain local (plain some all same) domain_is is) =
    rw (is, same, append_assoc a.local (64 ∷ a.domain) rest) (plain_is_no c _ fails (first_passes is_plain_byte a.local ((64 ∷ a.domain) ++ rest) some all))
mailbox_first spelled rest a c fails quote (with_domain local (quoted content inside same) domain_is is) = rw (is, same) quote
mailbox_first spelled rest a c fails quote (alone (plain some all same) no_domain) =
    rw same (plain_is_no c _ fails (first_passes is_plain_byte a.local rest some (all_weaker is_lone_byte is_plain_byte lone_is_plain a.local all)))
mailbox_first spelled rest a c fails quote (alone (quoted content inside same) no_domain) = rw same quote
