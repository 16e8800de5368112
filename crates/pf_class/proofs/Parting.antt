-- What the rules that part a local part give.
use Rattle.std.proofs.Common.{◌≡◌, ℕ, ◌+◌, ◌-◌, ◌<◌, Bool, true, false, List, Option, Some, None, length, take, drop, refl, ◌∙◌, arith, length-drop, length-take, ltb-true, lt-ltb, if◌then◌else◌}
use Rattle.std.specs.Prelude.{◌==◌, ◌&&◌, not, nat_lt}
use Rattle.std.specs.List.{after_first, after_last, before_first, before_last, position_or_len, suffix_len}
use Rattle.std.proofs.lemmas.Bool.{and_parts}
use Rattle.pf_addr.specs.declared.address.Address.{Address}
use Rattle.pf_class.specs.Resolved.{at_at, split}
use Rattle.pf_class.specs.Standard.{address_of, at_bang, at_percent, full_domain, parted, standard, standard_with, user_at, with_domain}
use Rattle.pf_class.specs.declared.rules.Rules.{Rules}

either_way : {P : Type 0} (b : Bool) → (b ≡ true → P) → (b ≡ false → P) → P
either_way true f g = f refl
either_way false f g = g refl

either_option : {A P : Type 0} (o : Option A) → (o ≡ None → P) → ((x : A) → o ≡ Some x → P) → P
either_option None f g = f refl
either_option (Some x) f g = g x refl

-- a user shorter than the local part, at a site
pub record ArePartsOf (local : List ℕ) (parts : Address) : Type 0 where
  pub shorter : length parts.local < length local
  pub site : 0 < length parts.domain

user_at_site : (local user site : List ℕ) (parts : Address) → (0 < length user → length user < length local) → user_at user site ≡ Some parts
    → ArePartsOf local parts
user_at_site local user site parts shorter h =
    either_way (nat_lt 0 (length user) && nat_lt 0 (length site))
    (λ both.
    let two = and_parts (nat_lt 0 (length user)) (nat_lt 0 (length site)) both in
    let e : address_of user site ≡ parts = cc (rw both at h) in
    rw (← e) (record { shorter = shorter (ltb-true 0 (length user) two.0); site = ltb-true 0 (length site) two.1 }))
    (λ one. cc (rw one at h))

behind_shorter : (local : List ℕ) (n : ℕ) → 0 < length (drop (n + 1) local) → length (drop (n + 1) local) < length local
behind_shorter local n some = omega (arith, length-drop (n + 1) local)

prefix_shorter : (local : List ℕ) (n : ℕ) → 0 < length (take (length local - n - 1) local) → length (take (length local - n - 1) local) < length local
prefix_shorter local n some = omega (arith, length-take (length local - n - 1) local)

bang_parts : (local : List ℕ) (parts : Address) → at_bang local ≡ Some parts → ArePartsOf local parts
unfolding at_bang
bang_parts local parts h =
    user_at_site local (after_first (λ b. b == 33) local) (before_first (λ b. b == 33) local) parts (behind_shorter local (position_or_len (λ b. b == 33) local)) h

percent_parts : (local : List ℕ) (parts : Address) → at_percent local ≡ Some parts → ArePartsOf local parts
unfolding at_percent
percent_parts local parts h =
    user_at_site local (before_last (λ b. b == 37) local) (after_last (λ b. b == 37) local) parts (prefix_shorter local (suffix_len (λ b. not (b == 37)) local)) h

at_parts : (local : List ℕ) (parts : Address) → at_at local ≡ Some parts → ArePartsOf local parts
unfolding at_at
at_parts local parts h =
    user_at_site local (before_last (λ b. b == 64) local) (after_last (λ b. b == 64) local) parts (prefix_shorter local (suffix_len (λ b. not (b == 64)) local)) h

percent_rule : (rules : Rules) (local : List ℕ) (parts : Address) → (if rules.allow_percent_hack then at_percent local else None) ≡ Some parts → ArePartsOf local parts
percent_rule rules local parts h =
    either_way rules.allow_percent_hack (λ on. percent_parts local parts (rw on at h)) (λ off. cc (rw off at h))

parted_parts : (rules : Rules) (local : List ℕ) (parts : Address) → parted rules local ≡ Some parts → ArePartsOf local parts
unfolding parted
parted_parts rules local parts h =
    either_way rules.swap_bangpath
    (λ on. either_option (at_bang local)
    (λ none. percent_rule rules local parts (rw (on, none) at h))
    (λ found is. bang_parts local parts (is ∙ rw (on, is) at h)))
    (λ off. percent_rule rules local parts (rw off at h))

pub split_parts : (rules : Rules) (local : List ℕ) (parts : Address) → split rules local ≡ Some parts → ArePartsOf local parts
unfolding split
split_parts rules local parts h =
    either_option (at_at local)
    (λ none. parted_parts rules local parts (rw none at h))
    (λ found is. at_parts local parts (is ∙ rw is at h))

-- the standard form of an address that has a domain
pub standard_of : (rules : Rules) (parts : Address) → 0 < length parts.domain
    → standard rules parts ≡ address_of parts.local (full_domain rules rules.mydomain parts.domain)
unfolding standard standard_with with_domain
standard_of rules parts some = rw (lt-ltb 0 (length parts.domain) some)
