-- The steps of the resolved form.
use Rattle.std.proofs.Common.{◌≡◌, ◌<◌, ◌≤◌, ℕ, zero, suc, Bool, true, false, List, Option, None, Some, Result, Ok, Err, length, refl, sym, ap, arith, if◌then◌else◌}
use Rattle.pf_addr.specs.declared.address.Address.{Address}
use Rattle.pf_asks.proofs.LedLaws.{led_same}
use Rattle.pf_asks.specs.Clauses.Led.{ByTables, Same, TablesLed}
use Rattle.pf_asks.specs.Looking.{Tables}
use Rattle.pf_asks.specs.Questions as questions
use Rattle.pf_asks.specs.Questions.{Ask}
use Rattle.pf_asks.specs.Tries.{Try, ok, on_ok, ◌>>=◌}
use Rattle.pf_class.proofs.AskingLaws.{fault_next, hears_next, memory_at, ok_next}
use Rattle.pf_class.proofs.LocalLaws.{hears_local}
use Rattle.pf_class.proofs.MemberLaws.{hears_ok}
use Rattle.pf_class.proofs.Parting.{split_parts, standard_of}
use Rattle.pf_class.specs.Clauses.Asking.{EndsWith, HearsOn}
use Rattle.pf_class.specs.Local.{is_local}
use Rattle.pf_class.specs.Resolved.{ends, goes_on, resolved, resolved_from, resolved_within, split}
use Rattle.pf_class.specs.Standard.{standard}
use Rattle.pf_class.specs.declared.domains.Domains.{Domains}
use Rattle.pf_class.specs.declared.fault.ClassFault.{ClassFault}
use Rattle.pf_class.specs.declared.fault.ClassFault.TheVariants.{NoMemory}
use Rattle.pf_class.specs.declared.resolved.Resolved.{Resolved}

same_refl : {A : Type 0} (p : Ask A) → Same p p
same_refl p = record { same = λ means heard. refl }

same_sym : {A : Type 0} {p q : Ask A} → Same p q → Same q p
same_sym alike = record { same = λ means heard. sym (alike.same means heard) }

-- what comes after the first of two questions is answered alike
same_next : {A B : Type 0} (p : Try ClassFault A) (f g : A → Try ClassFault B) → ((x : A) → Same (f x) (g x)) → Same (p >>= f) (p >>= g)
unfolding questions.◌>>=◌
same_next p f g alike = record {
  same = λ means heard. ap (questions.behind (p means heard).asked) (after means (p means heard).left (p means heard).answer);
}
  where
    after : (means : _) (heard : _) (r : Result _ ClassFault) → on_ok f r means heard ≡ on_ok g r means heard
    after means heard (Ok x) = (alike x).same means heard
    after means heard (Err fault) = refl

abbrev choice : Domains → Address → Bool → Address → (Address → Try ClassFault Resolved) → Bool → Try ClassFault Resolved
choice domains address routed parts next local = if local then next (standard domains.rules parts) else ok (ends domains address routed)

-- two ways to go on that agree on the parts in standard form
same_choice : (domains : Domains) (address : Address) (routed : Bool) (parts : Address) (f g : Address → Try ClassFault Resolved)
    → Same (f (standard domains.rules parts)) (g (standard domains.rules parts)) → (local : Bool)
    → Same (choice domains address routed parts f local) (choice domains address routed parts g local)
same_choice domains address routed parts f g alike true = alike
same_choice domains address routed parts f g alike false = same_refl _

same_goes : (domains : Domains) (address : Address) (routed : Bool) (o : Option Address) (f g : Address → Try ClassFault Resolved)
    → ((parts : Address) → o ≡ Some parts → Same (f (standard domains.rules parts)) (g (standard domains.rules parts)))
    → Same (goes_on f domains address routed o) (goes_on g domains address routed o)
same_goes domains address routed None f g alike = same_refl _
same_goes domains address routed (Some parts) f g alike =
    same_next (is_local domains address.domain) (choice domains address routed parts f) (choice domains address routed parts g)
    (same_choice domains address routed parts f g (alike parts refl))

-- the parts in standard form have a shorter local part
shorter : (domains : Domains) (local : List ℕ) (parts : Address) → split domains.rules local ≡ Some parts
    → length (standard domains.rules parts).local < length local
shorter domains local parts is =
    let are = split_parts domains.rules local parts is in
    rw (standard_of domains.rules parts are.site) are.shorter

-- an empty local part is not parted
unparted : (domains : Domains) (local : List ℕ) (o : Option Address) → split domains.rules local ≡ o → length local ≡ 0 → o ≡ None
unparted domains local None is empty = refl
unparted domains local (Some parts) is empty = absurd (omega (arith, (split_parts domains.rules local parts is).shorter, empty))

goes_nowhere : (next : Address → Try ClassFault Resolved) (domains : Domains) (address : Address) (routed : Bool) → length address.local ≡ 0
    → goes_on next domains address routed (split domains.rules address.local) ≡ ok (ends domains address routed)
goes_nowhere next domains address routed empty =
    ap (goes_on next domains address routed) (unparted domains address.local (split domains.rules address.local) refl empty)

-- the length of the local part is enough
enough : (m n : ℕ) (domains : Domains) (address : Address) (routed : Bool) → length address.local ≤ m → length address.local ≤ n
    → Same (resolved_within m domains address routed) (resolved_within n domains address routed)
unfolding resolved_within
enough zero zero domains address routed le others = same_refl _
enough zero (suc n) domains address routed le others =
    rw (goes_nowhere (λ next. resolved_within n domains next true) domains address routed (omega (arith, le))) (same_refl _)
enough (suc m) zero domains address routed le others =
    rw (goes_nowhere (λ next. resolved_within m domains next true) domains address routed (omega (arith, others))) (same_refl _)
enough (suc m) (suc n) domains address routed le others =
    same_goes domains address routed (split domains.rules address.local) (λ next. resolved_within m domains next true) (λ next. resolved_within n domains next true)
    (λ parts is.
    let less = shorter domains address.local parts is in
    enough m n domains (standard domains.rules parts) true (omega (arith, less, le)) (omega (arith, less, others)))

-- an address that no operator parts stays
pub stays : (domains : Domains) (address : Address) (routed : Bool) → split domains.rules address.local ≡ None
    → resolved_from domains address routed ≡ ok (ends domains address routed)
unfolding resolved_within
stays domains address routed none = by (length address.local)
  where
    by : (n : ℕ) → resolved_within n domains address routed ≡ ok (ends domains address routed)
    by zero = refl
    by (suc n) = ap (goes_on (λ next. resolved_within n domains next true) domains address routed) none

-- the rest of the question where one does
abbrev pub on_local : Domains → Address → Bool → Address → Bool → Try ClassFault Resolved
on_local domains address routed parts local =
    choice domains address routed parts (λ next. resolved_from domains next true) local

pub goes : (domains : Domains) (address : Address) (routed : Bool) (parts : Address) → split domains.rules address.local ≡ Some parts
    → Same (resolved_from domains address routed) (is_local domains address.domain >>= on_local domains address routed parts)
unfolding resolved_within
goes domains address routed parts is = by (length address.local) (omega arith)
  where
    less : length (standard domains.rules parts).local < length address.local
    less = shorter domains address.local parts is

    by : (n : ℕ) → length address.local ≤ n → Same (resolved_within n domains address routed) (is_local domains address.domain >>= on_local domains address routed parts)
    by zero le = absurd (omega (arith, le, less))
    by (suc n) le = rw is
        (same_next (is_local domains address.domain) (choice domains address routed parts (λ next. resolved_within n domains next true))
        (on_local domains address routed parts)
        (same_choice domains address routed parts (λ next. resolved_within n domains next true) (λ next. resolved_from domains next true)
        (enough n (length (standard domains.rules parts).local) domains (standard domains.rules parts) true (omega (arith, less, le)) (omega arith))))

-- what is to be heard
pub hears_on_local : (domains : Domains) (address : Address) (routed : Bool) (parts : Address) (next : Address → Try ClassFault Resolved)
    → HearsOn (next (standard domains.rules parts)) → (local : Bool) → HearsOn (choice domains address routed parts next local)
hears_on_local domains address routed parts next hears true = hears
hears_on_local domains address routed parts next hears false = hears_ok _

pub hears_within : (n : ℕ) (domains : Domains) (address : Address) (routed : Bool) → HearsOn (resolved_within n domains address routed)
unfolding resolved_within
hears_within zero domains address routed = hears_ok _
hears_within (suc n) domains address routed = by (split domains.rules address.local) (λ parts. hears_within n domains (standard domains.rules parts) true)
  where
    by : (o : Option Address) → ((parts : Address) → HearsOn (resolved_within n domains (standard domains.rules parts) true))
        → HearsOn (goes_on (λ next. resolved_within n domains next true) domains address routed o)
    by None behind = hears_ok _
    by (Some parts) behind =
        hears_next (choice domains address routed parts (λ next. resolved_within n domains next true)) (hears_local domains address.domain)
        (hears_on_local domains address routed parts (λ next. resolved_within n domains next true) (behind parts))

pub hears_resolved : (domains : Domains) (address : Address) → HearsOn (resolved domains address)
unfolding resolved
hears_resolved domains address = hears_within _ domains _ false

-- what has led to the question of an address has led to what its parts ask
way : (domains : Domains) (a b : Tables) (p : Try ClassFault Resolved) (address : Address) (routed : Bool) (parts : Address)
    → split domains.rules address.local ≡ Some parts → TablesLed a b p (resolved_from domains address routed)
    → TablesLed a b p (is_local domains address.domain >>= on_local domains address routed parts)
way domains a b p address routed parts is led = λ w. led_same (led w) (goes domains address routed parts is)

-- and then, where the domain is local, to the question of the parts in standard form
pub way_on : (domains : Domains) (a b c : Tables) (p : Try ClassFault Resolved) (address : Address) (routed : Bool) (parts : Address) (own : Bool)
    → split domains.rules address.local ≡ Some parts → own ≡ true → TablesLed a b p (resolved_from domains address routed)
    → ByTables b c (is_local domains address.domain) (Ok own) → TablesLed a c p (resolved_from domains (standard domains.rules parts) true)
way_on domains a b c p address routed parts own is on led call =
    rw on at (ok_next a b c p (is_local domains address.domain) (on_local domains address routed parts) own (way domains a b p address routed parts is led) call)

-- or to its end
pub way_ends : (domains : Domains) (a b c : Tables) (p : Try ClassFault Resolved) (address : Address) (routed : Bool) (parts : Address) (own : Bool)
    → split domains.rules address.local ≡ Some parts → own ≡ false → TablesLed a b p (resolved_from domains address routed)
    → ByTables b c (is_local domains address.domain) (Ok own) → TablesLed a c p (ok (ends domains address routed))
way_ends domains a b c p address routed parts own is off led call =
    rw off at (ok_next a b c p (is_local domains address.domain) (on_local domains address routed parts) own (way domains a b p address routed parts is led) call)

pub way_fault : (domains : Domains) (a b c : Tables) (p : Try ClassFault Resolved) (address : Address) (routed : Bool) (parts : Address) (fault : ClassFault)
    → split domains.rules address.local ≡ Some parts → TablesLed a b p (resolved_from domains address routed)
    → EndsWith b c (is_local domains address.domain) fault → EndsWith a c p fault
way_fault domains a b c p address routed parts fault is led call =
    fault_next a b c p (is_local domains address.domain) (on_local domains address routed parts) fault (way domains a b p address routed parts is led)
    (hears_on_local domains address routed parts (λ next. resolved_from domains next true) (hears_within _ domains (standard domains.rules parts) true)) call

pub way_memory : (domains : Domains) (a b c : Tables) (p : Try ClassFault Resolved) (address : Address) (routed : Bool) (parts : Address) (own : Bool)
    (fault : ClassFault) → split domains.rules address.local ≡ Some parts → own ≡ true → TablesLed a b p (resolved_from domains address routed)
    → ByTables b c (is_local domains address.domain) (Ok own) → fault ≡ NoMemory → EndsWith a c p fault
way_memory domains a b c p address routed parts own fault is on led call memory =
    memory_at a c p (resolved_from domains (standard domains.rules parts) true) fault (way_on domains a b c p address routed parts own is on led call)
    (hears_within _ domains (standard domains.rules parts) true) memory

pub way_stays : (domains : Domains) (a b : Tables) (p : Try ClassFault Resolved) (address : Address) (routed : Bool)
    → split domains.rules address.local ≡ None → TablesLed a b p (resolved_from domains address routed) → TablesLed a b p (ok (ends domains address routed))
way_stays domains a b p address routed none led = λ w. rw (stays domains address routed none) at (led w)
