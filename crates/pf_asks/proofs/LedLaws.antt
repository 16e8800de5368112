-- What led to what, in turn. Each caller's answers rest on led_refl, led_next and one law for each kind of outside call.
use Rattle.std.proofs.Common.{◌≡◌, ◌+◌, ◌++◌, ℕ, Bool, true, false, List, [], ◌∷◌, Option, None, Some, length, refl, sym, ap, ◌∙◌, subst, arith, append_assoc, append-nil}
use Rattle.std.specs.Prelude.{if◌then◌else◌, ok_or}
use Rattle.std.proofs.lemmas.List.{get_or_append_left, get_or-append-add, length-append}
use Rattle.pf_asks.proofs.HeldLaws.{count_more, counted_none, heard_again, hears_call, hears_more, hears_nothing, knows_kept}
use Rattle.pf_asks.specs.Heard.{Heard, ◌then◌, nothing}
use Rattle.pf_asks.specs.Clauses.Held.{Answered, Held, Hears, Holds, Tells, called}
use Rattle.pf_asks.specs.Clauses.Led.{Led, Links, Looks, Meant, Same, TablesLed, Uses, UsesKnown, World, tried, world}
use Rattle.pf_asks.specs.Looking.{CanFind, Looked, Stays, Tables, Values, look_failed, looked_up, value_of}
use Rattle.pf_asks.specs.Questions.{Ask, Gave, Means, ask, behind, done, look, try, ◌>>=◌}
use Rattle.pf_asks.specs.Resolving.{Asked, answer_of, ask_failed}
use Rattle.pf_asks.specs.Wire.{Wire, is_down}
use Rattle.pf_asks.specs.declared.links.Outcome.{Outcome}
use Rattle.pf_asks.specs.declared.links.Request.{Request}
use Rattle.pf_asks.specs.declared.lookup.Found.{Found}
use Rattle.pf_asks.specs.declared.lookup.Results.TheVariants.{Anything}
use Rattle.pf_asks.specs.declared.lookup.TableFault.TheVariants.{Fails}
use Rattle.pf_asks.specs.declared.resolver.Kind.{Kind}
use Rattle.pf_asks.specs.declared.resolver.Row.{Row}
use Rattle.pf_base.specs.declared.table_texts.TableId.{TableId}

pub then_assoc : (a b c : Heard) → (a then b) then c ≡ a then (b then c)
then_assoc a b c = rw (append_assoc a.looks b.looks c.looks, append_assoc a.tries b.tries c.tries, append_assoc a.asks b.asks c.asks) refl

pub behind_behind : {A : Type 0} (xs ys : List Request) (gave : Gave A) → behind xs (behind ys gave) ≡ behind (xs ++ ys) gave
behind_behind xs ys gave = ap (λ asked. record gave { asked = asked }) (sym (append_assoc xs ys gave.asked))

-- tables
pub stays_none : (tables : Tables) → Stays 0 tables tables
stays_none tables = record { later = omega arith; few = omega arith; count = refl; partial = refl; sound = refl }

pub stays_more : {m n : ℕ} {a b c : Tables} → Stays m a b → Stays n b c → Stays (m + n) a c
stays_more first second = record {
  later = omega (arith, first.later, second.later);
  few = omega (arith, first.few, second.few);
  count = second.count ∙ first.count;
  partial = second.partial ∙ first.partial;
  sound = second.sound ∙ first.sound;
}

-- tables that can be looked up still can be
pub can_find_kept : {n : ℕ} {old new : Tables} {ids : List TableId} → Stays n old new → CanFind old ids → CanFind new ids
can_find_kept stays can = record {
  sound = stays.sound ∙ can.sound;
  there = λ k d lt. rw (← stays.count) at (can.there k d lt);
}

pub looks_nothing : (tables : Tables) → Looks tables tables []
looks_nothing tables = record { stays = stays_none tables; hears = hears_nothing tables.held }

pub looks_more : {a b c : Tables} {xs ys : List (Option Looked)} → Looks a b xs → Looks b c ys → Looks a c (xs ++ ys)
looks_more {xs = xs} {ys} first second = record {
  stays = rw (length-append xs ys) (stays_more first.stays second.stays);
  hears = hears_more first.hears second.hears;
}

-- tries
uses_more : (old mid new : Wire) (asked more : List Request) (heard others : List Outcome)
    → Uses old asked heard mid → Uses mid more others new → Uses old (asked ++ more) (heard ++ others) new
uses_more old mid new [] more [] others first second = subst (λ w. Uses w more others new) first second
uses_more old mid new [] more (outcome ∷ heard) others first second = absurd first
uses_more old mid new (request ∷ asked) more [] others first second = absurd first
uses_more old mid new (request ∷ asked) more (outcome ∷ heard) others first second =
    (first.0, first.1, first.2, uses_more (tried request.service first.0 old) mid new asked more heard others first.3 second)

uses_known_none : (wire : Option Wire) → UsesKnown wire [] [] wire
uses_known_none None = refl
uses_known_none (Some wire) = (wire, refl, refl)

uses_known_more : (old mid new : Option Wire) (asked more : List Request) (heard others : List Outcome)
    → UsesKnown old asked heard mid → UsesKnown mid more others new → UsesKnown old (asked ++ more) (heard ++ others) new
uses_known_more None mid new asked more heard others first second = rw first at second
uses_known_more (Some wire) mid new asked more heard others first second =
    let next = rw first.1 at second in
    (next.0, next.1, uses_more wire first.0 next.0 asked more heard others first.2 next.2)

pub links_nothing : (links : Held Wire) → Links links links [] []
links_nothing links = record { faults = counted_none links.faults; uses = uses_known_none links.content }

pub links_more : {a b c : Held Wire} {xs ys : List Request} {heard others : List Outcome}
    → Links a b xs heard → Links b c ys others → Links a c (xs ++ ys) (heard ++ others)
links_more {a = a} {b} {c} {xs} {ys} {heard} {others} first second = record {
  faults = count_more is_down heard others a.faults b.faults c.faults first.faults second.faults;
  uses = uses_known_more a.content b.content c.content xs ys heard others first.uses second.uses;
}

-- what the objects mean, they mean after calls too
pub meant_kept : (old new : World) {means : Means} → new.tables.held.content ≡ old.tables.held.content → new.resolver.content ≡ old.resolver.content
    → Meant old means → Meant new means
meant_kept old new {means = means} tables resolver meant = record {
  values = knows_kept means.values tables meant.values;
  rows = knows_kept means.rows resolver meant.rows;
}

-- nothing was asked
pub led_refl : {A : Type 0} (w : World) (p : Ask A) → Led w w p p
led_refl w p = record {
  heard = nothing;
  asked = [];
  tables = looks_nothing w.tables;
  links = links_nothing w.links;
  resolver = hears_nothing w.resolver;
  is = λ means meant more. refl;
}

pub led_trans : {A : Type 0} {a b c : World} {p q r : Ask A} → Led a b p q → Led b c q r → Led a c p r
led_trans {a = a} {b} {c} {p} {q} {r} f g = record {
  heard = f.heard then g.heard;
  asked = f.asked ++ g.asked;
  tables = looks_more f.tables g.tables;
  links = links_more f.links g.links;
  resolver = hears_more f.resolver g.resolver;
  is = λ means meant more.
      ap (p means) (then_assoc f.heard g.heard more)
      ∙ f.is means meant (g.heard then more)
      ∙ ap (behind f.asked) (g.is means (meant_kept a b f.tables.hears.kept f.resolver.kept meant) more)
      ∙ behind_behind f.asked g.asked (r means more);
}

-- a question that begins with an answered one goes on as its answer asks
pub led_first : {A B : Type 0} {a b : World} {p : Ask A} {x : A} (f : A → Ask B) → Led a b p (done x) → Led a b (p >>= f) (f x)
unfolding ◌>>=◌ done
led_first {x = x} f led = record {
  heard = led.heard;
  asked = led.asked;
  tables = led.tables;
  links = led.links;
  resolver = led.resolver;
  is = λ means meant more.
      ap (λ gave. behind gave.asked (f gave.answer means gave.left)) (led.is means meant more)
      ∙ ap (λ asked. behind asked (f x means more)) (append-nil led.asked);
}

-- what was asked has come down to m and what its answer asks; a call answered m
pub led_next : {A B : Type 0} {a b c : World} {p : Ask B} {m : Ask A} {x : A} (f : A → Ask B)
    → Led a b p (m >>= f) → Led b c m (done x) → Led a c p (f x)
led_next f led call = led_trans led (led_first f call)

-- a question that is answered alike may take the place of the other
pub led_same : {A : Type 0} {a b : World} {p q r : Ask A} → Led a b p q → Same q r → Led a b p r
led_same led alike = record {
  heard = led.heard;
  asked = led.asked;
  tables = led.tables;
  links = led.links;
  resolver = led.resolver;
  is = λ means meant more. led.is means meant more ∙ ap (behind led.asked) (alike.same means more);
}

-- a choice that was made
pub led_true : {A : Type 0} {a b : World} {p : Ask A} (test : Bool) (q r : Ask A) → true ≡ test → Led a b p (if test then q else r) → Led a b p q
led_true test q r e led = rw (← e) at led

pub led_false : {A : Type 0} {a b : World} {p : Ask A} (test : Bool) (q r : Ask A) → false ≡ test → Led a b p (if test then q else r) → Led a b p r
led_false test q r e led = rw (← e) at led

-- no table means that it fails from outside, and no resolver
look_works : (meant : Option Found) → look_failed (ok_or meant Fails) ≡ false
look_works None = refl
look_works (Some found) = refl

-- an object means something, known or not
abbrev pub meant_by : {C : Type 0} → Option C → C → C
meant_by None other = other
meant_by (Some known) other = known

pub knows_meant : {C : Type 0} (content : Option C) (other : C) → Tells content (meant_by content other)
knows_meant None other = tt
knows_meant (Some known) other = refl

pub stays_once : (old : Tables) (result : Looked) → Stays 1 old (looked_up result old)
stays_once old result = record { later = omega arith; few = omega arith; count = refl; partial = refl; sound = refl }

-- tables of which each fails
pub no_values : Values
no_values id = record { value = λ key. None; partial_keys = true; results = Anything }

looks_once : (old : Tables) (result : Looked) (id : ℕ) (key : List ℕ) (answered : Answered look_failed old.held.content (value_of id key) result)
    → Looks old (looked_up result old) (answered.heard ∷ [])
looks_once old result id key answered = record {
  stays = stays_once old result;
  hears = hears_call old.held (value_of id key) result (λ known. look_works ((known id).value key)) (meant_by old.held.content no_values)
      (knows_meant old.held.content no_values) answered;
}

-- a lookup
pub led_look : {old new : Tables} {result : Looked} (id : ℕ) (key : List ℕ) (w : World)
    → new ≡ looked_up result old → Answered look_failed old.held.content (value_of id key) result
    → Led (record w { tables = old }) (record w { tables = new }) (look id key) (done result)
unfolding look done
led_look {old = old} {result = result} id key w stays answered = rw stays (record {
  heard = record { looks = answered.heard ∷ []; tries = []; asks = [] };
  asked = [];
  tables = looks_once old result id key answered;
  links = links_nothing w.links;
  resolver = hears_nothing w.resolver;
  is = λ means meant more. ap (λ x. record { answer = x; left = more; asked = [] }) (sym (answered.is means.values meant.values));
})

asks_once : (old : Held (List Row)) (result : Asked) (name : List ℕ) (kind : Kind) (answered : Answered ask_failed old.content (answer_of name kind) result)
    → Hears ask_failed old (called (ask_failed result) old) (answered.heard ∷ [])
asks_once old result name kind answered =
    hears_call old (answer_of name kind) result (λ known. refl) (meant_by old.content []) (knows_meant old.content []) answered

-- a question to the resolver
pub led_ask : {old new : Held (List Row)} {result : Asked} (name : List ℕ) (kind : Kind) (w : World)
    → new ≡ called (ask_failed result) old → Answered ask_failed old.content (answer_of name kind) result
    → Led (record w { resolver = old }) (record w { resolver = new }) (ask name kind) (done result)
unfolding ask done
led_ask {old = old} {result = result} name kind w stays answered = rw stays (record {
  heard = record { looks = []; tries = []; asks = answered.heard ∷ [] };
  asked = [];
  tables = looks_nothing w.tables;
  links = links_nothing w.links;
  resolver = asks_once old result name kind answered;
  is = λ means meant more. ap (λ x. record { answer = x; left = more; asked = [] }) (sym (answered.is means.rows meant.rows));
})

-- a try of a policy service
pub led_try : {old new : Held Wire} {outcome : Outcome} (service text : List ℕ) (w : World)
    → Links old new (record { service = service; text = text } ∷ []) (outcome ∷ [])
    → Led (record w { links = old }) (record w { links = new }) (try service text) (done outcome)
unfolding try done
led_try {outcome = outcome} service text w links = record {
  heard = record { looks = []; tries = outcome ∷ []; asks = [] };
  asked = record { service = service; text = text } ∷ [];
  tables = looks_nothing w.tables;
  links = links;
  resolver = hears_nothing w.resolver;
  is = λ means meant more. refl;
}

-- within one question an answer that is no failure may be kept and used again: a definition that looks the key up again is answered by
-- it, and no call is made
pub led_again : (id : ℕ) (key : List ℕ) (result : Looked) (w : World) → Holds look_failed w.tables.held.content (value_of id key) result
    → Led w w (look id key) (done result)
unfolding look done
led_again id key result w holds = let again = heard_again w.tables.held (value_of id key) result holds in record {
  heard = record { looks = again.0 ∷ []; tries = []; asks = [] };
  asked = [];
  tables = record { stays = record { later = omega arith; few = omega arith; count = refl; partial = refl; sound = refl }; hears = again.1 };
  links = links_nothing w.links;
  resolver = hears_nothing w.resolver;
  is = λ means meant more. ap (λ x. record { answer = x; left = more; asked = [] }) (sym (again.2 means.values meant.values));
}

-- tables beside services and a resolver of which nothing is known
abbrev pub alone : Tables → World
alone tables = world tables (record { content = None; faults = 0 }) (record { content = None; faults = 0 })

-- tables that have led somewhere mean what they meant, and can be looked up as before
pub tables_kept : {A : Type 0} (old new : Tables) (p q : Ask A) → TablesLed old new p q → new.held.content ≡ old.held.content
tables_kept old new p q led = (led (alone old)).tables.hears.kept

pub led_can_find : {A : Type 0} {a b : World} {p q : Ask A} {ids : List TableId} → Led a b p q → CanFind a.tables ids → CanFind b.tables ids
led_can_find led can = can_find_kept led.tables.stays can

pub tables_can_find : {A : Type 0} {ids : List TableId} (old new : Tables) (p q : Ask A) → TablesLed old new p q → CanFind old ids → CanFind new ids
tables_can_find old new p q led can = led_can_find (led (alone old)) can

-- some of the tables
pub can_find_prefix : {tables : Tables} (xs ys : List TableId) → CanFind tables (xs ++ ys) → CanFind tables xs
can_find_prefix {tables = tables} xs ys can = record { sound = can.sound; there = λ k d lt. rw (get_or_append_left xs ys d k lt) at (can.there k d (omega (arith, lt, length-append xs ys))) }

pub can_find_back : {tables : Tables} (xs ys : List TableId) → CanFind tables (xs ++ ys) → CanFind tables ys
can_find_back {tables = tables} xs ys can = record { sound = can.sound; there = λ k d lt. rw (get_or-append-add xs ys k d) at (can.there (length xs + k) d (omega (arith, lt, length-append xs ys))) }

-- what holds of the answer whatever is heard, holds of what a call answered
pub led_always : {A : Type 0} {a b : World} {p : Ask A} {x : A} (P : A → Type 0) (means : Means) → Meant a means
    → ((heard : Heard) → P (p means heard).answer) → Led a b p (done x) → P x
unfolding done
led_always P means meant always led = subst P (ap (λ gave. gave.answer) (led.is means meant nothing)) (always (led.heard then nothing))
