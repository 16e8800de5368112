-- What lack of memory broke off. Each caller's answers rest on broken_next and one law for each kind of outside call.
use Rattle.std.proofs.Common.{◌≡◌, ℕ, false, List, Result, Ok, Err, refl, sym, ap, ◌∙◌, inl, inr}
use Rattle.std.specs.Prelude.{MatchResult}
use Rattle.pf_asks.proofs.LedLaws.{behind_behind, led_refl, led_same, led_trans}
use Rattle.pf_asks.specs.Clauses.Held.{Held, called}
use Rattle.pf_asks.specs.Clauses.Led.{Asks, AsksLinks, AsksResolver, AsksTables, BrokenOff, Cut, Led, Same, World}
use Rattle.pf_asks.specs.Looking.{Tables, looked_up}
use Rattle.pf_asks.specs.Questions.{Ask, ask, behind, done, look, try, ◌>>=◌}
use Rattle.pf_asks.specs.Wire.{Wire}
use Rattle.pf_asks.specs.declared.lookup.TableFault.TheVariants.{NoMemory}
use Rattle.pf_asks.specs.declared.resolver.Kind.{Kind}
use Rattle.pf_asks.specs.declared.resolver.Row.{Row}

-- what has led from a question to another has led from what follows on the one to what follows on the other
led_both : {A B : Type 0} {a b : World} {p q : Ask A} (f : A → Ask B) → Led a b p q → Led a b (p >>= f) (q >>= f)
unfolding ◌>>=◌
led_both {q = q} f led = record {
  heard = led.heard;
  asked = led.asked;
  tables = led.tables;
  links = led.links;
  resolver = led.resolver;
  is = λ means meant more.
      ap (λ gave. behind gave.asked (f gave.answer means gave.left)) (led.is means meant more)
      ∙ sym (behind_behind led.asked (q means more).asked (f (q means more).answer means (q means more).left));
}

-- three questions in turn
in_turn : {A B C : Type 0} (m : Ask A) (f : A → Ask B) (g : B → Ask C) → Same ((m >>= f) >>= g) (m >>= (λ x. f x >>= g))
unfolding ◌>>=◌
in_turn m f g = record {
  same = λ means heard.
      let gave = m means heard in
      let next = f gave.answer means gave.left in
      sym (behind_behind gave.asked next.asked (g next.answer means next.left));
}

-- what has led to a question that was broken off
pub broken_led : {A : Type 0} {a b c : World} {p q : Ask A} → Led a b p q → BrokenOff b c q → BrokenOff a c p
broken_led led (inl wants) = inl (record {
  mid = wants.mid;
  id = wants.id;
  key = wants.key;
  more = wants.more;
  led = led_trans led wants.led;
  left = wants.left;
})
broken_led led (inr (inl wants)) = inr (inl (record {
  mid = wants.mid;
  name = wants.name;
  kind = wants.kind;
  more = wants.more;
  led = led_trans led wants.led;
  left = wants.left;
}))
broken_led led (inr (inr wants)) = inr (inr (record {
  mid = wants.mid;
  links = wants.links;
  service = wants.service;
  text = wants.text;
  more = wants.more;
  led = led_trans led wants.led;
  cut = wants.cut;
  left = wants.left;
}))

-- a question that begins with one that was broken off
pub broken_first : {A B : Type 0} {a b : World} {p : Ask A} (f : A → Ask B) → BrokenOff a b p → BrokenOff a b (p >>= f)
broken_first f (inl wants) = inl (record {
  mid = wants.mid;
  id = wants.id;
  key = wants.key;
  more = λ x. wants.more x >>= f;
  led = led_same (led_both f wants.led) (in_turn (look wants.id wants.key) wants.more f);
  left = wants.left;
})
broken_first f (inr (inl wants)) = inr (inl (record {
  mid = wants.mid;
  name = wants.name;
  kind = wants.kind;
  more = λ x. wants.more x >>= f;
  led = led_same (led_both f wants.led) (in_turn (ask wants.name wants.kind) wants.more f);
  left = wants.left;
}))
broken_first f (inr (inr wants)) = inr (inr (record {
  mid = wants.mid;
  links = wants.links;
  service = wants.service;
  text = wants.text;
  more = λ x. wants.more x >>= f;
  led = led_same (led_both f wants.led) (in_turn (try wants.service wants.text) wants.more f);
  cut = wants.cut;
  left = wants.left;
}))

-- what was asked has come down to m and what its answer asks, and m was broken off
pub broken_next : {A B : Type 0} {a b c : World} {p : Ask B} {m : Ask A} (f : A → Ask B)
    → Led a b p (m >>= f) → BrokenOff b c m → BrokenOff a c p
broken_next f led broken = broken_led led (broken_first f broken)

-- a lookup
pub broken_look : {old new : Tables} (id : ℕ) (key : List ℕ) (w : World) → new ≡ looked_up (Err NoMemory) old
    → BrokenOff (record w { tables = old }) (record w { tables = new }) (look id key)
unfolding look done ◌>>=◌
broken_look {old = old} id key w stays = inl (record {
  mid = record w { tables = old };
  id = id;
  key = key;
  more = λ x. done x;
  led = led_same (led_refl (record w { tables = old }) (look id key)) (record { same = λ means heard. refl });
  left = ap (λ tables. record w { tables = tables }) stays;
})

-- a question to the resolver
pub broken_ask : {old new : Held (List Row)} (name : List ℕ) (kind : Kind) (w : World) → new ≡ called false old
    → BrokenOff (record w { resolver = old }) (record w { resolver = new }) (ask name kind)
unfolding ask done ◌>>=◌
broken_ask {old = old} name kind w stays = inr (inl (record {
  mid = record w { resolver = old };
  name = name;
  kind = kind;
  more = λ x. done x;
  led = led_same (led_refl (record w { resolver = old }) (ask name kind)) (record { same = λ means heard. refl });
  left = ap (λ resolver. record w { resolver = resolver }) stays;
}))

-- a try
pub broken_try : {old new : Held Wire} (service text : List ℕ) (w : World) → Cut old new service text
    → BrokenOff (record w { links = old }) (record w { links = new }) (try service text)
unfolding try done ◌>>=◌
broken_try {old = old} {new = new} service text w cut = inr (inr (record {
  mid = record w { links = old };
  links = new;
  service = service;
  text = text;
  more = λ x. done x;
  led = led_same (led_refl (record w { links = old }) (try service text)) (record { same = λ means heard. refl });
  cut = cut;
  left = refl;
}))

-- what a call on one object asked, beside the others
pub asks_tables : {A E : Type 0} (old new : Tables) (p : Ask A) (result : Result A E) (w : World) → AsksTables old new p result
    → Asks (record w { tables = old }) (record w { tables = new }) p result
asks_tables old new p (Ok x) w by = by w
asks_tables old new p (Err fault) w broken = broken w

pub asks_links : {A E : Type 0} (old new : Held Wire) (p : Ask A) (result : Result A E) (w : World) → AsksLinks old new p result
    → Asks (record w { links = old }) (record w { links = new }) p result
asks_links old new p (Ok x) w by = by w
asks_links old new p (Err fault) w broken = broken w

pub asks_resolver : {A E : Type 0} (old new : Held (List Row)) (p : Ask A) (result : Result A E) (w : World) → AsksResolver old new p result
    → Asks (record w { resolver = old }) (record w { resolver = new }) p result
asks_resolver old new p (Ok x) w by = by w
asks_resolver old new p (Err fault) w broken = broken w

-- what is said of each answer and of each fault follows from what was said of it
pub match_weaker : {A E : Type 0} (result : Result A E) (P Q : A → Type 0) (R S : E → Type 0) → ((x : A) → P x → Q x) → ((e : E) → R e → S e)
    → MatchResult result P R → MatchResult result Q S
match_weaker (Ok x) P Q R S ok err fact = ok x fact
match_weaker (Err e) P Q R S ok err fact = err e fact
