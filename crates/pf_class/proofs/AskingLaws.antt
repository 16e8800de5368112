-- What calls that ask tables have led to, in turn, and what lack of memory broke off. Each caller's answers rest on ok_next and fault_next.
use Rattle.std.proofs.Common.{◌≡◌, ◌≤◌, inl, inr, ℕ, List, ◌∷◌, [], length, Option, Result, Ok, Err, sym, ap, ◌∙◌, arith, append-nil}
use Rattle.pf_asks.proofs.BrokenLaws.{broken_first, broken_next}
use Rattle.pf_asks.proofs.LedLaws.{behind_behind, led_next, led_refl, led_same, led_trans}
use Rattle.pf_asks.specs.Clauses.Led.{BrokenOff, ByTables, Led, Same, TablesLed, World}
use Rattle.pf_asks.specs.Heard.{next}
use Rattle.pf_asks.specs.Looking.{Looked, Tables}
use Rattle.pf_asks.specs.Questions as questions
use Rattle.pf_asks.specs.Questions.{Ask, behind, done, look}
use Rattle.pf_asks.specs.Tries.{Try, ok, on_ok, ◌>>=◌}
use Rattle.pf_class.specs.Clauses.Asking.{EndsWith, HearsOn, IsOrWants, Leaves, TriesOrWants}
use Rattle.pf_class.specs.declared.fault.ClassFault.{ClassFault}
use Rattle.pf_class.specs.declared.fault.ClassFault.TheVariants.{NoMemory}

-- there is no more to be heard
pub hears_done : {A : Type 0} (x : A) → HearsOn (done x)
unfolding done
hears_done x = record { looks = λ means heard. omega arith }

next_looks : (looks : List (Option Looked)) → length (next looks).1 ≤ length looks
next_looks [] = omega arith
next_looks (one ∷ more) = omega arith

pub hears_look : (id : ℕ) (key : List ℕ) → HearsOn (look id key)
unfolding look
hears_look id key = record { looks = λ means heard. next_looks heard.looks }

pub hears_then : {A B : Type 0} {p : Ask A} (f : A → Ask B) → HearsOn p → ((x : A) → HearsOn (f x)) → HearsOn (questions.◌>>=◌ p f)
unfolding questions.◌>>=◌
hears_then {p = p} f first behind = record {
  looks = λ means heard. omega (arith, first.looks means heard, (behind (p means heard).answer).looks means (p means heard).left);
}

pub hears_on_ok : {A B : Type 0} (f : A → Try ClassFault B) → ((x : A) → HearsOn (f x)) → (r : Result A ClassFault) → HearsOn (on_ok f r)
hears_on_ok f behind (Ok x) = behind x
hears_on_ok f behind (Err fault) = hears_done (Err fault)

pub hears_next : {A B : Type 0} {p : Try ClassFault A} (f : A → Try ClassFault B) → HearsOn p → ((x : A) → HearsOn (f x)) → HearsOn (p >>= f)
hears_next f first behind = hears_then (on_ok f) first (hears_on_ok f behind)

-- what has led from a question to another has led from what follows on the one to what follows on the other
led_both : {A B : Type 0} {a b : World} {p q : Ask A} (f : A → Ask B) → Led a b p q → Led a b (questions.◌>>=◌ p f) (questions.◌>>=◌ q f)
unfolding questions.◌>>=◌
led_both {q = q} f led = record {
  heard = led.heard;
  asked = led.asked;
  tables = led.tables;
  links = led.links;
  resolver = led.resolver;
  is = λ means meant more.
      ap (λ gave. behind gave.asked (f gave.answer means gave.left)) (led.is means meant more)
      ∙ sym (behind_behind led.asked (q means more).asked (f (q means more).answer means (q means more).left));
}

-- nothing follows on a question
then_done : {A : Type 0} (p : Ask A) → Same p (questions.◌>>=◌ p done)
unfolding questions.◌>>=◌ done
then_done p = record { same = λ means heard. sym (ap (λ asked. record (p means heard) { asked = asked }) (append-nil (p means heard).asked)) }

broken_led : {A : Type 0} {a b c : World} {p q : Ask A} → Led a b p q → BrokenOff b c q → BrokenOff a c p
broken_led {q = q} led broken = broken_next done (led_same led (then_done q)) broken

-- what has led to a question that lack of memory broke off
leaves_led : {A : Type 0} (a b c : Tables) (p q : Ask A) → TablesLed a b p q → Leaves b c q → Leaves a c p
leaves_led a b c p q led (inl broken) = inl (λ w. broken_led (led w) (broken w))
leaves_led a b c p q led (inr wants) = inr (record { rest = wants.rest; hears = wants.hears; led = λ w. led_trans (led w) (wants.led w) })

-- a question that begins with one that lack of memory broke off
leaves_first : {A B : Type 0} (a b : Tables) (p : Ask A) (f : A → Ask B) → ((x : A) → HearsOn (f x)) → Leaves a b p → Leaves a b (questions.◌>>=◌ p f)
leaves_first a b p f behind (inl broken) = inl (λ w. broken_first f (broken w))
leaves_first a b p f behind (inr wants) = inr (record {
  rest = questions.◌>>=◌ wants.rest f;
  hears = hears_then f wants.hears behind;
  led = λ w. led_both f (wants.led w);
})

-- memory was wanting after what has led to a question
pub wants_here : {A : Type 0} {a b : Tables} {p : Ask A} (q : Ask A) → TablesLed a b p q → HearsOn q → Leaves a b p
wants_here q led hears = inr (record { rest = q; hears = hears; led = led })

-- and before anything was asked
pub wants_first : {A : Type 0} (tables : Tables) (p : Ask A) → HearsOn p → Leaves tables tables p
wants_first tables p hears = wants_here p (λ w. led_refl _ _) hears

-- what was asked has come down to m and what its answer asks; a call answered m
pub ok_next : {A B : Type 0} (a b c : Tables) (p : Try ClassFault B) (m : Try ClassFault A) (f : A → Try ClassFault B) (x : A)
    → TablesLed a b p (m >>= f) → ByTables b c m (Ok x) → TablesLed a c p (f x)
ok_next a b c p m f x led call = λ w. led_next (on_ok f) (led w) (call w)

-- or ended it with a fault
pub fault_next : {A B : Type 0} (a b c : Tables) (p : Try ClassFault B) (m : Try ClassFault A) (f : A → Try ClassFault B) (fault : ClassFault)
    → TablesLed a b p (m >>= f) → ((x : A) → HearsOn (f x)) → EndsWith b c m fault → EndsWith a c p fault
fault_next a b c p m f fault led behind call = (
  λ other w. led_next (on_ok f) (led w) (call.0 other w),
  λ memory. leaves_led a b c p (m >>= f) led (leaves_first b c m (on_ok f) (hears_on_ok f behind) (call.1 memory)),
)

-- the same where the question begins with m
pub ok_first : {A B : Type 0} (a b : Tables) (m : Try ClassFault A) (f : A → Try ClassFault B) (x : A) → ByTables a b m (Ok x) → TablesLed a b (m >>= f) (f x)
ok_first a b m f x call = ok_next a a b (m >>= f) m f x (λ w. led_refl _ _) call

pub fault_first : {A B : Type 0} (a b : Tables) (m : Try ClassFault A) (f : A → Try ClassFault B) (fault : ClassFault)
    → ((x : A) → HearsOn (f x)) → EndsWith a b m fault → EndsWith a b (m >>= f) fault
fault_first a b m f fault behind call = fault_next a a b (m >>= f) m f fault (λ w. led_refl _ _) behind call

-- what has led to a question, and the fault that ended it
pub fault_led : {A : Type 0} (a b c : Tables) (p q : Try ClassFault A) (fault : ClassFault) → TablesLed a b p q → EndsWith b c q fault → EndsWith a c p fault
fault_led a b c p q fault led call = (
  λ other w. led_trans (led w) (call.0 other w),
  λ memory. leaves_led a b c p q led (call.1 memory),
)

-- memory was wanting after what has led to a question, and before anything was asked
pub memory_at : {A : Type 0} (a b : Tables) (p q : Try ClassFault A) (fault : ClassFault) → TablesLed a b p q → HearsOn q → fault ≡ NoMemory → EndsWith a b p fault
memory_at a b p q fault led hears memory = (λ other. absurd (other memory), λ same. wants_here q led hears)

pub memory_first : {A : Type 0} (tables : Tables) (p : Try ClassFault A) (fault : ClassFault) → HearsOn p → fault ≡ NoMemory → EndsWith tables tables p fault
memory_first tables p fault hears memory = memory_at tables tables p p fault (λ w. led_refl _ _) hears memory

-- what has led to a question that a call then answered
pub tail_led : {A : Type 0} (a b c : Tables) (p q : Try ClassFault A) (result : Result A ClassFault) → TablesLed a b p q → TriesOrWants b c q result
    → TriesOrWants a c p result
tail_led a b c p q (Ok x) led by = λ w. led_trans (led w) (by w)
tail_led a b c p q (Err fault) led ended = fault_led a b c p q fault led ended

-- or to an answer that takes memory
pub answer_led : {A : Type 0} (a b : Tables) (p : Try ClassFault A) (x : A) (result : Result A ClassFault) → TablesLed a b p (ok x) → IsOrWants result x
    → TriesOrWants a b p result
answer_led a b p x (Ok y) led is = λ w. rw is (led w)
answer_led a b p x (Err fault) led memory = memory_at a b p (ok x) fault led (hears_done (Ok x)) memory
