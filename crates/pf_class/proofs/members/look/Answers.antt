use Rattle.std.proofs.Common.{inl, refl}
use Rattle.pf_asks.proofs.BrokenLaws.{broken_first, broken_look}
use Rattle.pf_asks.proofs.LedLaws.{led_first, led_look}
use Rattle.pf_asks.specs.Questions.{done}
use Rattle.pf_class.specs.Members.{as_answer, looked}
use Rattle.pf_class.proofs.members.look.Goals as goal

pub returns-in-Ok : goal.returns-in-Ok
unfolding looked
returns-in-Ok g c = λ w. led_first (λ answer. done (as_answer answer)) (led_look _ _ w c.in-Ok.ensures.stays c.in-Ok.ensures.answered)

pub returns-in-Err-Fails : goal.returns-in-Err-Fails
unfolding looked
returns-in-Err-Fails g c = (
  λ other w. led_first (λ answer. done (as_answer answer)) (led_look _ _ w c.in-Err-Fails.ensures.stays (c.in-Err-Fails.ensures.answered (λ same. cc))),
  λ same. cc,
)

pub returns-in-Err-Failed : goal.returns-in-Err-Failed
unfolding looked
returns-in-Err-Failed g c = (
  λ other w. led_first (λ answer. done (as_answer answer)) (led_look _ _ w c.in-Err-Failed.ensures.stays (c.in-Err-Failed.ensures.answered (λ same. cc))),
  λ same. cc,
)

pub returns-in-Err-NoMemory : goal.returns-in-Err-NoMemory
unfolding looked
returns-in-Err-NoMemory g c = (
  λ other. absurd (other refl),
  λ memory. inl (λ w. broken_first (λ answer. done (as_answer answer)) (broken_look _ _ w (rw c.in-Err-NoMemory.field-0-is at c.in-Err-NoMemory.ensures.stays))),
)
