use Rattle.pf_asks.proofs.LedLaws.{led_refl}
use Rattle.pf_class.specs.Members.{pattern_says}
use Rattle.pf_class.proofs.members.pattern_says.Goals as goal

pub returns-in-Names : goal.returns-in-Names
unfolding pattern_says
returns-in-Names g c = rw (c.in-Names.is, c.if_matched.ensures, c.has_one.ensures, c.as_slice.ensures) (λ w. led_refl _ _)

pub returns-in-Net : goal.returns-in-Net
unfolding pattern_says
returns-in-Net g c = rw (c.in-Net.is, c.if_matched-in-Net.ensures, c.is_in_net.ensures) (λ w. led_refl _ _)
