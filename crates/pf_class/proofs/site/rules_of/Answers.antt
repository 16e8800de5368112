use Rattle.std.proofs.Common.{refl}
use Rattle.pf_class.specs.Site.{rules_of}
use Rattle.pf_class.proofs.site.rules_of.Goals as goal

pub returns : goal.returns
unfolding rules_of
returns c =
    rw (c.in_ok-yes_named.ensures, c.in_ok-yes_named-2.ensures, c.in_ok-yes_named-3.ensures, c.in_ok-yes_named-4.ensures, c.in_ok-text_named.ensures, c.in_ok-text_named-2.ensures) refl
