-- The commands are such that clap's contracts say all of what it answers.
use Rattle.std.proofs.Common.{◌≡◌, true, refl}
use Rattle.clap.proofs.OnLiterals.{clap_on_literals}
use Rattle.clap.specs.Words.{is_simple_and_free}
use Rattle.pf_words.specs.Commands.{bare_app, postconf_app, postmap_app, smtpd_app, with_flag, with_option, with_rest}

pub smtpd_is_simple : is_simple_and_free smtpd_app ≡ true
unfolding bare_app with_option clap_on_literals
smtpd_is_simple = refl

pub postconf_is_simple : is_simple_and_free postconf_app ≡ true
unfolding bare_app with_flag with_option with_rest clap_on_literals
postconf_is_simple = refl

pub postmap_is_simple : is_simple_and_free postmap_app ≡ true
unfolding bare_app with_flag with_option with_rest clap_on_literals
postmap_is_simple = refl
