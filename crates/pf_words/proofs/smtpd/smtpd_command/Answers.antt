use Rattle.std.proofs.Common.{◌∙◌, ap}
use Rattle.std.proofs.lemmas.Result.{IfOk-weaker}
use Rattle.clap.specs.Words.{App}
use Rattle.pf_words.specs.Commands.{smtpd_options, with_options}
use Rattle.pf_words.proofs.smtpd.smtpd_command.Goals as goal

pub returns : goal.returns
returns c =
    IfOk-weaker c.with_options.result _ _ (λ command fact. fact ∙ ap (λ (app : App). with_options app smtpd_options) c.bare_command.ensures)
    c.with_options.ensures
