use Rattle.std.proofs.Common.{◌∙◌, ap, codes}
use Rattle.std.proofs.lemmas.Result.{IfOk-weaker}
use Rattle.clap.specs.Words.{App}
use Rattle.pf_words.specs.Commands.{postmap_flags, postmap_options, with_flags, with_options, with_rest}
use Rattle.pf_words.proofs.postmap.postmap_command.Goals as goal

pub returns : goal.returns
returns c =
    let flags = c.in_ok-command.ensures ∙ ap (λ (app : App). with_flags app postmap_flags) c.bare_command.ensures in
    let options = c.in_ok-command-2.ensures ∙ ap (λ (app : App). with_options app postmap_options) flags in
    IfOk-weaker c.with_rest.result _ _ (λ command fact. fact ∙ ap (λ (app : App). with_rest app (codes "rest")) options) c.with_rest.ensures
