use Rattle.std.proofs.Common.{◌∙◌, ap, true}
use Rattle.clap.specs.Simple.{app_of_fields, on_top}
use Rattle.clap.specs.declared.builder.command.Command.TheOpen.{Command-F}
use Rattle.clap.specs.declared.builder.command.Command.{Command}
use Rattle.pf_words.specs.Commands.{app_in, bare_app}
use Rattle.pf_words.proofs.command.bare_command.Goals as goal

pub returns : goal.returns
unfolding app_in bare_app
returns c =
    ap app_of_fields c.disable_version_flag.ensures
    ∙ ap (λ (f : Command-F Command). app_of_fields (record f { disable_version_flag = true })) c.disable_help_flag.ensures
    ∙ ap (on_top (λ shape. record shape { disable_help_flag = true; disable_version_flag = true })) c.new.ensures.app
