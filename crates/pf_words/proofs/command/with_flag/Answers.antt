use Rattle.std.proofs.Common.{◌≡◌, ◌∙◌, Some, ap, false}
use Rattle.clap.specs.Words.{Rule, app_of, rule_of, with_rule}
use Rattle.clap.specs.declared.builder.action.ArgAction.TheVariants.{SetTrue}
use Rattle.clap.specs.declared.builder.arg.Arg.{Arg}
use Rattle.pf_words.specs.Commands.{app_in, with_flag}
use Rattle.pf_words.proofs.command.with_flag.Goals as goal

pub returns : goal.returns
unfolding app_in with_flag
returns c =
    let local : c.action-flag.result.global ≡ false =
    ap (λ (a : Arg). a.global) c.action-flag.ensures ∙ ap (λ (a : Arg). a.global) c.short.ensures ∙ c.new.ensures.optional.1 in
    let short = ap rule_of c.short.ensures ∙ ap (λ (r : Rule). record r { short = Some c.args.letter }) c.new.ensures.rule in
    let rule = ap rule_of c.action-flag.ensures ∙ ap (λ (r : Rule). record r { action = Some SetTrue }) short in
    c.in_ok-longer.ensures.shape local ∙ ap (λ (r : Rule). with_rule (app_of c.args.command) r) rule
