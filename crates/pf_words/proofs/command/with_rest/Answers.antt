use Rattle.std.proofs.Common.{◌≡◌, ◌∙◌, Some, ap, ap₂, false, rules}
use Rattle.clap.specs.Lexer.{usize_max}
use Rattle.clap.specs.Words.{Rule, app_of, rule_of, with_rule}
use Rattle.clap.specs.declared.builder.arg.Arg.{Arg}
use Rattle.pf_words.specs.Commands.{app_in, with_rest}
use Rattle.pf_words.proofs.command.with_rest.Goals as goal

pub returns : goal.returns
unfolding app_in with_rest
returns c =
    let local : c.num_args-rest.result.global ≡ false = ap (λ (a : Arg). a.global) c.num_args-rest.ensures.0 ∙ c.new.ensures.optional.1 in
    let range : c.num_args-rest.result.num_vals ≡ Some (record { start_inclusive = 0; end_inclusive = usize_max }) = search rules in
    let rule = ap rule_of c.num_args-rest.ensures.0 ∙ ap₂ (λ (r : Rule) n. record r { range = n }) c.new.ensures.rule range in
    c.in_ok-longer.ensures.shape local ∙ ap (λ (r : Rule). with_rule (app_of c.args.command) r) rule
