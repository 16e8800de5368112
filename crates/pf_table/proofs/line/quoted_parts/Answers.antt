use Rattle.std.proofs.Common.{sym, ◌∙◌}
use Rattle.std.proofs.lemmas.Result.{MatchResult-weaker}
use Rattle.pf_table.proofs.LineLemmas.{quoted_line}
use Rattle.pf_table.proofs.line.quoted_parts.Goals as goal

pub returns-in-Some : goal.returns-in-Some
returns-in-Some c = λ folds.
    let is = quoted_line folds c.args.text.now c.in-Some.place _ _ (sym c.closing_quote.ensures.place ∙ c.in-Some.is) c.around.ensures.before c.around.ensures.after in
    MatchResult-weaker c.parts_behind.result (c.parts_behind.ensures folds) (λ parts e. is ∙ e) (λ reason e. is ∙ e)
