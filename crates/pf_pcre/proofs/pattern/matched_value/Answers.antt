use Rattle.pf_pcre.proofs.FoundLemmas.{some_value}
use Rattle.pf_pcre.proofs.pattern.matched_value.Goals as goal

pub returns-in-Some : goal.returns-in-Some
returns-in-Some c =
    let found = c.in-Some.ensures.found in
    let given = rw c.new-value.ensures at c.in_ok-expand-in-Some.ensures in
    some_value _ _ c.args.text.now c.in_ok-matcher.ensures.pattern found.0 found.1 c.in-Some.captures found.2 c.args.pieces.now _ given
