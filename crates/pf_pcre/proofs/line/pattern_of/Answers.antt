use Rattle.std.proofs.Common.{false, ap, sym}
use Rattle.pf_pcre.specs.Clauses.Reading.{as_fault}
use Rattle.pf_pcre.proofs.LineLemmas.{not_text}
use Rattle.pf_pcre.proofs.line.pattern_of.Goals as goal

pub returns-in_default-from_utf8-clause-is : goal.returns-in_default-from_utf8-clause-is
returns-in_default-from_utf8-clause-is c = λ memory.
    sym (ap as_fault (not_text false c.args.flags.now c.args.text.now c.in-Some.switches c.in-Some.ensures c.in_default-from_utf8.ensures.cases.0))
