use Rattle.pf_pcre.proofs.BuiltLemmas.{built, not_built, pattern_is}
use Rattle.pf_pcre.proofs.patterns.pattern_of.Goals as goal

pub new-requires : goal.new-requires
new-requires c = pattern_is c.args.switches.now c.args.pattern.now c.in-Ok.regex _ c.in-Ok.ensures.0 c.in-Ok.ensures.1 c.in-Ok-finder_of.ensures.finds

pub returns-in-Ok-finder_of : goal.returns-in-Ok-finder_of
returns-in-Ok-finder_of c =
    built c.args.switches.now c.args.pattern.now c.in-Ok.regex c.in-Ok.ensures.0 c.in-Ok.ensures.1 c.new.result c.new.ensures

pub returns-in-Err-finder_of : goal.returns-in-Err-finder_of
returns-in-Err-finder_of c = λ memory.
    not_built c.args.switches.now c.args.pattern.now c.in-Ok.regex c.in-Ok.ensures.0 c.in-Ok.ensures.1 c.in-Err-finder_of.fault c.in-Err-finder_of.ensures.no_syntax memory
