use Rattle.std.proofs.Common.{◌≡◌, true, rules}
use Rattle.std.proofs.lemmas.Str.{is_utf8-from_IsUtf8}
use Rattle.pf_pcre.specs.Patterns.{config_of}
use Rattle.pf_pcre.proofs.BuiltLemmas.{answer_is}
use Rattle.pf_pcre.proofs.patterns.regex_of.Goals as goal

pub returns : goal.returns
returns c =
    let source : c.ignore_whitespace.result.source.now ≡ c.args.pattern.now = search rules in
    let config : record c.ignore_whitespace.result.config { utf8 = true } ≡ config_of c.args.switches.now = search rules in
    answer_is c.args.switches.now c.args.pattern.now (record c.ignore_whitespace.result.config { utf8 = true }) config
    (is_utf8-from_IsUtf8 _ c.utf8.pattern) c.build.result (rw source at c.build.ensures.source) c.build.ensures.config c.build.ensures.read
    (rw source at c.build.ensures.by_grammar) (rw source at c.build.ensures.kind)
