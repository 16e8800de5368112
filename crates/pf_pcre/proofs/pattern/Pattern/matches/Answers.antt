use Rattle.std.proofs.Common.{◌∙◌, ap}
use Rattle.std.specs.Prelude.{is_some}
use Rattle.std.proofs.lemmas.Result.{IfOk-weaker}
use Rattle.regex_meta.specs.Programs.{pattern_of}
use Rattle.pf_pcre.proofs.FoundLemmas.{found_by_text}
use Rattle.pf_pcre.proofs.SieveLemmas.{seen_alike, still}
use Rattle.pf_pcre.proofs.pattern.Pattern.matches.Goals as goal

pub seen_match-requires : goal.seen_match-requires
seen_match-requires c =
    rw c.as_slice.ensures.value (seen_alike c.self.inside.switches c.self.inside.regex (pattern_of c.self.inside.finder.program) c.args.text.now c.self.invariant (λ k. (c.type_inv.text k).fits) _ _ c.look-sight.ensures.seen)

pub invariant_of-self : goal.invariant_of-self
invariant_of-self c = still c.self.inside.switches c.self.inside.regex c.self.inside.finder.program c.look-sight.new.self.program c.look-sight.ensures.same c.self.invariant

pub returns-clause-value : goal.returns-clause-value
returns-clause-value c =
    IfOk-weaker c.seen_match.result _ _ (λ b is.
    rw (← c.self.view_is) (is ∙ ap is_some (found_by_text c.self.inside.switches c.self.inside.regex c.self.invariant.built c.args.text.now (λ k. (c.type_inv.text k).fits))))
    c.seen_match.ensures
