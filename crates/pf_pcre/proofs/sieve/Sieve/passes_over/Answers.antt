use Rattle.pf_pcre.proofs.SieveLemmas.{are_bytes, none_found}
use Rattle.pf_pcre.proofs.sieve.Sieve.passes_over.Goals as goal

pub returns-clause-none : goal.returns-clause-none
returns-clause-none c = λ none. none_found c.args.self.now.program c.args.text.now (are_bytes _ c.type_inv.text) (c.has_none.ensures.none none)
