use Rattle.pf_maps.proofs.MeaningLaws.{last_are, more_results}
use Rattle.pf_maps.specs.Meanings.{meanings_of}
use Rattle.pf_maps.proofs.walk.+giving.Goals as goal

pub pipe_results-returns : goal.pipe_results-returns
pipe_results-returns t c =
    rw (last_are c.behind_tables.result.now c.args.count (meanings_of c.args.nodes.now) c.if-count-eq0.false c.behind_tables.ensures.is) at c.results_of.ensures

pub union_results-returns : goal.union_results-returns
union_results-returns t c = more_results c.args.count (meanings_of c.args.nodes.now) c.if-count-eq0.false c.if-count-eq1.false
