use Rattle.std.proofs.Common.{◌+◌, ◌*◌, length}
use Rattle.pf_maps.proofs.walk.+giving.Given as goal

abbrev pub decreases-results_of : goal.decreases-results_of
decreases-results_of l = 2 * length l.nodes.now

abbrev pub decreases-union_results : goal.decreases-union_results
decreases-union_results l = 2 * length l.nodes.now + 1

abbrev pub decreases-pipe_results : goal.decreases-pipe_results
decreases-pipe_results l = 2 * length l.nodes.now + 1
