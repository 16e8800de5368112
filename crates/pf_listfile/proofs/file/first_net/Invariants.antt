use Rattle.std.proofs.Common.{◌≡◌, Some, drop}
use Rattle.std.specs.List.{position_from}
use Rattle.pf_listfile.specs.Clauses.Places.{has_at}
use Rattle.pf_listfile.specs.Items.{has_address}
use Rattle.pf_listfile.proofs.NetLaws.{scan}
use Rattle.pf_listfile.proofs.file.first_net.Given as goal

abbrev pub invariant-loop-place : goal.invariant-loop-place
invariant-loop-place l =
    scan (has_at l.items l.address) (drop l.place-index l.nets) ≡ position_from (λ item. has_address item.pattern (Some l.address)) 0 l.items
