use Rattle.std.proofs.Common.{◌∙◌}
use Rattle.pf_listfile.proofs.NetLaws.{net_within, nets_scanned, scan_behind, scan_here}
use Rattle.pf_listfile.specs.Clauses.Places.{has_at}
use Rattle.pf_listfile.proofs.file.first_net.Goals as goal

pub loop-place-init : goal.loop-place-init
loop-place-init c = rw c.requires (nets_scanned c.args.items.now c.args.address.now)

pub has_address_at-requires : goal.has_address_at-requires
has_address_at-requires c = net_within c.args.items.now c.args.nets.now c.loop-place.place-index 0 c.requires c.loop-place-test.true

pub returns-then-has_address_at : goal.returns-then-has_address_at
returns-then-has_address_at c =
    scan_here (has_at c.args.items.now c.args.address.now) c.args.nets.now c.loop-place.place-index 0 c.loop-place-test.true c.if-has_address_at.ensures ∙ c.loop-place.invariant

pub loop-place-preserved : goal.loop-place-preserved
loop-place-preserved c =
    scan_behind (has_at c.args.items.now c.args.address.now) c.args.nets.now c.loop-place.place-index 0 c.loop-place-test.true c.if-has_address_at.ensures ∙ c.loop-place.invariant
