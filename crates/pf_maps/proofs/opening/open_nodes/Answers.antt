use Rattle.std.proofs.Common.{None, ◌+◌, drop, ap, arith}
use Rattle.std.proofs.lemmas.List.{drop_all}
use Rattle.std.proofs.lemmas.Result.{err_from_is_err_and}
use Rattle.pf_maps.proofs.SpecLemmas.{item_drop}
use Rattle.pf_maps.proofs.TurnLaws.{up_to_end, up_to_next, up_to_none, up_to_starved, up_to_stop}
use Rattle.pf_maps.specs.Opening.{node_opened, nodes_opened}
use Rattle.pf_maps.proofs.opening.open_nodes.Goals as goal

pub loop-node-init : goal.loop-node-init
loop-node-init g c = rw c.new-opened.ensures (up_to_none _ _ _)

pub loop-node-preserved : goal.loop-node-preserved
loop-node-preserved g c =
    rw c.in-Ok.ensures.ok (up_to_next (λ all here one. node_opened here all c.args.place.now c.args.folded one) c.node-item.result
    (drop (c.loop-node.node-index + 1) c.args.nodes.now) c.in_ok-one.one
    (rw (item_drop c.args.nodes.now c.loop-node.node-index c.node-item.result c.loop-node-test.true c.node-item.is) at c.loop-node.invariant) c.in_ok-one.ensures)

pub returns-in_err-one : goal.returns-in_err-one
returns-in_err-one g c =
    let p = err_from_is_err_and c.from_residual.result c.from_residual.ensures.1 in
    rw (p.1, p.2) (up_to_stop (λ all here one. node_opened here all c.args.place.now c.args.folded one) c.node-item.result
    (drop (c.loop-node.node-index + 1) c.args.nodes.now) _
    (rw (item_drop c.args.nodes.now c.loop-node.node-index c.node-item.result c.loop-node-test.true c.node-item.is) at c.loop-node.invariant) c.in_err-one.ensures)

pub returns-in_default : goal.returns-in_default
returns-in_default g c =
    up_to_starved (λ all here one. node_opened here all c.args.place.now c.args.folded one) c.node-item.result c.in_ok-one.one c.loop-node.invariant c.in_ok-one.ensures

pub returns : goal.returns
returns g c =
    up_to_end c.loop-node.invariant (λ all. ap (λ nodes. nodes_opened None all c.args.place.now c.args.folded nodes)
    (drop_all c.loop-node.node-index c.args.nodes.now (omega (arith, c.loop-node-test.false))))
