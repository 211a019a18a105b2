use Rattle.qvt_exec_state.specs.Runs.{seen}
use Rattle.qvt_exec_exprs.proofs.Lists.{gathering_end, gathering_on, gathering_over}
use Rattle.qvt_exec_exprs.proofs.literals.collected.Goals as goal

pub loop-node-preserved : goal.loop-node-preserved
loop-node-preserved g c =
    gathering_on (c.args.x.now, g.C.UnitCalls.means c.args.units.now) c.args.nodes.now c.loop-node.node-index c.node-item.result c.args.kind _ c.loop-node.gathered c.item.new.gathered (seen c.loop-node.state) c.item.new.state
    c.loop-node-test.true c.node-item.is c.loop-node.invariant c.in_ok-item.ensures

pub returns-in_err-item : goal.returns-in_err-item
returns-in_err-item g c =
    gathering_end (c.args.x.now, g.C.UnitCalls.means c.args.units.now) c.args.nodes.now c.loop-node.node-index c.node-item.result c.args.kind _ c.loop-node.gathered c.item.new.gathered (seen c.loop-node.state) _ c.in_err-item.field-0.0 c.from_residual.result c.item.new.state
    c.loop-node-test.true c.node-item.is c.loop-node.invariant c.in_err-item.ensures c.from_residual.ensures.1

pub returns : goal.returns
returns g c =
    gathering_over (c.args.x.now, g.C.UnitCalls.means c.args.units.now) c.args.nodes.now c.loop-node.node-index c.args.kind _ c.loop-node.gathered c.loop-node.state c.args.place c.in_ok-into_value.field-0
    c.loop-node-test.false c.loop-node.invariant c.in_ok-into_value.ensures
