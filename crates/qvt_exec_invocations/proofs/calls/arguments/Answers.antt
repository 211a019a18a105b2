use Rattle.qvt_value.specs.declared.value.Value.{Value}
use Rattle.qvt_run_data.specs.declared.late.LateWrite.{LateWrite}
use Rattle.std.specs.Prelude.{List, []}
use Rattle.qvt_run_rules.specs.Calls as call
use Rattle.qvt_run_rules.specs.State.{Done}
use Rattle.qvt_exec_state.specs.Runs.{seen}
use Rattle.qvt_exec_phrases.specs.Means.{Scene, exprs_of}
use Rattle.qvt_exec_invocations.proofs.Arguments.{argument_taken}
use Rattle.qvt_exec_invocations.proofs.calls.arguments.Goals as goal

pub loop-node-preserved : goal.loop-node-preserved
loop-node-preserved g c =
    let x : Scene = (c.args.x.now, g.C.UnitCalls.means c.args.units.now) in
    let all : Done LateWrite (List Value) = call.arguments_onto [] (exprs_of x c.args.nodes.now) (seen c.args.state.now) in
    argument_taken x c.args.nodes.now c.loop-node.node-index c.node-item.result c.loop-node-test.true c.node-item.is c.loop-node.done (seen c.loop-node.state) all c.loop-node.invariant
    (seen c.argument.new.state) c.in_ok-value.value c.push.new.self c.in_ok-value.ensures c.in_ok-push.ensures.ok
