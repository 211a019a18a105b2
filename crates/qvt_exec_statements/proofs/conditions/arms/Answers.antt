use Rattle.qvt_run_data.specs.declared.late.LateWrite.{LateWrite}
use Rattle.qvt_run_rules.specs.State.{Done}
use Rattle.qvt_exec_state.specs.Runs.{seen}
use Rattle.qvt_exec_phrases.specs.Means.{Scene, arms_of, otherwise_of}
use Rattle.qvt_exec_statements.proofs.Arms.{arm_ends, arm_made, arm_passed, others_run}
use Rattle.qvt_exec_statements.proofs.conditions.arms.Goals as goal

pub returns-in_err-arm : goal.returns-in_err-arm
returns-in_err-arm g c =
    let x : Scene = (c.args.x.now, g.C.UnitCalls.means c.args.units.now) in
    let all : Done LateWrite (Unit {0}) = arms_of x c.args.nodes.now (otherwise_of x c.args.last.now) (seen c.args.state.now) in
    arm_ends x (otherwise_of x c.args.last.now) c.args.nodes.now c.loop-node.node-index c.node-item.result c.loop-node-test.true c.node-item.is (seen c.loop-node.state) all c.loop-node.invariant
    c.in_err-arm.field-0.0 c.from_residual.result c.arm.new.state c.in_err-arm.ensures c.from_residual.ensures.1

pub returns-then-branch : goal.returns-then-branch
returns-then-branch g c =
    let x : Scene = (c.args.x.now, g.C.UnitCalls.means c.args.units.now) in
    let all : Done LateWrite (Unit {0}) = arms_of x c.args.nodes.now (otherwise_of x c.args.last.now) (seen c.args.state.now) in
    arm_made x (otherwise_of x c.args.last.now) c.args.nodes.now c.loop-node.node-index c.node-item.result c.loop-node-test.true c.node-item.is (seen c.loop-node.state) all c.loop-node.invariant
    c.arm.new.state c.in_ok-arm.field-0 c.in_ok-arm.ensures c.if-branch.true

pub loop-node-preserved : goal.loop-node-preserved
loop-node-preserved g c =
    let x : Scene = (c.args.x.now, g.C.UnitCalls.means c.args.units.now) in
    let all : Done LateWrite (Unit {0}) = arms_of x c.args.nodes.now (otherwise_of x c.args.last.now) (seen c.args.state.now) in
    arm_passed x (otherwise_of x c.args.last.now) c.args.nodes.now c.loop-node.node-index c.node-item.result c.loop-node-test.true c.node-item.is (seen c.loop-node.state) all c.loop-node.invariant
    (seen c.arm.new.state) c.in_ok-arm.field-0 c.in_ok-arm.ensures c.if-branch.false

pub returns : goal.returns
returns g c =
    let x : Scene = (c.args.x.now, g.C.UnitCalls.means c.args.units.now) in
    others_run x (otherwise_of x c.args.last.now) c.args.nodes.now c.loop-node.node-index (seen c.loop-node.state) (arms_of x c.args.nodes.now (otherwise_of x c.args.last.now) (seen c.args.state.now)) c.otherwise.result c.otherwise.new.state
    c.loop-node-test.false c.loop-node.invariant c.otherwise.ensures
