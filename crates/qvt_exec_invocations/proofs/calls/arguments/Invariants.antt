use Rattle.std.proofs.Common.{◌≡◌, drop, []}
use Rattle.qvt_run_rules.specs.Calls as call
use Rattle.qvt_exec_state.specs.Runs.{seen}
use Rattle.qvt_exec_phrases.specs.Means.{exprs_of}
use Rattle.qvt_exec_invocations.proofs.calls.arguments.Given as goal

abbrev pub invariant-loop-node : goal.invariant-loop-node
invariant-loop-node g l =
    call.arguments_onto l.done (exprs_of (l.x, g.C.UnitCalls.means l.units) (drop l.node-index l.nodes)) (seen l.state)
    ≡ call.arguments_onto [] (exprs_of (l.x, g.C.UnitCalls.means l.units) l.nodes) (seen l.initial.state)
