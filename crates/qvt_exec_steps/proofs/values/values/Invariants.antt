use Rattle.std.proofs.Common.{◌≡◌, drop, []}
use Rattle.qvt_run_rules.specs.Expressions as rule
use Rattle.qvt_exec_leaves.specs.Runs.{seen}
use Rattle.qvt_exec_invocations.specs.Means.{exprs_of}
use Rattle.qvt_exec_steps.proofs.values.values.Given as goal

abbrev pub invariant-loop-node : goal.invariant-loop-node
invariant-loop-node g l =
    rule.values_onto l.done (exprs_of (l.x, g.C.UnitCalls.means l.units) (drop l.node-index l.nodes)) (seen l.state)
    ≡ rule.values_onto [] (exprs_of (l.x, g.C.UnitCalls.means l.units) l.nodes) (seen l.initial.state)
