use Rattle.std.proofs.Common.{drop, []}
use Rattle.qvt_run_rules.specs.Expressions as rule
use Rattle.qvt_exec_state.specs.Runs.{seen}
use Rattle.qvt_exec_steps.specs.Means.{items_of}
use Rattle.qvt_exec_exprs.specs.Gathering.{IsGathering}
use Rattle.qvt_exec_exprs.proofs.literals.collected.Given as goal

abbrev pub invariant-loop-node : goal.invariant-loop-node
invariant-loop-node g l = IsGathering l.fn.kind (rule.lists_onto [] (items_of (l.x, g.C.UnitCalls.means l.units) l.nodes) (seen l.initial.state)) (items_of (l.x, g.C.UnitCalls.means l.units) (drop l.node-index l.nodes)) l.gathered (seen l.state)
