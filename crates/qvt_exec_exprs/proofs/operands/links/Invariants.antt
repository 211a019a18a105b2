use Rattle.std.proofs.Common.{◌≡◌, drop}
use Rattle.qvt_run_rules.specs.Expressions as rule
use Rattle.qvt_exec_state.specs.Runs.{seen}
use Rattle.qvt_exec_steps.specs.Means.{links_of}
use Rattle.qvt_exec_exprs.proofs.operands.links.Given as goal

abbrev pub invariant-loop-node : goal.invariant-loop-node
invariant-loop-node g l = rule.along l.value (links_of (l.x, g.C.UnitCalls.means l.units) (drop l.node-index l.nodes)) (seen l.state) ≡ rule.along l.fn.left (links_of (l.x, g.C.UnitCalls.means l.units) l.nodes) (seen l.initial.state)
