use Rattle.std.proofs.Common.{◌≡◌, drop}
use Rattle.qvt_exec_state.specs.Runs.{seen}
use Rattle.qvt_exec_phrases.specs.Means.{arms_of, otherwise_of}
use Rattle.qvt_exec_statements.proofs.conditions.arms.Given as goal

abbrev pub invariant-loop-node : goal.invariant-loop-node
invariant-loop-node g l =
    arms_of (l.x, g.C.UnitCalls.means l.units) (drop l.node-index l.nodes) (otherwise_of (l.x, g.C.UnitCalls.means l.units) l.last) (seen l.state)
    ≡ arms_of (l.x, g.C.UnitCalls.means l.units) l.nodes (otherwise_of (l.x, g.C.UnitCalls.means l.units) l.last) (seen l.initial.state)
