use Rattle.std.proofs.Common.{◌≡◌, drop}
use Rattle.qvt_run_rules.specs.Statements as statement
use Rattle.qvt_exec_state.specs.Runs.{seen}
use Rattle.qvt_exec_phrases.specs.Means.{stmts_of}
use Rattle.qvt_exec_blocks.proofs.statements.in_order.Given as goal

abbrev pub invariant-loop-node : goal.invariant-loop-node
invariant-loop-node g l =
    statement.in_order (stmts_of (l.x, g.C.UnitCalls.means l.units) (drop l.node-index l.nodes)) (seen l.state)
    ≡ statement.in_order (stmts_of (l.x, g.C.UnitCalls.means l.units) l.nodes) (seen l.initial.state)
