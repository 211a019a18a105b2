use Rattle.std.proofs.Common.{◌≡◌, ◌-◌}
use Rattle.qvt_run_rules.specs.Statements as statement
use Rattle.qvt_types_nodes.specs.View.{typed_expr_view}
use Rattle.qvt_exec_resolves.specs.Nodes.{place_of}
use Rattle.qvt_exec_state.specs.Runs.{seen}
use Rattle.qvt_exec_phrases.specs.Means.{block_of, expr_of, turns_of}
use Rattle.qvt_exec_statements.proofs.loops.repeat.Given as goal

abbrev pub invariant-loop : goal.invariant-loop
invariant-loop g l =
    statement.loop (turns_of l.x.limit - l.counter) (expr_of (l.x, g.C.UnitCalls.means l.units) l.condition) (place_of (typed_expr_view l.condition)) (block_of (l.x, g.C.UnitCalls.means l.units) l.body) (seen l.state)
    ≡ statement.loop (turns_of l.x.limit) (expr_of (l.x, g.C.UnitCalls.means l.units) l.condition) (place_of (typed_expr_view l.condition)) (block_of (l.x, g.C.UnitCalls.means l.units) l.body) (seen l.initial.state)
