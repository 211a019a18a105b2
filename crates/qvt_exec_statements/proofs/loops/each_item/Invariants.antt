use Rattle.std.proofs.Common.{◌≡◌, drop}
use Rattle.qvt_run_rules.specs.Statements as statement
use Rattle.qvt_exec_state.specs.Runs.{seen}
use Rattle.qvt_exec_phrases.specs.Means.{for_each_item}
use Rattle.qvt_exec_statements.proofs.loops.each_item.Given as goal

abbrev pub invariant-loop-item : goal.invariant-loop-item
invariant-loop-item g l =
    statement.each_item (for_each_item (l.x, g.C.UnitCalls.means l.units) l.name l.of l.condition l.body) (drop l.item-index l.items) (seen l.state)
    ≡ statement.each_item (for_each_item (l.x, g.C.UnitCalls.means l.units) l.name l.of l.condition l.body) l.items (seen l.initial.state)
