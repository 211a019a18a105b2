use Rattle.std.proofs.Common.{◌≡◌, drop}
use Rattle.std.specs.Option.{option_copied}
use Rattle.qvt_run_rules.specs.Iterators as each
use Rattle.qvt_exec_leaves.specs.Runs.{seen}
use Rattle.qvt_exec_loops.specs.Turns.{rest_of}
use Rattle.qvt_exec_invocations.specs.Means.{expr_of}
use Rattle.qvt_exec_steps.proofs.iterators.each_of.Given as goal

abbrev pub invariant-loop-item : goal.invariant-loop-item
invariant-loop-item g l =
    rest_of l.it.place (each.for_item (option_copied l.it.name) (expr_of (l.x, g.C.UnitCalls.means l.units) l.body)) l.turns (drop l.item-index l.items) (seen l.state)
    ≡ rest_of l.it.place (each.for_item (option_copied l.it.name) (expr_of (l.x, g.C.UnitCalls.means l.units) l.body)) l.fn.first l.items (seen l.fn.state)
