use Rattle.std.proofs.Common.{◌≡◌, suc}
use Rattle.std.specs.Option.{option_copied}
use Rattle.qvt_run_rules.specs.Iterators as each
use Rattle.qvt_exec_leaves.specs.Runs.{seen}
use Rattle.qvt_exec_visits.specs.Visited.{rest_of}
use Rattle.qvt_exec_invocations.specs.Means.{expr_of, turns_of}
use Rattle.qvt_exec_steps.proofs.closures.visit_all.Given as goal

abbrev pub invariant-loop-item : goal.invariant-loop-item
invariant-loop-item g l =
    rest_of l.it.place (each.for_item (option_copied l.it.name) (expr_of (l.x, g.C.UnitCalls.means l.units) l.body)) (suc l.more) l.visits (seen l.state)
    ≡ rest_of l.it.place (each.for_item (option_copied l.it.name) (expr_of (l.x, g.C.UnitCalls.means l.units) l.body)) (suc (turns_of l.x.limit)) l.fn.first (seen l.fn.state)

abbrev pub decreases-loop-item : goal.decreases-loop-item
decreases-loop-item g l = l.more
