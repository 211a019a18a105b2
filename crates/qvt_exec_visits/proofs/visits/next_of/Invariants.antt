-- The first of the items that are left is the first of all that was not visited.
use Rattle.std.proofs.Common.{◌≡◌, length}
use Rattle.qvt_run_rules.specs.Iterators.{unvisited}
use Rattle.qvt_exec_visits.proofs.visits.next_of.Given as goal

abbrev pub invariant-loop-item : goal.invariant-loop-item
invariant-loop-item l = unvisited l.reached l.waiting ≡ unvisited l.reached l.fn.waiting

abbrev pub decreases-loop-item : goal.decreases-loop-item
decreases-loop-item l = length l.waiting
