-- The items so far and those that are left are the set's.
use Rattle.std.proofs.Common.{◌≡◌, ◌++◌}
use Rattle.qvt_exec_visits.proofs.reached.list_of.Given as goal

abbrev pub invariant-loop-item : goal.invariant-loop-item
invariant-loop-item l = l.items ++ l.item-iterator ≡ l.initial.item-iterator
