use Rattle.std.proofs.Common.{◌≡◌, ◌++◌, [], take, drop}
use Rattle.qvt_types_groups.specs.Units.{same_told}
use Rattle.qvt_types_lists.proofs.same.tell_same.Given as goal

abbrev pub invariant-loop-number : goal.invariant-loop-number
invariant-loop-number l = l.log ++ same_told (take l.number l.units) (drop l.number l.units) ≡ l.initial.log ++ same_told [] l.units
