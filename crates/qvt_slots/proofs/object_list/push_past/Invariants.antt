use Rattle.std.proofs.Common.{◌≡◌, ◌++◌, take}
use Rattle.qvt_slots.specs.Numbers.{objects_past}
use Rattle.qvt_slots.proofs.object_list.push_past.Given as goal

abbrev pub invariant-loop-value : goal.invariant-loop-value
invariant-loop-value l = l.list ≡ l.fn.list ++ objects_past l.held (take l.value-index l.values)
