use Rattle.std.proofs.Common.{take}
use Rattle.qvt_slots.specs.Numbers.{AreNumbersOf}
use Rattle.qvt_slots.proofs.object_list.numbers_of.Given as goal

abbrev pub invariant-loop-object : goal.invariant-loop-object
invariant-loop-object l = AreNumbersOf l.numbers.keys (take l.object-index l.objects)
