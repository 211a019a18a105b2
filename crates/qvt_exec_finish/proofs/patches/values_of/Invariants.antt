use Rattle.std.proofs.Common.{◌≡◌, map, take}
use Rattle.qvt_value.specs.declared.value.Value.{Obj}
use Rattle.qvt_exec_finish.proofs.patches.values_of.Given as goal

abbrev pub invariant-loop-object : goal.invariant-loop-object
invariant-loop-object l = l.values ≡ map Obj (take l.object-index l.objects)
