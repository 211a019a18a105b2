use Rattle.std.proofs.Common.{drop}
use Rattle.qvt_model.specs.Steps.{IsAdding}
use Rattle.qvt_model.proofs.load.add_objects.Given as goal

abbrev pub invariant-loop-object : goal.invariant-loop-object
invariant-loop-object l = IsAdding l.fn.store l.store l.extent l.objects (drop l.object-index l.objects)
