use Rattle.std.proofs.Common.{drop, ◌+◌}
use Rattle.qvt_model.specs.Steps.{IsPutting}
use Rattle.qvt_model.proofs.load.place_objects.Given as goal

abbrev pub invariant-loop-i : goal.invariant-loop-i
invariant-loop-i l = IsPutting l.fn.store l.store l.first (l.first + l.i) l.objects (drop l.i l.objects)
