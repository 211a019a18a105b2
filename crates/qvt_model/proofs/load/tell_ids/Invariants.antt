use Rattle.std.proofs.Common.{drop, ◌+◌}
use Rattle.qvt_model.specs.Steps.{IsTelling}
use Rattle.qvt_model.proofs.load.tell_ids.Given as goal

abbrev pub invariant-loop-i : goal.invariant-loop-i
invariant-loop-i l = IsTelling l.fn.ids l.ids l.first (l.first + l.i) l.objects (drop l.i l.objects)
