use Rattle.std.proofs.Common.{◌≡◌, drop}
use Rattle.qvt_cycle.specs.Search.{fall_from}
use Rattle.qvt_cycle.proofs.cycles.fall.Given as goal

abbrev pub invariant-loop-i : goal.invariant-loop-i
invariant-loop-i l = fall_from l.classes (drop l.i l.classes) (drop l.i l.lists) ≡ fall_from l.classes l.classes l.lists
