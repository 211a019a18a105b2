use Rattle.std.proofs.Common.{◌≡◌, ◌++◌, drop}
use Rattle.qvt_types_classes.specs.Written.{uncycled_from}
use Rattle.qvt_types_classes.proofs.cycles.uncycled_all.Given as goal

abbrev pub invariant-loop-place : goal.invariant-loop-place
invariant-loop-place l = l.uncut ++ uncycled_from l.flags l.place (drop l.place l.classes) ≡ uncycled_from l.flags 0 l.classes
