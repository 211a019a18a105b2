use Rattle.std.proofs.Common.{◌≡◌, ◌++◌, drop}
use Rattle.qvt_types_classes.specs.Written.{cycles_told}
use Rattle.qvt_types_classes.proofs.cycles.tell_cycles.Given as goal

abbrev pub invariant-loop-place : goal.invariant-loop-place
invariant-loop-place l = l.log ++ cycles_told l.flags l.place (drop l.place l.classes) ≡ l.initial.log ++ cycles_told l.flags 0 l.classes
