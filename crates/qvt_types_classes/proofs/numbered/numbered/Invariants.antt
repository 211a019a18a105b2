use Rattle.std.proofs.Common.{◌≡◌, ◌++◌, drop}
use Rattle.qvt_types_classes.specs.Inherited.{numbered_from}
use Rattle.qvt_types_classes.proofs.numbered.numbered.Given as goal

abbrev pub invariant-loop-class : goal.invariant-loop-class
invariant-loop-class l = l.infos ++ numbered_from l.first (drop l.class-index l.classes) ≡ numbered_from 0 l.classes
