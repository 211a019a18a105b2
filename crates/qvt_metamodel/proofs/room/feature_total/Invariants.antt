use Rattle.std.proofs.Common.{◌≡◌, ◌+◌, drop}
use Rattle.qvt_metamodel.specs.Added.{feature_count}
use Rattle.qvt_metamodel.proofs.room.feature_total.Given as goal

abbrev pub invariant-loop-class : goal.invariant-loop-class
invariant-loop-class l = l.total + feature_count (drop l.class-index l.classes) ≡ feature_count l.classes
