use Rattle.std.proofs.Common.{◌≡◌, map, take}
use Rattle.qvt_types_classes.specs.declared.declared.Declared.{Declared}
use Rattle.qvt_types_classes.proofs.cycles.super_lists.Given as goal

abbrev pub invariant-loop-class : goal.invariant-loop-class
invariant-loop-class l = l.lists ≡ map (λ (d : Declared). d.supers) (take l.class-index l.classes)
