use Rattle.std.proofs.Common.{◌≡◌, map, take}
use Rattle.qvt_types_classes.specs.Classes.{class_data}
use Rattle.qvt_types_classes.proofs.classes.all_data.Given as goal

abbrev pub invariant-loop-class : goal.invariant-loop-class
invariant-loop-class l = l.data ≡ map (class_data l.element) (take l.class-index l.classes)
