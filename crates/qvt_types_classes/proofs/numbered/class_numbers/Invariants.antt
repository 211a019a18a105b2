use Rattle.std.proofs.Common.{◌≡◌, map, take}
use Rattle.qvt_types_classes.specs.Inherited.{class_number}
use Rattle.qvt_types_classes.proofs.numbered.class_numbers.Given as goal

abbrev pub invariant-loop-place : goal.invariant-loop-place
invariant-loop-place l = l.numbers ≡ map class_number (take l.place-index l.places)
