use Rattle.std.proofs.Common.{◌≡◌, map, take}
use Rattle.qvt_types_classes.specs.Classes.{super_number}
use Rattle.qvt_types_classes.proofs.classes.super_numbers.Given as goal

abbrev pub invariant-loop-place : goal.invariant-loop-place
invariant-loop-place l = l.numbers ≡ map (super_number l.element) (take l.place-index l.places)
