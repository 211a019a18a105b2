use Rattle.std.proofs.Common.{◌≡◌, ◌++◌, drop}
use Rattle.qvt_types_classes.specs.Classes.{typed_flags}
use Rattle.qvt_types_classes.proofs.classes.typed_flags.Given as goal

abbrev pub invariant-loop-class : goal.invariant-loop-class
invariant-loop-class l = l.flags ++ typed_flags (drop l.class-index l.classes) ≡ typed_flags l.classes
