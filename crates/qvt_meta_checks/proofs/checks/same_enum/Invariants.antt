use Rattle.std.proofs.Common.{◌≡◌, drop}
use Rattle.qvt_metamodel.specs.Checks.{same_enum}
use Rattle.qvt_meta_checks.proofs.checks.same_enum.Given as goal

abbrev pub invariant-loop-item : goal.invariant-loop-item
invariant-loop-item l = same_enum l.taken (drop l.item-index l.enums) ≡ same_enum l.initial.taken l.enums
