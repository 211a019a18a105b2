use Rattle.std.proofs.Common.{◌≡◌, drop}
use Rattle.qvt_metamodel.specs.Checks.{first_in, unknown_in}
use Rattle.qvt_meta_checks.proofs.checks.unknown_type.Given as goal

abbrev pub invariant-loop-class : goal.invariant-loop-class
invariant-loop-class l = first_in (unknown_in l.meta) (drop l.class-index l.meta.classes) ≡ first_in (unknown_in l.meta) l.meta.classes
