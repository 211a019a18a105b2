use Rattle.std.proofs.Common.{◌≡◌, drop}
use Rattle.qvt_metamodel.specs.Checks.{unknown}
use Rattle.qvt_meta_checks.proofs.checks.unknown_super.Given as goal

abbrev pub invariant-loop-name : goal.invariant-loop-name
invariant-loop-name l = unknown l.classes (drop l.name-index l.supers) ≡ unknown l.classes l.supers
