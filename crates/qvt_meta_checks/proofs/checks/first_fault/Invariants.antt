use Rattle.std.proofs.Common.{◌≡◌, drop}
use Rattle.qvt_metamodel.specs.Checks.{first_in, failing_feature}
use Rattle.qvt_meta_checks.proofs.checks.first_fault.Given as goal

abbrev pub invariant-loop-class : goal.invariant-loop-class
invariant-loop-class g l = first_in (failing_feature (g.T.FeatureTest.fails l.test)) (drop l.class-index l.classes) ≡ first_in (failing_feature (g.T.FeatureTest.fails l.test)) l.classes
