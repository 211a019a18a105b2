use Rattle.std.proofs.Common.{◌≡◌, drop, Some, None}
use Rattle.std.specs.Prelude.{if◌then◌else◌}
use Rattle.qvt_metamodel.specs.Checks.{first_in, failing_feature}
use Rattle.qvt_meta_checks.proofs.checks.feature_fault.Given as goal

abbrev pub invariant-loop-feature : goal.invariant-loop-feature
invariant-loop-feature g l = first_in (λ f. if g.T.FeatureTest.fails l.test l.class f then Some (l.class.name, f.name) else None) (drop l.feature-index l.class.features) ≡ failing_feature (g.T.FeatureTest.fails l.test) l.class
