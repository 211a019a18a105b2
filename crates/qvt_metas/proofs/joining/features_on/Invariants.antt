use Rattle.std.proofs.Common.{◌≡◌, ◌++◌, drop, map}
use Rattle.qvt_metamodel.specs.Joined.{feature_on, FeaturesFit}
use Rattle.qvt_metas.proofs.joining.features_on.Given as goal

abbrev pub invariant-loop-feature : goal.invariant-loop-feature
invariant-loop-feature l = record {
  built : l.numbers ++ map (feature_on l.begin) (drop l.feature-index l.features) ≡ map (feature_on l.begin) l.features;
  few : FeaturesFit l.begin (drop l.feature-index l.features);
}
