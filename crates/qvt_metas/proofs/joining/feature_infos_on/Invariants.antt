use Rattle.std.proofs.Common.{◌≡◌, ◌++◌, drop, map}
use Rattle.std.specs.List.{AllByRecursion}
use Rattle.qvt_metamodel.specs.Joined.{feature_info_on, FeatureFits}
use Rattle.qvt_metas.proofs.joining.feature_infos_on.Given as goal

abbrev pub invariant-loop-feature : goal.invariant-loop-feature
invariant-loop-feature l = record {
  built : l.infos ++ map (feature_info_on l.begin) (drop l.feature-index l.features) ≡ map (feature_info_on l.begin) l.features;
  few : AllByRecursion (FeatureFits l.begin) (drop l.feature-index l.features);
}
