use Rattle.std.proofs.Common.{◌≡◌, ◌++◌, take, map}
use Rattle.qvt_metas.specs.Added.{feature_info}
use Rattle.qvt_meta.proofs.adding.add_features.Given as goal

abbrev pub invariant-loop-feature : goal.invariant-loop-feature
invariant-loop-feature l = l.infos ≡ l.initial.infos ++ map (feature_info l.begin l.places.enums l.classes l.owner) (take l.feature-index l.features)
