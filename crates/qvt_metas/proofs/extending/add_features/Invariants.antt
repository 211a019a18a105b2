use Rattle.std.proofs.Common.{◌≡◌, ◌++◌, take, map}
use Rattle.qvt_metamodel.specs.Extended.{given_feature}
use Rattle.qvt_metas.proofs.extending.add_features.Given as goal

abbrev pub invariant-loop-feature : goal.invariant-loop-feature
invariant-loop-feature l = l.infos ≡ l.initial.infos ++ map (given_feature l.owner) (take l.feature-index l.features)
