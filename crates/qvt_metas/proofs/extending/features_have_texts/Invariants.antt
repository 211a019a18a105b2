use Rattle.std.proofs.Common.{◌≡◌, true, take}
use Rattle.std.specs.List.{list_all}
use Rattle.qvt_metamodel.specs.Extended.{has_text}
use Rattle.qvt_metas.proofs.extending.features_have_texts.Given as goal

abbrev pub invariant-loop-feature : goal.invariant-loop-feature
invariant-loop-feature l = list_all has_text (take l.feature-index l.features) ≡ true
