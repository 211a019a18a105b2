use Rattle.std.proofs.Common.{◌≡◌, ◌++◌, drop}
use Rattle.qvt_conform.specs.Asked.{asking}
use Rattle.qvt_conform.proofs.asked.asking.Given as goal

abbrev pub invariant-loop-feature : goal.invariant-loop-feature
invariant-loop-feature l = l.asked ++ asking l.metas (drop l.feature-index l.features) ≡ asking l.metas l.features
