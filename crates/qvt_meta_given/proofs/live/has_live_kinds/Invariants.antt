use Rattle.std.proofs.Common.{◌≡◌, true, take}
use Rattle.std.specs.List.{list_all}
use Rattle.qvt_meta_given.specs.Given.{has_live_kind}
use Rattle.qvt_meta_given.proofs.live.has_live_kinds.Given as goal

abbrev pub invariant-loop-feature : goal.invariant-loop-feature
invariant-loop-feature l = list_all (has_live_kind l.metas l.classes) (take l.feature-index l.class.features) ≡ true
