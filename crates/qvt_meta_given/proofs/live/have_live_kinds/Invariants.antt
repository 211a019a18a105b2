use Rattle.std.proofs.Common.{◌≡◌, true, take}
use Rattle.std.specs.List.{list_all}
use Rattle.qvt_meta_given.specs.Given.{has_live_kinds}
use Rattle.qvt_meta_given.proofs.live.have_live_kinds.Given as goal

abbrev pub invariant-loop-class : goal.invariant-loop-class
invariant-loop-class l = list_all (has_live_kinds l.metas l.classes) (take l.class-index l.classes) ≡ true
