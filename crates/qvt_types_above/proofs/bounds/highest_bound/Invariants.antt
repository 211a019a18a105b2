use Rattle.std.proofs.Common.{◌≡◌, true}
use Rattle.qvt_types_above.specs.Bounds.{are_bounded}
use Rattle.qvt_types_above.proofs.bounds.highest_bound.Given as goal

abbrev pub invariant-loop-step : goal.invariant-loop-step
invariant-loop-step l = are_bounded l.metas l.units l.list l.bound.0 ≡ true
