use Rattle.std.proofs.Common.{◌≡◌, drop}
use Rattle.qvt_types_units.specs.Overrides.{any_differ}
use Rattle.qvt_types_units.proofs.overrides.params_differ.Given as goal

abbrev pub invariant-loop-place : goal.invariant-loop-place
invariant-loop-place l = any_differ (drop l.place l.some) (drop l.place l.others) ≡ any_differ l.some l.others
