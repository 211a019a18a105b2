use Rattle.std.proofs.Common.{◌≡◌, drop}
use Rattle.qvt_types_above.specs.Covers.{all_known}
use Rattle.qvt_types_above.proofs.covers.know_all.Given as goal

abbrev pub invariant-loop-place : goal.invariant-loop-place
invariant-loop-place l = all_known (drop l.place l.some) (drop l.place l.others) ≡ all_known l.some l.others
