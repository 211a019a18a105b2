use Rattle.std.proofs.Common.{◌≡◌, ◌++◌, drop}
use Rattle.qvt_report.specs.Extents.{numbers_along}
use Rattle.qvt_report.proofs.extents.numbers_along.Given as goal

abbrev pub invariant-loop-number : goal.invariant-loop-number
invariant-loop-number l = l.numbers ++ numbers_along l.number (drop l.number l.extents) ≡ numbers_along 0 l.extents
