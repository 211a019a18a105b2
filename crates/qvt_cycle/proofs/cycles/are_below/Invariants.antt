use Rattle.std.proofs.Common.{◌≡◌, drop}
use Rattle.qvt_cycle.specs.Search.{are_below}
use Rattle.qvt_cycle.proofs.cycles.are_below.Given as goal

abbrev pub invariant-loop-number : goal.invariant-loop-number
invariant-loop-number l = are_below l.classes l.class (drop l.number-index l.list) ≡ are_below l.classes l.class l.list
