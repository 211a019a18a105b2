use Rattle.std.proofs.Common.{◌≡◌, drop, fold}
use Rattle.qvt_cycle.specs.Counts.{counted}
use Rattle.qvt_cycle.proofs.counts.count_all.Given as goal

abbrev pub invariant-loop-number : goal.invariant-loop-number
invariant-loop-number l = fold counted l.counts.items (drop l.number-index l.numbers) ≡ fold counted l.initial.counts.items l.numbers
