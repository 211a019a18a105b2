use Rattle.std.proofs.Common.{◌≡◌, drop, fold}
use Rattle.qvt_cycle.specs.Counts.{counted_all}
use Rattle.qvt_cycle.proofs.counts.count_lists.Given as goal

abbrev pub invariant-loop-list : goal.invariant-loop-list
invariant-loop-list l = fold counted_all l.counts.items (drop l.list-index l.lists) ≡ fold counted_all l.initial.counts.items l.lists
