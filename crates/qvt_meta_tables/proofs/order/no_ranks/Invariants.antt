use Rattle.std.proofs.Common.{◌≡◌, replicate}
use Rattle.qvt_meta_tables.proofs.order.no_ranks.Given as goal

abbrev pub invariant-loop-at : goal.invariant-loop-at
invariant-loop-at l = l.ranks ≡ replicate l.at 0
