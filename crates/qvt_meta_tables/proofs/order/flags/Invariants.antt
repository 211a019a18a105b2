use Rattle.std.proofs.Common.{◌≡◌, false, replicate}
use Rattle.qvt_meta_tables.proofs.order.flags.Given as goal

abbrev pub invariant-loop-at : goal.invariant-loop-at
invariant-loop-at l = l.flags ≡ replicate l.at false
