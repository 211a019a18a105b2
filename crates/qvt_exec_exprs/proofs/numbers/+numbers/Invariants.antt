use Rattle.std.proofs.Common.{suc, ◌*◌}
use Rattle.qvt_exec_exprs.proofs.numbers.+numbers.Given as goal

abbrev pub decreases-number : goal.decreases-number
decreases-number l = 3 * l.depth

abbrev pub decreases-linked : goal.decreases-linked
decreases-linked l = suc (3 * l.depth)

abbrev pub decreases-operated : goal.decreases-operated
decreases-operated l = suc (suc (3 * l.depth))
