use Rattle.qvt_exec.proofs.knot.+run.Given as goal

abbrev pub decreases-expr_at : goal.decreases-expr_at
decreases-expr_at l = l.left

abbrev pub decreases-block_at : goal.decreases-block_at
decreases-block_at l = l.left

abbrev pub decreases-call_at : goal.decreases-call_at
decreases-call_at l = l.left
