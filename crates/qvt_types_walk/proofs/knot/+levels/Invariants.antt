use Rattle.qvt_types_walk.proofs.knot.+levels.Given as goal

abbrev pub decreases-expr_at : goal.decreases-expr_at
decreases-expr_at l = l.left

abbrev pub decreases-block_at : goal.decreases-block_at
decreases-block_at l = l.left
