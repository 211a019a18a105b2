use Rattle.std.proofs.Common.{◌+◌, ◌*◌}
use Rattle.qvt_parser_stmts.proofs.nested.+nested.Given as goal

abbrev pub decreases-flagged : goal.decreases-flagged
decreases-flagged l = 2 * l.room

abbrev pub decreases-block : goal.decreases-block
decreases-block l = 2 * l.room

abbrev pub decreases-flagged-expr_inside : goal.decreases-flagged-expr_inside
decreases-flagged-expr_inside l = 2 * l.less + 1

abbrev pub decreases-flagged-block_inside : goal.decreases-flagged-block_inside
decreases-flagged-block_inside l = 2 * l.less + 1

abbrev pub decreases-block-expr_within : goal.decreases-block-expr_within
decreases-block-expr_within l = 2 * l.less + 1

abbrev pub decreases-block-block_within : goal.decreases-block-block_within
decreases-block-block_within l = 2 * l.less + 1
