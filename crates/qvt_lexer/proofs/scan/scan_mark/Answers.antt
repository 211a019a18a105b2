use Rattle.qvt_lexer.proofs.Ends.{end_of_end}
use Rattle.qvt_lexer.proofs.scan.scan_mark.Goals as goal

pub returns-then-is_double_sign-clause-end : goal.returns-then-is_double_sign-clause-end
returns-then-is_double_sign-clause-end c = end_of_end _ _ _ c.requires.end c.in-Some.ensures.end

pub returns-then-is_line_comment-clause-end : goal.returns-then-is_line_comment-clause-end
returns-then-is_line_comment-clause-end c = end_of_end _ _ _ (end_of_end _ _ _ c.requires.end c.in-Some.ensures.end) c.skip.ensures.end

pub scan_block-requires : goal.scan_block-requires
scan_block-requires c = end_of_end _ _ _ c.requires.end c.in-Some.ensures.end
