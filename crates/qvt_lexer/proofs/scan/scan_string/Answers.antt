use Rattle.qvt_lexer.proofs.Ends.{end_of_end}
use Rattle.qvt_lexer.proofs.scan.scan_string.Goals as goal

pub returns-then-c-quote-clause-end : goal.returns-then-c-quote-clause-end
returns-then-c-quote-clause-end c = end_of_end _ _ _ (end_of_end _ _ _ c.requires.end c.content_end-end.ensures.end) c.in-Some.ensures.end

pub returns-then-c-eq92-clause-end : goal.returns-then-c-eq92-clause-end
returns-then-c-eq92-clause-end c = end_of_end _ _ _ c.requires.end c.content_end-end.ensures.end
