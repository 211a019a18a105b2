use Rattle.qvt_lexer.proofs.Ends.{end_of_end}
use Rattle.qvt_lexer.proofs.scan.scan_closed.Goals as goal

pub returns-in-Some-eq39-default-clause-end : goal.returns-in-Some-eq39-default-clause-end
returns-in-Some-eq39-default-clause-end c = end_of_end _ _ _ c.requires c.in-Some-eq39-default.ensures.end
