use Rattle.qvt_lexer.proofs.Ends.{end_of_end}
use Rattle.qvt_lexer.proofs.scan.scan_escaped.Goals as goal

pub scan_closed-requires : goal.scan_closed-requires
scan_closed-requires c = end_of_end _ _ _ (end_of_end _ _ _ c.requires c.in-Some.ensures.end) c.skip-rest.ensures.end
