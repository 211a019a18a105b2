use Rattle.qvt_lexer.proofs.Ends.{end_of_end}
use Rattle.qvt_lexer.proofs.scan.scan_piece.Goals as goal

pub scan_escaped-requires : goal.scan_escaped-requires
scan_escaped-requires c = end_of_end _ _ _ c.requires.end c.in-Some.ensures.end
