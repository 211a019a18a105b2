use Rattle.qvt_parser_units.proofs.units.+more_clauses.Given as goal

abbrev pub decreases-more_clauses : goal.decreases-more_clauses
decreases-more_clauses l = l.left
