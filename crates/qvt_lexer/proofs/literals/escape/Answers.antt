use Rattle.qvt_lexer.proofs.Ends.{end_of_end, some_more}
use Rattle.qvt_lexer.proofs.literals.escape.Goals as goal

pub returns-then-c-eq120-clause-end : goal.returns-then-c-eq120-clause-end
returns-then-c-eq120-clause-end c = some_more _ _ (λ x h. end_of_end _ _ _ c.in_ok-c.ensures.end h) c.hex_pair.result c.hex_pair.ensures.end

pub returns-then-c-eq117-clause-end : goal.returns-then-c-eq117-clause-end
returns-then-c-eq117-clause-end c = some_more _ _ (λ x h. end_of_end _ _ _ c.in_ok-c.ensures.end h) c.hex_four.result c.hex_four.ensures.end
