use Rattle.qvt_lexer.proofs.Ends.{end_of_end, some_more}
use Rattle.qvt_lexer.proofs.literals.item.Goals as goal

pub returns-then-c-eq92-clause-end : goal.returns-then-c-eq92-clause-end
returns-then-c-eq92-clause-end c = some_more _ _ (λ x h. end_of_end _ _ _ c.in_ok-c.ensures.end h) c.escape.result c.escape.ensures.end
