use Rattle.std.proofs.Common.{sym, ap, ◌∙◌}
use Rattle.qvt_lexer.specs.Literals.{after_close}
use Rattle.qvt_lexer.proofs.Ends.{end_of_end}
use Rattle.qvt_lexer.proofs.Numbers.{close_none}
use Rattle.qvt_lexer.proofs.literals.after_close.Goals as goal

pub loop-c-preserved : goal.loop-c-preserved
loop-c-preserved c = (
  c.in-Some.ensures.text,
  sym (ap after_close c.in-Some.ensures.characters ∙ close_none c.in-Some.c _ c.in_default-close.ensures.value) ∙ c.loop-c.invariant.1,
  end_of_end _ _ _ c.loop-c.invariant.2 c.in-Some.ensures.end,
)

pub returns-in-Some-close-clause-end : goal.returns-in-Some-close-clause-end
returns-in-Some-close-clause-end c =
    end_of_end _ _ _ (end_of_end _ _ _ c.loop-c.invariant.2 c.in-Some.ensures.end) c.in-Some-close.ensures.end
