use Rattle.std.proofs.Common.{sym, ◌∙◌}
use Rattle.qvt_lexer.proofs.Ends.{end_of_end}
use Rattle.qvt_lexer.proofs.Items.{end_past}
use Rattle.qvt_lexer.proofs.literals.content_end.Goals as goal

pub loop-more-preserved : goal.loop-more-preserved
loop-more-preserved c = (
  c.in-Some.ensures.text,
  sym (end_past c.args.quote _ _ _ c.in-Some.ensures.value) ∙ c.loop-more.invariant.1,
  end_of_end _ _ _ c.loop-more.invariant.2 c.in-Some.ensures.end,
)
