use Rattle.std.proofs.Common.{sym, ap, ◌∙◌}
use Rattle.qvt_lexer.specs.Classes.{in_class}
use Rattle.qvt_lexer.specs.Literals.{skip}
use Rattle.qvt_lexer.proofs.Ends.{end_of_end}
use Rattle.qvt_lexer.proofs.Runs.{skip_more}
use Rattle.qvt_lexer.proofs.chars.skip.Goals as goal

pub loop-c-preserved : goal.loop-c-preserved
loop-c-preserved c = (
  c.in-Some.ensures.text,
  sym (ap (skip (in_class c.args.class)) c.in-Some.ensures.characters ∙ skip_more (in_class c.args.class) c.in-Some.c _ (sym c.is_in.ensures ∙ c.if-not-is_in.false))
      ∙ c.loop-c.invariant.1,
  end_of_end _ _ _ c.loop-c.invariant.2 c.in-Some.ensures.end,
)
