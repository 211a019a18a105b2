use Rattle.std.proofs.Common.{sym, ap, ◌∙◌, arith}
use Rattle.qvt_grammar.specs.Reader.{many_at, with_front}
use Rattle.qvt_grammar.proofs.Loops.{loop_more}
use Rattle.qvt_language.specs.Tokens.{of}
use Rattle.qvt_parser_grammar.specs.Gives.{toks}
use Rattle.qvt_language.specs.Firsts.{sign_first}
use Rattle.qvt_language.specs.Reading.{sign_at}
use Rattle.qvt_parser_grammar.proofs.LessExprs.{less_sign}
use Rattle.qvt_parser_grammar.proofs.cursor.Parser.more_signs.Goals as goal

pub loop-self-preserved : goal.loop-self-preserved
loop-self-preserved c = record {
  so_far = loop_more (of sign_first) sign_at (less_sign) _ c.loop-self.signs (toks c.loop-self.self) c.in_ok-sign.sign (toks c.sign.new.self) c.loop-self.invariant.so_far (sym c.at_sign.ensures ∙ c.loop-self-test.true) c.in_ok-sign.ensures.gives
      ∙ ap (λ z. with_front z (many_at (of sign_first) sign_at (toks c.sign.new.self))) (sym c.in_ok-push.ensures.ok);
  fewer = omega (arith, c.in_ok-sign.ensures.fewer);
}
