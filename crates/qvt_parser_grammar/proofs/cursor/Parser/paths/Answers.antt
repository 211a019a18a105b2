use Rattle.std.proofs.Common.{sym, ap, ◌∙◌, arith}
use Rattle.qvt_grammar.specs.Reader.{many_at, made_at, then_at, with_front}
use Rattle.qvt_grammar.proofs.Loops.{loop_more}
use Rattle.qvt_language.specs.Tokens.{is}
use Rattle.qvt_language.specs.Readers.{the_at}
use Rattle.qvt_language.specs.Trees.{second}
use Rattle.qvt_parser_grammar.specs.Gives.{toks}
use Rattle.qvt_language.specs.declared.class.Class.TheVariants.{Comma}
use Rattle.qvt_language.specs.Reading.{path_at}
use Rattle.qvt_parser_grammar.proofs.LessNames.{less_path}
use Rattle.qvt_parser_grammar.proofs.cursor.Parser.paths.Goals as goal

pub loop-self-preserved : goal.loop-self-preserved
loop-self-preserved c = record {
  so_far = loop_more (is Comma) (made_at second (then_at (the_at Comma) path_at)) (less_path) _ c.loop-self.paths (toks c.loop-self.self) c.in_ok-next.next (toks c.next_path.new.self) c.loop-self.invariant.so_far (sym c.at.ensures ∙ c.loop-self-test.true) c.in_ok-next.ensures.gives
      ∙ ap (λ z. with_front z (many_at (is Comma) (made_at second (then_at (the_at Comma) path_at)) (toks c.next_path.new.self))) (sym c.in_ok-push-2.ensures.ok);
  fewer = omega (arith, c.in_ok-next.ensures.fewer);
}
