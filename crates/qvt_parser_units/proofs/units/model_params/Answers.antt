use Rattle.std.proofs.Common.{sym, ap, ◌∙◌, arith}
use Rattle.qvt_grammar.specs.Reader.{many_at, made_at, then_at, with_front}
use Rattle.qvt_grammar.proofs.Loops.{loop_more}
use Rattle.qvt_language.specs.Tokens.{is}
use Rattle.qvt_language.specs.Readers.{the_at}
use Rattle.qvt_language.specs.Trees.{second}
use Rattle.qvt_parser_grammar.specs.Gives.{toks}
use Rattle.qvt_language.specs.declared.class.Class.TheVariants.{Comma}
use Rattle.qvt_language.specs.ReadingUnits.{model_param_at}
use Rattle.qvt_parser_units.proofs.LessUnits.{less_model_param}
use Rattle.qvt_parser_units.proofs.units.model_params.Goals as goal

pub loop-parser-preserved : goal.loop-parser-preserved
loop-parser-preserved c = record {
  so_far = loop_more (is Comma) (made_at second (then_at (the_at Comma) model_param_at)) less_model_param _ c.loop-parser.params (toks c.loop-parser.parser) c.in_ok-next.next (toks c.next_model_param.new.parser) c.loop-parser.invariant.so_far (sym c.at.ensures ∙ c.loop-parser-test.true) c.in_ok-next.ensures.gives
      ∙ ap (λ z. with_front z (many_at (is Comma) (made_at second (then_at (the_at Comma) model_param_at)) (toks c.next_model_param.new.parser))) (sym c.in_ok-push-2.ensures.ok);
  fewer = omega (arith, c.in_ok-next.ensures.fewer);
}
