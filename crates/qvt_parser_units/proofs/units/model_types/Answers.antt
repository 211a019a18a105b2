use Rattle.std.proofs.Common.{sym, ap, ◌∙◌, arith}
use Rattle.qvt_grammar.specs.Reader.{many_at, with_front}
use Rattle.qvt_grammar.proofs.Loops.{loop_more}
use Rattle.qvt_language.specs.Tokens.{is}
use Rattle.qvt_parser_grammar.specs.Gives.{toks}
use Rattle.qvt_language.specs.declared.class.Class.TheVariants.{ModelTypeWord}
use Rattle.qvt_language.specs.ReadingUnits.{model_type_at}
use Rattle.qvt_parser_units.proofs.LessUnits.{less_model_type}
use Rattle.qvt_parser_units.proofs.units.model_types.Goals as goal

pub loop-parser-preserved : goal.loop-parser-preserved
loop-parser-preserved c = record {
  so_far = loop_more (is ModelTypeWord) model_type_at less_model_type _ c.loop-parser.model_types (toks c.loop-parser.parser) c.in_ok-model_type.model_type (toks c.model_type.new.parser) c.loop-parser.invariant.so_far (sym c.at.ensures ∙ c.loop-parser-test.true) c.in_ok-model_type.ensures.gives
      ∙ ap (λ z. with_front z (many_at (is ModelTypeWord) model_type_at (toks c.model_type.new.parser))) (sym c.in_ok-push.ensures.ok);
  fewer = omega (arith, c.in_ok-model_type.ensures.fewer);
}
