use Rattle.std.proofs.Common.{sym, ◌∙◌, arith}
use Rattle.qvt_grammar.specs.Reader.{made_at, then_at}
use Rattle.qvt_grammar.proofs.Loops.{loop_push}
use Rattle.qvt_tree_types.specs.Module.{param_view}
use Rattle.qvt_language.specs.Tokens.{is}
use Rattle.qvt_language.specs.Readers.{the_at}
use Rattle.qvt_language.specs.Trees.{second}
use Rattle.qvt_parser_grammar.specs.Gives.{toks}
use Rattle.qvt_language.specs.declared.class.Class.TheVariants.{Comma}
use Rattle.qvt_language.specs.ReadingUnits.{param_at}
use Rattle.qvt_language.specs.Nesting.{nested_at}
use Rattle.qvt_parser_units.proofs.LessUnits.{less_param}
use Rattle.qvt_parser_units.proofs.units.some_params.Goals as goal

pub loop-parser-preserved : goal.loop-parser-preserved
loop-parser-preserved c = record {
  so_far = loop_push (is Comma) (made_at second (then_at (the_at Comma) (param_at (nested_at c.args.room)))) (less_param c.args.room) param_view _ c.loop-parser.params _ c.in_ok-next.next (toks c.loop-parser.parser) (toks c.next_param.new.parser) c.loop-parser.invariant.so_far (sym c.at.ensures ∙ c.loop-parser-test.true) c.in_ok-next.ensures.gives c.in_ok-push-2.ensures.ok;
  fewer = omega (arith, c.in_ok-next.ensures.fewer);
}
