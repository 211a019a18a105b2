use Rattle.std.proofs.Common.{sym, ◌∙◌, arith}
use Rattle.qvt_grammar.proofs.Loops.{loop_push}
use Rattle.qvt_tree_types.specs.Module.{field_view}
use Rattle.qvt_language.specs.Tokens.{is}
use Rattle.qvt_parser_grammar.specs.Gives.{toks}
use Rattle.qvt_language.specs.declared.class.Class.TheVariants.{Name}
use Rattle.qvt_language.specs.ReadingUnits.{feature_at}
use Rattle.qvt_language.specs.Nesting.{nested_at}
use Rattle.qvt_parser_units.proofs.LessUnits.{less_feature}
use Rattle.qvt_parser_units.proofs.units.some_features.Goals as goal

pub loop-parser-preserved : goal.loop-parser-preserved
loop-parser-preserved c = record {
  so_far = loop_push (is Name) (feature_at (nested_at c.args.room)) (less_feature c.args.room) field_view _ c.loop-parser.features _ c.in_ok-feature.feature (toks c.loop-parser.parser) (toks c.feature.new.parser) c.loop-parser.invariant.so_far (sym c.at.ensures ∙ c.loop-parser-test.true) c.in_ok-feature.ensures.gives c.in_ok-push.ensures.ok;
  fewer = omega (arith, c.in_ok-feature.ensures.fewer);
}
