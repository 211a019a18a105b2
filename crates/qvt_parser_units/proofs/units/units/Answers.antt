use Rattle.std.proofs.Common.{sym, ◌∙◌, arith}
use Rattle.qvt_grammar.specs.Reader.{made_at, choose_at}
use Rattle.qvt_language.specs.Tokens.{is, of}
use Rattle.qvt_language.specs.Readers.{the_at}
use Rattle.qvt_language.specs.Trees.{nothing}
use Rattle.qvt_language.specs.UnitTrees.{some_unit}
use Rattle.qvt_parser_grammar.specs.Gives.{toks}
use Rattle.qvt_language.specs.Firsts.{unit_first}
use Rattle.qvt_language.specs.declared.class.Class.TheVariants.{Semicolon}
use Rattle.qvt_language.specs.ReadingUnits.{unit_at}
use Rattle.qvt_language.specs.Nesting.{nested_at}
use Rattle.qvt_parser_units.specs.Adding.{turn_view}
use Rattle.qvt_parser_units.specs.UnitViews.{units_view}
use Rattle.qvt_parser_units.proofs.LessUnits.{less_unit}
use Rattle.qvt_parser_units.proofs.UnitLoops.{loop_turn}
use Rattle.qvt_parser_units.proofs.units.units.Goals as goal

pub loop-parser-preserved : goal.loop-parser-preserved
loop-parser-preserved c = record {
  so_far = loop_turn (of unit_first) (choose_at (is Semicolon) (made_at nothing (the_at Semicolon)) (made_at some_unit (unit_at (nested_at c.args.room)))) (less_unit c.args.room) _ (units_view c.loop-parser.units) _ (toks c.loop-parser.parser) (turn_view c.in_ok-turn.turn) (toks c.turn.new.parser) c.loop-parser.invariant.so_far (sym c.at_unit.ensures ∙ c.loop-parser-test.true) c.in_ok-turn.ensures.gives c.in_ok-add.ensures;
  fewer = omega (arith, c.in_ok-turn.ensures.fewer);
}
