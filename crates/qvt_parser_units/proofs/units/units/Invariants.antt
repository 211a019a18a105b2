use Rattle.std.proofs.Common.{◌≡◌, ◌≤◌, length}
use Rattle.qvt_grammar.specs.Reader.{made_at, choose_at, with_front}
use Rattle.qvt_language.specs.Tokens.{is, of}
use Rattle.qvt_language.specs.Readers.{the_at}
use Rattle.qvt_language.specs.Trees.{nothing}
use Rattle.qvt_language.specs.UnitTrees.{some_unit}
use Rattle.qvt_parser_grammar.specs.Gives.{toks}
use Rattle.qvt_language.specs.Firsts.{unit_first}
use Rattle.qvt_language.specs.declared.class.Class.TheVariants.{Semicolon}
use Rattle.qvt_language.specs.ReadingUnits.{unit_at}
use Rattle.qvt_language.specs.Nesting.{nested_at}
use Rattle.qvt_parser_units.specs.UnitViews.{units_view}
use Rattle.qvt_parser_units.proofs.LessUnits.{less_unit}
use Rattle.qvt_parser_units.proofs.UnitLoops.{all_at}
use Rattle.qvt_parser_units.proofs.units.units.Given as goal

abbrev pub invariant-loop-parser : goal.invariant-loop-parser
invariant-loop-parser l = record {
  so_far : all_at (of unit_first) (choose_at (is Semicolon) (made_at nothing (the_at Semicolon)) (made_at some_unit (unit_at (nested_at l.room)))) (less_unit l.room) (toks l.fn.parser) ≡ with_front (units_view l.units) (all_at (of unit_first) (choose_at (is Semicolon) (made_at nothing (the_at Semicolon)) (made_at some_unit (unit_at (nested_at l.room)))) (less_unit l.room) (toks l.parser));
  fewer : length (toks l.parser) ≤ length (toks l.fn.parser);
}

abbrev pub decreases-loop-parser : goal.decreases-loop-parser
decreases-loop-parser l = length (toks l.parser)
