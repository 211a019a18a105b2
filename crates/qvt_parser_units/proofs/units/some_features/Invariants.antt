use Rattle.std.proofs.Common.{◌≡◌, ◌≤◌, length, map}
use Rattle.qvt_grammar.specs.Reader.{many_at, with_front}
use Rattle.qvt_tree_types.specs.Module.{field_view}
use Rattle.qvt_language.specs.Tokens.{is}
use Rattle.qvt_parser_grammar.specs.Gives.{toks}
use Rattle.qvt_language.specs.declared.class.Class.TheVariants.{Name}
use Rattle.qvt_language.specs.ReadingUnits.{feature_at}
use Rattle.qvt_language.specs.Nesting.{nested_at}
use Rattle.qvt_parser_units.proofs.units.some_features.Given as goal

abbrev pub invariant-loop-parser : goal.invariant-loop-parser
invariant-loop-parser l = record {
  so_far : many_at (is Name) (feature_at (nested_at l.room)) (toks l.fn.parser) ≡ with_front (map field_view l.features) (many_at (is Name) (feature_at (nested_at l.room)) (toks l.parser));
  fewer : length (toks l.parser) ≤ length (toks l.fn.parser);
}

abbrev pub decreases-loop-parser : goal.decreases-loop-parser
decreases-loop-parser l = length (toks l.parser)
