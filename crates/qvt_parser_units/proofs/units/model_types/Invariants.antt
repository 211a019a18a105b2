use Rattle.std.proofs.Common.{◌≡◌, ◌≤◌, length}
use Rattle.qvt_grammar.specs.Reader.{many_at, with_front}
use Rattle.qvt_language.specs.Tokens.{is}
use Rattle.qvt_parser_grammar.specs.Gives.{toks}
use Rattle.qvt_language.specs.declared.class.Class.TheVariants.{ModelTypeWord}
use Rattle.qvt_language.specs.ReadingUnits.{model_type_at}
use Rattle.qvt_parser_units.proofs.units.model_types.Given as goal

abbrev pub invariant-loop-parser : goal.invariant-loop-parser
invariant-loop-parser l = record {
  so_far : many_at (is ModelTypeWord) model_type_at (toks l.fn.parser) ≡ with_front l.model_types (many_at (is ModelTypeWord) model_type_at (toks l.parser));
  fewer : length (toks l.parser) ≤ length (toks l.fn.parser);
}

abbrev pub decreases-loop-parser : goal.decreases-loop-parser
decreases-loop-parser l = length (toks l.parser)
