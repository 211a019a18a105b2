use Rattle.std.proofs.Common.{◌≡◌, ◌<◌, length}
use Rattle.qvt_grammar.specs.Reader.{many_at, made_at, then_at, with_front}
use Rattle.qvt_language.specs.Tokens.{is}
use Rattle.qvt_language.specs.Readers.{the_at}
use Rattle.qvt_language.specs.Trees.{second, cons_of}
use Rattle.qvt_parser_grammar.specs.Gives.{toks}
use Rattle.qvt_language.specs.declared.class.Class.TheVariants.{Comma}
use Rattle.qvt_language.specs.ReadingUnits.{model_param_at}
use Rattle.qvt_parser_units.proofs.units.model_params.Given as goal

abbrev pub invariant-loop-parser : goal.invariant-loop-parser
invariant-loop-parser l = record {
  so_far : made_at cons_of (then_at model_param_at (many_at (is Comma) (made_at second (then_at (the_at Comma) model_param_at)))) (toks l.fn.parser) ≡ with_front l.params (many_at (is Comma) (made_at second (then_at (the_at Comma) model_param_at)) (toks l.parser));
  fewer : length (toks l.parser) < length (toks l.fn.parser);
}

abbrev pub decreases-loop-parser : goal.decreases-loop-parser
decreases-loop-parser l = length (toks l.parser)
