use Rattle.std.proofs.Common.{◌≡◌, ◌≤◌, length}
use Rattle.qvt_grammar.specs.Reader.{many_at, made_at, then_at, with_front}
use Rattle.qvt_language.specs.Tokens.{is}
use Rattle.qvt_language.specs.Readers.{the_at}
use Rattle.qvt_language.specs.Trees.{second}
use Rattle.qvt_parser_grammar.specs.Gives.{toks}
use Rattle.qvt_language.specs.declared.class.Class.TheVariants.{DoubleColon}
use Rattle.qvt_language.specs.Reading.{name_at}
use Rattle.qvt_parser_grammar.proofs.cursor.Parser.more_names.Given as goal

abbrev pub invariant-loop-self : goal.invariant-loop-self
invariant-loop-self l = record {
  so_far : many_at (is DoubleColon) (made_at second (then_at (the_at DoubleColon) name_at)) (toks l.fn.self) ≡ with_front l.names (many_at (is DoubleColon) (made_at second (then_at (the_at DoubleColon) name_at)) (toks l.self));
  fewer : length (toks l.self) ≤ length (toks l.fn.self);
}

abbrev pub decreases-loop-self : goal.decreases-loop-self
decreases-loop-self l = length (toks l.self)
