use Rattle.std.proofs.Common.{◌≡◌, ◌≤◌, length}
use Rattle.qvt_grammar.specs.Reader.{many_at, with_front}
use Rattle.qvt_language.specs.Tokens.{of}
use Rattle.qvt_parser_grammar.specs.Gives.{toks}
use Rattle.qvt_language.specs.Firsts.{sign_first}
use Rattle.qvt_language.specs.Reading.{sign_at}
use Rattle.qvt_parser_grammar.proofs.cursor.Parser.more_signs.Given as goal

abbrev pub invariant-loop-self : goal.invariant-loop-self
invariant-loop-self l = record {
  so_far : many_at (of sign_first) sign_at (toks l.fn.self) ≡ with_front l.signs (many_at (of sign_first) sign_at (toks l.self));
  fewer : length (toks l.self) ≤ length (toks l.fn.self);
}

abbrev pub decreases-loop-self : goal.decreases-loop-self
decreases-loop-self l = length (toks l.self)
