use Rattle.std.proofs.Common.{◌≡◌, List, length}
use Rattle.std.specs.Str.{chars}
use Rattle.qvt_lexer.specs.Division.{TokenData, ReadsTokens, start_at}
use Rattle.qvt_parser_tokens.specs.Whole.{strings_of}
use Rattle.qvt_parser_tokens.proofs.text.strings.Given as goal

abbrev pub invariant-loop-token : goal.invariant-loop-token
invariant-loop-token l = record {
  tokens : List TokenData;
  reads : ReadsTokens (start_at (chars l.fn.text)) l.lexer.at tokens;
  are : strings_of tokens ≡ l.strings;
}

abbrev pub decreases-loop-token : goal.decreases-loop-token
decreases-loop-token l = length l.lexer.at.rest
