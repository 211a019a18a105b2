use Rattle.std.proofs.Common.{◌≡◌, ◌++◌, ℕ, List, map, length}
use Rattle.std.specs.Str.{chars}
use Rattle.qvt_lexer.specs.Division.{TokenData, ReadsTokens, start_at}
use Rattle.qvt_language.specs.Tokens.{toks_of}
use Rattle.qvt_parser_tokens.specs.Said.{said}
use Rattle.qvt_parser_tokens.specs.Whole.{strings_of}
use Rattle.qvt_parser_tokens.proofs.text.read.Given as goal

-- where the given texts are those of the strings so far and some more, the tokens are right and the others are left
abbrev pub invariant-loop-token : goal.invariant-loop-token
invariant-loop-token l = record {
  tokens : List TokenData;
  reads : ReadsTokens (start_at (chars l.fn.text)) l.lexer.at tokens;
  are : (more : List (List ℕ)) → l.fn.strings ≡ strings_of tokens ++ more → (toks_of l.tokens ≡ map said tokens) × (l.left ≡ more);
}

abbrev pub decreases-loop-token : goal.decreases-loop-token
decreases-loop-token l = length l.lexer.at.rest
