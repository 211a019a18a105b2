use Rattle.std.proofs.Common.{◌++◌, ◌∷◌, [], sym, ap, ◌∙◌, append-nil}
use Rattle.qvt_lexer.specs.Division.{data_of}
use Rattle.qvt_parser_tokens.specs.Whole.{strings_of}
use Rattle.qvt_parser_tokens.proofs.Lexings.{token_shorter, reads_then}
use Rattle.qvt_parser_tokens.proofs.Strings.{string_then, other_then, string_no_end}
use Rattle.qvt_parser_tokens.proofs.text.strings.Goals as goal

pub returns-in-End : goal.returns-in-End
returns-in-End c =
    let before = c.loop-token.invariant in
    let all = c.in-Ok.ensures.read.nothing c.in-End.is in
    record {
      tokens = before.tokens ++ [];
      last = c.next.new.self.at;
      reads = reads_then _ c.loop-token.lexer.at c.next.new.self.at before.tokens [] before.reads all.0;
      nothing = all.1;
      are = ap strings_of (append-nil before.tokens) ∙ before.are;
    }

pub loop-token-smaller-in-Continue-branch-2 : goal.loop-token-smaller-in-Continue-branch-2
loop-token-smaller-in-Continue-branch-2 c = token_shorter c.loop-token.lexer.at c.next.new.self.at (data_of c.in-Ok.token) (c.in-Ok.ensures.read.token (string_no_end _ c.in-Str.is))

pub loop-token-preserved-in-Continue-branch-2 : goal.loop-token-preserved-in-Continue-branch-2
loop-token-preserved-in-Continue-branch-2 c =
    let before = c.loop-token.invariant in
    let d = data_of c.in-Ok.token in
    record {
      tokens = before.tokens ++ d ∷ [];
      reads = reads_then _ c.loop-token.lexer.at c.next.new.self.at before.tokens (d ∷ []) before.reads (c.in-Ok.ensures.read.token (string_no_end _ c.in-Str.is));
      are = string_then before.tokens d c.in-Str.is ∙ (λ i. before.are i ++ sym c.in_ok-string-in-Str.ensures i ∷ []) ∙ sym c.in_ok-push-in-Str.ensures.ok;
    }

pub loop-token-smaller : goal.loop-token-smaller
loop-token-smaller c = token_shorter c.loop-token.lexer.at c.next.new.self.at (data_of c.in-Ok.token) (c.in-Ok.ensures.read.token c.in_default.not-End)

pub loop-token-preserved : goal.loop-token-preserved
loop-token-preserved c =
    let before = c.loop-token.invariant in
    let d = data_of c.in-Ok.token in
    record {
      tokens = before.tokens ++ d ∷ [];
      reads = reads_then _ c.loop-token.lexer.at c.next.new.self.at before.tokens (d ∷ []) before.reads (c.in-Ok.ensures.read.token c.in_default.not-End);
      are = other_then before.tokens d c.in_default.not-Str ∙ before.are;
    }
