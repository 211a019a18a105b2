use Rattle.std.proofs.Common.{◌≡◌, ◌++◌, ◌∷◌, [], map, refl, sym, ap, ◌∙◌, subst, append-nil}
use Rattle.std.specs.Str.{chars}
use Rattle.qvt_lexer.specs.Division.{ReadsTokens, data_of, start_at}
use Rattle.qvt_lexer.specs.declared.token.TokenKind.TheVariants.{Str}
use Rattle.qvt_language.specs.Tokens.{toks_of}
use Rattle.qvt_parser_tokens.specs.Said.{said, text_of}
use Rattle.qvt_parser_tokens.specs.Whole.{strings_of}
use Rattle.qvt_parser_tokens.proofs.Lexings.{integer_is, token_shorter, reads_then, all_tokens}
use Rattle.qvt_parser_tokens.proofs.Strings.{string_first, string_said, string_no_end, other_then, one_more}
use Rattle.qvt_parser_tokens.proofs.text.read.Goals as goal

pub loop-token-init : goal.loop-token-init
loop-token-init c = record {
  tokens = [];
  reads = subst (λ z. ReadsTokens (start_at (chars c.args.text.now)) z []) (λ i. (sym c.new-lexer.ensures i).at) (record { pieces = []; divides = refl; tokens = refl; place = refl });
  are = λ more e. (ap toks_of c.new-tokens.ensures, e);
}

pub returns-in-End : goal.returns-in-End
returns-in-End c =
    let before = c.loop-token.invariant in
    let all = c.in-Ok.ensures.read.nothing c.in-End.is in
    let given = c.requires.strings in
    let reads = reads_then _ c.loop-token.lexer.at c.next.new.self.at before.tokens [] before.reads all.0 in
    let same : before.tokens ++ [] ≡ given.tokens = all_tokens c.args.text.now c.next.new.self.at given.last (before.tokens ++ []) given.tokens reads all.1 given.reads given.nothing in
    let texts : c.args.strings.now ≡ strings_of before.tokens ++ [] = sym given.are ∙ ap strings_of (sym same ∙ append-nil before.tokens) ∙ sym (append-nil (strings_of before.tokens)) in
    record {
      tokens = before.tokens ++ [];
      last = c.next.new.self.at;
      reads = reads;
      nothing = all.1;
      place = sym all.2;
      are = ap (map said) (append-nil before.tokens) ∙ sym (before.are [] texts).0;
    }

pub loop-token-smaller-in-Continue-1 : goal.loop-token-smaller-in-Continue-1
loop-token-smaller-in-Continue-1 c = token_shorter c.loop-token.lexer.at c.next.new.self.at (data_of c.in-Ok.token) (c.in-Ok.ensures.read.token (string_no_end _ c.in-Str.is))

pub loop-token-preserved-in-Continue-1 : goal.loop-token-preserved-in-Continue-1
loop-token-preserved-in-Continue-1 c =
    let before = c.loop-token.invariant in
    let d = data_of c.in-Ok.token in
    record {
      tokens = before.tokens ++ d ∷ [];
      reads = reads_then _ c.loop-token.lexer.at c.next.new.self.at before.tokens (d ∷ []) before.reads (c.in-Ok.ensures.read.token (string_no_end _ c.in-Str.is));
      are = λ more e.
          let so_far = before.are (text_of Str d.text ∷ more) (string_first before.tokens d c.args.strings.now more c.in-Str.is e) in
          let taken = c.first_of.ensures (text_of Str d.text) more so_far.1 in
          (one_more before.tokens c.loop-token.tokens c.push.new.self d _ so_far.0 (string_said d c.first_of.result.0.now c.in-Str.is taken.0) c.in_ok-push-in-Str.ensures.ok, taken.1);
    }

pub plain-requires : goal.plain-requires
plain-requires c = record {
  integer = integer_is c.loop-token.lexer.at c.in-Ok.token c.next.new.self.at c.in-Ok.ensures.read;
  other = c.in_default.not-Str;
}

pub loop-token-smaller : goal.loop-token-smaller
loop-token-smaller c = token_shorter c.loop-token.lexer.at c.next.new.self.at (data_of c.in-Ok.token) (c.in-Ok.ensures.read.token c.in_default.not-End)

pub loop-token-preserved : goal.loop-token-preserved
loop-token-preserved c =
    let before = c.loop-token.invariant in
    let d = data_of c.in-Ok.token in
    record {
      tokens = before.tokens ++ d ∷ [];
      reads = reads_then _ c.loop-token.lexer.at c.next.new.self.at before.tokens (d ∷ []) before.reads (c.in-Ok.ensures.read.token c.in_default.not-End);
      are = λ more e.
          let so_far = before.are more (e ∙ ap (λ z. z ++ more) (other_then before.tokens d c.in_default.not-Str)) in
          (one_more before.tokens c.loop-token.tokens c.push-in_default.new.self d c.plain.result so_far.0 c.plain.ensures c.in_ok-push-in_default.ensures.ok, so_far.1);
    }
