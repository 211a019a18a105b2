use Rattle.std.proofs.Common.{◌≡◌, List, ℕ, sym, ◌∙◌, subst}
use Rattle.qvt_base.specs.declared.numbers.Place.{Place}
use Rattle.qvt_language.specs.Tokens.{toks_of}
use Rattle.qvt_language.specs.declared.token.SyntaxToken.{SyntaxToken}
use Rattle.qvt_parser_tokens.specs.Text.{HasTokens}
use Rattle.qvt_parser.proofs.Outcomes.{strings_fault, lexed_none, deep_none, one_of, none_of}
use Rattle.qvt_parser.proofs.parse.parse_text.Goals as goal

-- the slice has the tokens of the text
has : (text : List ℕ) (end : Place) (slice all : List SyntaxToken) → HasTokens text (toks_of all) end → slice ≡ all → HasTokens text (toks_of slice) end
has text end slice all h e = subst (λ z. HasTokens text (toks_of z) end) (sym e) h

pub returns-in_err-strings-clause-no_tree : goal.returns-in_err-strings-clause-no_tree
returns-in_err-strings-clause-no_tree c = lexed_none c.args.text.now c.in_err-strings.field-0.0 c.from_residual.result (strings_fault c.args.text.now c.in_err-strings.field-0.0 c.in_err-strings.ensures) c.from_residual.ensures.1

pub returns-in_err-lexed-clause-no_tree : goal.returns-in_err-lexed-clause-no_tree
returns-in_err-lexed-clause-no_tree c = lexed_none c.args.text.now c.in_err-lexed.field-0.0 c.from_residual-in_err-lexed.result c.in_err-lexed.ensures c.from_residual-in_err-lexed.ensures.1

pub returns-in-Ok-None-clause-one : goal.returns-in-Ok-None-clause-one
returns-in-Ok-None-clause-one c =
    let tokens = c.as_slice-in-Ok-None.result.now in
    let same = has c.args.text.now c.in_ok-lexed.lexed.end tokens c.in_ok-lexed.lexed.tokens c.in_ok-lexed.ensures c.as_slice-in-Ok-None.ensures in
    one_of c.args.text.now (toks_of tokens) c.in_ok-lexed.lexed.end same c.read_tokens.result c.read_tokens.ensures.read c.read_tokens.ensures.one

pub returns-in-Ok-None-clause-no_tree : goal.returns-in-Ok-None-clause-no_tree
returns-in-Ok-None-clause-no_tree c =
    let tokens = c.as_slice-in-Ok-None.result.now in
    let same = has c.args.text.now c.in_ok-lexed.lexed.end tokens c.in_ok-lexed.lexed.tokens c.in_ok-lexed.ensures c.as_slice-in-Ok-None.ensures in
    none_of c.args.text.now (toks_of tokens) c.in_ok-lexed.lexed.end same c.read_tokens.result c.read_tokens.ensures.read

pub returns-in-Ok-Some-clause-no_tree : goal.returns-in-Ok-Some-clause-no_tree
returns-in-Ok-Some-clause-no_tree c =
    let tokens = c.as_slice-2.result.now in
    let same = has c.args.text.now c.in_ok-lexed.lexed.end tokens c.in_ok-lexed.lexed.tokens c.in_ok-lexed.ensures c.as_slice-2.ensures in
    λ _. deep_none c.args.text.now (toks_of tokens) c.in_ok-lexed.lexed.end same c.in-Ok-Some.place (sym c.in-Ok-Some.ensures ∙ c.in-Ok-Some.field-0-is)
