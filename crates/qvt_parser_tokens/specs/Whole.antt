-- What reading a whole text gives: the texts of its strings, and its tokens.
use Rattle.std.specs.Prelude.{◌≡◌, ℕ, List, [], ◌∷◌, ◌++◌, Result, Ok, Err, ◌≤◌, true}
use Rattle.std.specs.Str.{chars}
use Rattle.qvt_lexer.specs.Characters.{is_digit}
use Rattle.qvt_lexer.specs.Literals.{every, number_of, greatest_number}
use Rattle.qvt_lexer.specs.Division.{Position, TokenData, ReadsTokens, start_at}
use Rattle.qvt_lexer.specs.declared.token.TokenKind.{TokenKind}
use Rattle.qvt_lexer.specs.declared.token.TokenKind.TheVariants.{Str}
use Rattle.qvt_language.specs.Tokens.{toks_of}
use Rattle.qvt_parser_tokens.specs.Said.{text_of}
use Rattle.qvt_parser_tokens.specs.Text.{HasTokens, HasLexFault}
use Rattle.qvt_parser_tokens.specs.declared.text.TextTokens.{TextTokens}
use Rattle.qvt_parser_tokens.specs.declared.text.TextFault.{TextFault}
use Rattle.qvt_parser_tokens.specs.declared.text.TextFault.TheVariants.{Lex, NoMemory}

-- the text of a token of this kind, where it is a string
abbrev pub string_in : TokenKind → List ℕ → List (List ℕ)
string_in Str text = text_of Str text ∷ []
string_in _ text = []

-- the texts of the strings among the tokens, in order
abbrev pub strings_of : List TokenData → List (List ℕ)
strings_of [] = []
strings_of (d ∷ ds) = string_in d.kind d.text ++ strings_of ds

-- the whole text is divided into tokens, and these are the texts of the strings among them
pub record HasStrings (text : List ℕ) (strings : List (List ℕ)) : Type 0 where
  pub tokens : List TokenData
  pub last : Position
  pub reads : ReadsTokens (start_at (chars text)) last tokens
  pub nothing : last.rest ≡ []
  pub are : strings_of tokens ≡ strings

-- the texts of all strings of the text, or its fault, unless memory ran out
abbrev pub ReadsStrings : List ℕ → Result (List (List ℕ)) TextFault → Type 0
ReadsStrings text (Ok strings) = HasStrings text strings
ReadsStrings text (Err (Lex f)) = HasLexFault text f
ReadsStrings text (Err NoMemory) = Unit {0}

-- all tokens of the text, or its fault, unless memory ran out
abbrev pub Lexes : List ℕ → Result TextTokens TextFault → Type 0
Lexes text (Ok t) = HasTokens text (toks_of t.tokens) t.end
Lexes text (Err (Lex f)) = HasLexFault text f
Lexes text (Err NoMemory) = Unit {0}

-- decimal digits that write a number that is not too large
pub record IsNumeral (text : List ℕ) : Type 0 where
  pub digits : every is_digit (chars text) ≡ true
  pub small : number_of (chars text) ≤ greatest_number
