-- The tokens of a whole text, or the fault where no piece begins.
use Rattle.std.specs.Prelude.{◌≡◌, ℕ, List, [], map}
use Rattle.std.specs.Str.{chars}
use Rattle.qvt_base.specs.declared.numbers.Place.{Place}
use Rattle.qvt_lexer.specs.Division.{Position, TokenData, ReadsTokens, IsFaulty, start_at}
use Rattle.qvt_lexer.specs.declared.token.LexFault.{LexFault}
use Rattle.qvt_language.specs.Tokens.{Tok}
use Rattle.qvt_parser_tokens.specs.Said.{said}

-- the whole text is divided into blanks, comments and these tokens, and ends here
pub record HasTokens (text : List ℕ) (ts : List Tok) (end : Place) : Type 0 where
  pub tokens : List TokenData
  pub last : Position
  pub reads : ReadsTokens (start_at (chars text)) last tokens
  pub nothing : last.rest ≡ []
  pub place : last.place ≡ end
  pub are : map said tokens ≡ ts

-- after some pieces no piece begins, though characters are left: the lexer's fault is the one there
pub record HasLexFault (text : List ℕ) (f : LexFault) : Type 0 where
  pub tokens : List TokenData
  pub last : Position
  pub reads : ReadsTokens (start_at (chars text)) last tokens
  pub faulty : IsFaulty last f

-- a text has at most one list of tokens, and none where it has a fault; and at most one fault
pub record OneLexing : Type 0 where
  pub tokens : (text : List ℕ) (ts us : List Tok) (p q : Place) → HasTokens text ts p → HasTokens text us q → (ts ≡ us) × (p ≡ q)
  pub either : (text : List ℕ) (ts : List Tok) (p : Place) (f : LexFault) → HasTokens text ts p → HasLexFault text f → ⊥
  pub fault : (text : List ℕ) (f g : LexFault) → HasLexFault text f → HasLexFault text g → f ≡ g
