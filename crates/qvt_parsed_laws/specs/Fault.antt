-- The place of a syntax fault, by its sentence: the first token such that no text of the language has the same tokens up to and
-- including it, or the end.
use Rattle.std.specs.Prelude.{◌≡◌, ℕ, List, [], ◌∷◌, ◌++◌}
use Rattle.qvt_base.specs.declared.numbers.Place.{Place}
use Rattle.qvt_tree_types.specs.Module.{ModuleTerm}
use Rattle.qvt_language.specs.Tokens.{Tok}
use Rattle.qvt_language.specs.Same.{SameTokens}
use Rattle.qvt_language_rows.specs.Language.{Reads}
use Rattle.qvt_parser_tokens.specs.Text.{HasTokens}
use Rattle.qvt_parsed.specs.Parsing.{HasSyntaxFault}

-- the tokens of a text of the language, however deep
pub record IsOfLanguage (text : List ℕ) (ts : List Tok) : Type 0 where
  pub end : Place
  pub has : HasTokens text ts end
  pub tree : ModuleTerm
  pub reads : Reads ts tree

-- some text of the language has the same tokens, and then others or none
pub record BeginsText (ts : List Tok) : Type 0 where
  pub text : List ℕ
  pub first : List Tok
  pub more : List Tok
  pub same : SameTokens first ts
  pub is : IsOfLanguage text (first ++ more)

-- the tokens before a fault
pub record IsBefore (text : List ℕ) (place : Place) (f : HasSyntaxFault text place) (before : List Tok) : Type 0 where
  pub cut : f.tokens ≡ before ++ f.rest

pub record FaultIsFirst : Type 0 where
  -- no text of the language has the same tokens up to and including the faulty one
  pub none : (text : List ℕ) (place : Place) (f : HasSyntaxFault text place) (before : List Tok) → IsBefore text place f before → (t : Tok) (more : List Tok) → f.rest ≡ t ∷ more → BeginsText (before ++ t ∷ []) → ⊥
  -- where it is the end, no text of the language has the same tokens
  pub end : (text : List ℕ) (place : Place) (f : HasSyntaxFault text place) → f.rest ≡ [] → (other : List ℕ) (us : List Tok) → SameTokens us f.tokens → IsOfLanguage other us → ⊥
  -- some text of the language has the same tokens before it
  pub some : (text : List ℕ) (place : Place) (f : HasSyntaxFault text place) → (before : List Tok) × IsBefore text place f before × BeginsText before
