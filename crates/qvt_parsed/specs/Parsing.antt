-- Which texts are a transformation, and what is wrong with the others.
use Rattle.std.specs.Prelude.{◌≡◌, ℕ, List, Some, None, Result, Ok, Err}
use Rattle.qvt_base.specs.declared.numbers.Place.{Place}
use Rattle.qvt_tree_types.specs.Module.{ModuleTerm, module_view}
use Rattle.qvt_tree_types.specs.declared.module.Module.{Module}
use Rattle.qvt_language.specs.Tokens.{Tok, place_of}
use Rattle.qvt_language.specs.Readers.{nowhere}
use Rattle.qvt_language.specs.Module.{with_end}
use Rattle.qvt_language_rows.specs.Language.{Reads, HaveFirstFault}
use Rattle.qvt_parser_tokens.specs.Depth.{deep}
use Rattle.qvt_parser_tokens.specs.Text.{HasTokens, HasLexFault}
use Rattle.qvt_parser_tokens.specs.declared.text.TextFault.{TextFault}
use Rattle.qvt_parser_tokens.specs.declared.text.TextFault.TheVariants as tokens
use Rattle.qvt_parsed.specs.declared.fault.ParseFault.{ParseFault}
use Rattle.qvt_parsed.specs.declared.fault.ParseFault.TheVariants.{NoMemory, Lex, TooDeep, Syntax}

-- a fault of the tokens as one of the text
abbrev pub fault_of : TextFault → ParseFault
fault_of tokens.NoMemory = NoMemory
fault_of (tokens.Lex fault) = Lex fault

-- the text has tokens, never more than 64 items are open in them, and they are read as this tree, which ends where the text
-- does
pub record IsTransformation (text : List ℕ) (m : ModuleTerm) : Type 0 where
  pub tokens : List Tok
  pub end : Place
  pub has : HasTokens text tokens end
  pub shallow : deep tokens ≡ None
  pub reads : Reads tokens (with_end nowhere m)
  pub ends : m.end ≡ end

-- the text has tokens, and this is the place of the first that leaves more than 64 items open
pub record IsTooDeep (text : List ℕ) (place : Place) : Type 0 where
  pub tokens : List Tok
  pub end : Place
  pub has : HasTokens text tokens end
  pub deepest : deep tokens ≡ Some place

-- the text has tokens, never more than 64 items are open in them, they are not read, and this is the place of the first such
-- that no list that is read has the same tokens up to and including it, or the end
pub record HasSyntaxFault (text : List ℕ) (place : Place) : Type 0 where
  pub tokens : List Tok
  pub end : Place
  pub has : HasTokens text tokens end
  pub shallow : deep tokens ≡ None
  pub rest : List Tok
  pub fault : HaveFirstFault tokens rest
  pub at : place ≡ place_of end rest

-- the first fault of a text: of its tokens, of what stands open in them, of its syntax
abbrev pub IsFaultOf : List ℕ → ParseFault → Type 0
IsFaultOf text NoMemory = Unit {0}
IsFaultOf text (Lex fault) = HasLexFault text fault
IsFaultOf text (TooDeep place) = IsTooDeep text place
IsFaultOf text (Syntax place) = HasSyntaxFault text place

-- what reading tokens gives that end at this place
abbrev pub IsReadAs : List Tok → Place → Result Module ParseFault → Type 0
IsReadAs ts end (Ok m) = Reads ts (with_end nowhere (module_view m)) × (m.end ≡ end)
IsReadAs ts end (Err NoMemory) = Unit {0}
IsReadAs ts end (Err (Lex fault)) = ⊥
IsReadAs ts end (Err (TooDeep place)) = ⊥
IsReadAs ts end (Err (Syntax place)) = (rest : List Tok) × HaveFirstFault ts rest × (place ≡ place_of end rest)
