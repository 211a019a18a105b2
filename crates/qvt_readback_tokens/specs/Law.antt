-- The law that the tokens of a printed text are those of its pieces.
use Rattle.std.specs.Prelude.{◌≡◌, ℕ, List, map}
use Rattle.qvt_base.specs.declared.numbers.Place.{Place}
use Rattle.qvt_tree_types.specs.Module.{ModuleTerm}
use Rattle.qvt_language.specs.Tokens.{Tok}
use Rattle.qvt_language_rows.specs.Language.{Reads}
use Rattle.qvt_parser_tokens.specs.Text.{HasTokens}
use Rattle.qvt_printer.specs.Units.{module_pieces}
use Rattle.qvt_printer.specs.PrintText.{print_text}
use Rattle.qvt_language.specs.Same.{unplaced}
use Rattle.qvt_readback_tokens.specs.Spelled.{all_spelled}
use Rattle.qvt_readback_tokens.specs.Told.{AllTold}

-- the text has tokens, and they are these but for their places
pub record HasSpelled (text : List ℕ) (spelled : List Tok) : Type 0 where
  pub tokens : List Tok
  pub end : Place
  pub has : HasTokens text tokens end
  pub same : map unplaced tokens ≡ spelled

pub record PrintedIsLexed : Type 0 where
  -- the printed text of a tree that is read from tokens that texts can say has the tokens of its pieces
  pub lexed : (ts : List Tok) (m : ModuleTerm) → AllTold ts → Reads ts m → HasSpelled (print_text m) (all_spelled (module_pieces m))
  -- a text can say all its tokens
  pub told : (text : List ℕ) (ts : List Tok) (end : Place) → HasTokens text ts end → AllTold ts
