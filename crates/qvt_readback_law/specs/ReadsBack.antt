-- The law that what is printed reads back.
use Rattle.std.specs.Prelude.{◌≡◌, ℕ, List, None, Result, Ok, Err}
use Rattle.qvt_base.specs.declared.numbers.Place.{Place}
use Rattle.qvt_tree_types.specs.Module.{ModuleTerm}
use Rattle.qvt_tree.specs.ModuleShape.{shape}
use Rattle.qvt_language.specs.Readers.{nowhere}
use Rattle.qvt_language.specs.Tokens.{Tok}
use Rattle.qvt_language.specs.Module.{with_end}
use Rattle.qvt_language_rows.specs.Language.{Reads}
use Rattle.qvt_parser_tokens.specs.Depth.{deep}
use Rattle.qvt_parser_tokens.specs.Text.{HasTokens}
use Rattle.qvt_parsed.specs.Parsing.{IsTransformation}
use Rattle.qvt_parsed.specs.Parsed.{parsed}
use Rattle.qvt_parsed.specs.declared.fault.ParseFault.{ParseFault}
use Rattle.qvt_parsed.specs.declared.fault.ParseFault.TheVariants.{TooDeep}
use Rattle.qvt_printer.specs.PrintText.{print_text}
use Rattle.qvt_readback_tokens.specs.Told.{AllTold}
use Rattle.qvt_readback_trees.specs.Printable.{IsPrintable}
use Rattle.qvt_readback_depth.specs.Law.{HasFullUnit}

-- what the printed text of a tree that these tokens are read as is read as: a tree of its shape, which has the same printed
-- text; or the printed text is too deep, and then a unit that is printed with a block more had itself 64 items open
abbrev pub IsReadBack : List Tok → ModuleTerm → Result ModuleTerm ParseFault → Type 0
IsReadBack ts m (Ok n) = (shape n ≡ shape m) × (print_text n ≡ print_text m)
IsReadBack ts m (Err (TooDeep place)) = HasFullUnit 64 ts m.units
IsReadBack ts m (Err fault) = ⊥

pub record PrintedReadsBack : Type 0 where
  -- the printed text depends on the shape alone
  pub text : (m n : ModuleTerm) → shape m ≡ shape n → print_text m ≡ print_text n
  -- the printed text of a printable tree reads back, where its tokens are such as texts can say and not too deep
  pub back : (ts : List Tok) (m : ModuleTerm) → AllTold ts → deep ts ≡ None → Reads ts (with_end nowhere m) → IsPrintable m → IsReadBack ts m (parsed (print_text m))
  -- as those of a transformation's text are
  pub told : (text : List ℕ) (ts : List Tok) (end : Place) → HasTokens text ts end → AllTold ts
  pub transformation : (text : List ℕ) (m : ModuleTerm) (t : IsTransformation text m) → IsPrintable m → IsReadBack t.tokens m (parsed (print_text m))
