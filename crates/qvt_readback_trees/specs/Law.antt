-- The laws that the tokens of a printed text are read as a tree of the same shape, and that trees of one shape have one
-- printed text.
use Rattle.std.specs.Prelude.{◌≡◌, List, map}
use Rattle.qvt_tree_types.specs.Module.{ModuleTerm}
use Rattle.qvt_tree.specs.ModuleShape.{shape}
use Rattle.qvt_language.specs.Tokens.{Tok}
use Rattle.qvt_language_rows.specs.Language.{Reads}
use Rattle.qvt_printer.specs.Units.{module_pieces}
use Rattle.qvt_printer.specs.PrintText.{print_text}
use Rattle.qvt_language.specs.Same.{unplaced}
use Rattle.qvt_readback_tokens.specs.Spelled.{all_spelled}
use Rattle.qvt_readback_trees.specs.Printable.{IsPrintable}

-- the tokens are read as a tree of the same shape as this one
pub record ReadsShape (ts : List Tok) (m : ModuleTerm) : Type 0 where
  pub tree : ModuleTerm
  pub reads : Reads ts tree
  pub same : shape tree ≡ shape m

-- whatever has the tokens of the pieces of a printable tree, at whatever places, is read as a tree of its shape
abbrev pub PrintedIsRead : Type 0
PrintedIsRead = (ts us : List Tok) (m : ModuleTerm) → Reads ts m → IsPrintable m → map unplaced us ≡ all_spelled (module_pieces m) → ReadsShape us m

-- the printed text depends on the shape alone
abbrev pub OneText : Type 0
OneText = (m n : ModuleTerm) → shape m ≡ shape n → print_text m ≡ print_text n
