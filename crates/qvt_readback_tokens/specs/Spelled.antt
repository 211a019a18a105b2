-- The tokens that the pieces of a printed text stand for, without places (QVT 1.3, 8.4).
use Rattle.std.specs.Prelude.{ℕ, ℤ, pos, List, [], ◌∷◌, flat_map}
use Rattle.qvt_language.specs.Tokens.{Tok}
use Rattle.qvt_language.specs.Readers.{nowhere}
use Rattle.qvt_language.specs.declared.class.Class.{Class}
use Rattle.qvt_language.specs.declared.class.Class.TheVariants as class
use Rattle.qvt_printer_layout.specs.declared.piece.PrintPiece.{PrintPiece}
use Rattle.qvt_printer_layout.specs.declared.piece.PrintPiece.TheVariants.{Plain, Name, Integer, Quoted, Tight, Line, Indent, Dedent}

abbrev pub bare : Class → List ℕ → ℤ → List Tok
bare c text number = record { class = c; text = text; number = number; place = nowhere } ∷ []

-- the token of a piece; what only moves the line stands for none
abbrev pub spelled : PrintPiece → List Tok
spelled (Plain c) = bare c [] (pos 0)
spelled (Name n) = bare class.Name n (pos 0)
spelled (Integer v) = bare class.Integer [] v
spelled (Quoted t) = bare class.Str t (pos 0)
spelled Tight = []
spelled Line = []
spelled Indent = []
spelled Dedent = []

abbrev pub all_spelled : List PrintPiece → List Tok
all_spelled = flat_map spelled
