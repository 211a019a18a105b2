-- The laid out text, piece by piece from the front.
use Rattle.std.proofs.Common.{◌≡◌, ℕ, ◌+◌, ◌-◌, List, [], ◌∷◌, ◌++◌, Option, Some, None, fold, replicate, sym, ap, ◌∙◌, append_assoc, append-nil}
use Rattle.qvt_language.specs.declared.class.Class.{Class}
use Rattle.qvt_language.specs.declared.class.Class.TheVariants as class
use Rattle.qvt_printer_layout.specs.declared.piece.PrintPiece.{PrintPiece}
use Rattle.qvt_printer_layout.specs.declared.piece.PrintPiece.TheVariants.{Plain, Name, Integer, Quoted, Tight, Line, Indent, Dedent}
use Rattle.qvt_words.specs.Words.{spelling}
use Rattle.qvt_printer_layout.specs.Layout.{Sheet, laid, laid_out, blank_sheet, blank_before, name_text, integer_text, quoted, with_token}

-- what the pieces add to a sheet with this margin and this last token
abbrev pub tail : ℕ → Option Class → List PrintPiece → List ℕ
tail m l [] = []
tail m l (Plain c ∷ ps) = blank_before l c ++ (spelling c ++ tail m (Some c) ps)
tail m l (Name n ∷ ps) = blank_before l class.Name ++ (name_text n ++ tail m (Some class.Name) ps)
tail m l (Integer v ∷ ps) = blank_before l class.Integer ++ (integer_text v ++ tail m (Some class.Integer) ps)
tail m l (Quoted t ∷ ps) = blank_before l class.Str ++ (quoted t ++ tail m (Some class.Str) ps)
tail m l (Tight ∷ ps) = tail m None ps
tail m l (Line ∷ ps) = 10 ∷ (replicate m 32 ++ tail m None ps)
tail m l (Indent ∷ ps) = tail (m + 2) l ps
tail m l (Dedent ∷ ps) = tail (m - 2) l ps

three : (a b c d : List ℕ) → (a ++ (b ++ c)) ++ d ≡ a ++ (b ++ (c ++ d))
three a b c d = append_assoc a (b ++ c) d ∙ ap (λ z. a ++ z) (append_assoc b c d)

pub all_laid : (ps : List PrintPiece) (s : Sheet) → (fold laid s ps).text ≡ s.text ++ tail s.margin s.last ps
all_laid [] s = sym (append-nil s.text)
all_laid (Plain c ∷ ps) s = all_laid ps (with_token s c (spelling c)) ∙ three s.text (blank_before s.last c) (spelling c) (tail s.margin (Some c) ps)
all_laid (Name n ∷ ps) s = all_laid ps (with_token s class.Name (name_text n)) ∙ three s.text (blank_before s.last class.Name) (name_text n) (tail s.margin (Some class.Name) ps)
all_laid (Integer v ∷ ps) s = all_laid ps (with_token s class.Integer (integer_text v)) ∙ three s.text (blank_before s.last class.Integer) (integer_text v) (tail s.margin (Some class.Integer) ps)
all_laid (Quoted t ∷ ps) s = all_laid ps (with_token s class.Str (quoted t)) ∙ three s.text (blank_before s.last class.Str) (quoted t) (tail s.margin (Some class.Str) ps)
all_laid (Tight ∷ ps) s = all_laid ps (laid s Tight)
all_laid (Line ∷ ps) s = all_laid ps (laid s Line) ∙ append_assoc s.text (10 ∷ replicate s.margin 32) (tail s.margin None ps)
all_laid (Indent ∷ ps) s = all_laid ps (laid s Indent)
all_laid (Dedent ∷ ps) s = all_laid ps (laid s Dedent)

pub laid_out_is : (ps : List PrintPiece) → laid_out ps ≡ tail 0 None ps
unfolding laid_out
laid_out_is ps = all_laid ps blank_sheet
