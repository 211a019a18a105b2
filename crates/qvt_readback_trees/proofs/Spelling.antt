-- What the pieces of a printed text are spelled as.
use Rattle.std.proofs.Common.{◌≡◌, List, [], ◌∷◌, ◌++◌, refl, sym, ap, ◌∙◌, pos, ℕ}
use Rattle.std.proofs.lemmas.Grind.{flat_map-append}
use Rattle.qvt_grammar.specs.Language.{head_of}
use Rattle.qvt_language.specs.Tokens.{Tok}
use Rattle.qvt_language.specs.Readers.{nowhere}
use Rattle.qvt_language.specs.declared.class.Class.{Class}
use Rattle.qvt_language.specs.declared.class.Class.TheVariants as class
use Rattle.qvt_printer_layout.specs.declared.piece.PrintPiece.{PrintPiece}
use Rattle.qvt_printer_layout.specs.declared.piece.PrintPiece.TheVariants.{Plain, Name, Integer, Quoted, Tight, Line, Indent, Dedent}
use Rattle.qvt_printer.specs.Expressions.{one, in_block, in_items}
use Rattle.qvt_readback_tokens.specs.Spelled.{spelled, all_spelled}

-- the token of a word or a sign, and of a name
abbrev pub plain : Class → Tok
plain c = record { class = c; text = []; number = pos 0; place = nowhere }

abbrev pub plain_name : List ℕ → Tok
plain_name n = record { class = class.Name; text = n; number = pos 0; place = nowhere }

pub spelled_append : (ps qs : List PrintPiece) → all_spelled (ps ++ qs) ≡ all_spelled ps ++ all_spelled qs
spelled_append ps qs = flat_map-append spelled ps qs

-- no token has a place
pub spelled_head : (ps : List PrintPiece) → head_of (λ (t : Tok). t.place) nowhere (all_spelled ps) ≡ nowhere
spelled_head [] = refl
spelled_head (Plain c ∷ ps) = refl
spelled_head (Name n ∷ ps) = refl
spelled_head (Integer v ∷ ps) = refl
spelled_head (Quoted t ∷ ps) = refl
spelled_head (Tight ∷ ps) = spelled_head ps
spelled_head (Line ∷ ps) = spelled_head ps
spelled_head (Indent ∷ ps) = spelled_head ps
spelled_head (Dedent ∷ ps) = spelled_head ps

-- what only moves the line stands for nothing
pub block_spelled : (ps : List PrintPiece) → all_spelled (in_block ps) ≡ all_spelled (Plain class.OpenBrace ∷ (ps ++ one class.CloseBrace))
block_spelled ps = ap (λ ts. plain class.OpenBrace ∷ ts) (spelled_append ps (Dedent ∷ Line ∷ Plain class.CloseBrace ∷ []) ∙ sym (spelled_append ps (one class.CloseBrace)))

pub items_spelled : (ps : List PrintPiece) → all_spelled (in_items ps) ≡ all_spelled (Plain class.OpenBrace ∷ (ps ++ one class.CloseBrace))
items_spelled ps = ap (λ ts. plain class.OpenBrace ∷ ts) (spelled_append ps (Tight ∷ Plain class.CloseBrace ∷ []) ∙ sym (spelled_append ps (one class.CloseBrace)))

pub rest_spelled : (ps qs rs : List PrintPiece) → all_spelled qs ≡ all_spelled rs → all_spelled (ps ++ qs) ≡ all_spelled (ps ++ rs)
rest_spelled ps qs rs e = spelled_append ps qs ∙ ap (λ ts. all_spelled ps ++ ts) e ∙ sym (spelled_append ps rs)
