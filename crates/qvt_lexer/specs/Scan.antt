-- The next piece of a text, as a function of its characters.
use Rattle.std.specs.Prelude.{ℕ, zero, suc, Bool, ◌&&◌, ◌==◌, nat_le, List, [], ◌∷◌, length, drop, Option, Some, None, Result, Ok, Err, if◌then◌else◌}
use Rattle.std.specs.Str.{encode_utf8_all}
use Rattle.qvt_lexer.specs.Characters.{is_blank, is_start, is_continue, is_digit, is_quote, is_in_line, is_line_comment, is_block_comment}
use Rattle.qvt_words.specs.Words.{is_single_sign, is_double_sign, is_reserved}
use Rattle.qvt_lexer.specs.Pieces.{IsNext, NoPiece, IsLexFaultOf}
use Rattle.qvt_lexer.specs.Literals.{run, skip, begins, number_of, greatest_number, after_close, item_at}
use Rattle.qvt_lexer.specs.declared.token.TokenKind.{TokenKind}
use Rattle.qvt_lexer.specs.declared.token.TokenKind.TheVariants.{Name, Integer, Str, Word, Symbol}
use Rattle.qvt_lexer.specs.declared.token.LexKind.{LexKind}
use Rattle.qvt_lexer.specs.declared.token.LexKind.TheVariants.{BadChar, OpenText, OpenComment, BadEscape, NumberTooLarge}
use Rattle.qvt_lexer.specs.declared.scan.Piece.{Piece}
use Rattle.qvt_lexer.specs.declared.scan.Piece.TheVariants.{Blank, Comment, Token}

-- a piece with what is left after it, or a fault with what is left from its place on
abbrev pub Scan : Type 0
Scan = Result (Piece × List ℕ) (LexKind × List ℕ)

abbrev pub word_kind : List ℕ → TokenKind
word_kind u = if is_reserved (encode_utf8_all u) then Word else Name

abbrev pub word_at : ℕ → List ℕ → Scan
word_at c cs = Ok (Token (word_kind (c ∷ run is_continue cs)), skip is_continue cs)

abbrev pub is_apostrophe : ℕ → Bool
is_apostrophe c = c == 39

-- the end of an escaped name
abbrev pub closed_at : List ℕ → List ℕ → Scan
closed_at text [] = Err (BadEscape, text)
closed_at text (c ∷ cs) = if c == 39 then Ok (Token Name, cs) else Err (BadEscape, text)

-- an escaped name, by what comes after `_'`
abbrev pub escaped_at : List ℕ → List ℕ → Scan
escaped_at text [] = Err (BadEscape, text)
escaped_at text (c ∷ cs) = if is_start c then closed_at text (skip is_continue cs) else Err (BadEscape, text)

abbrev pub number_at : List ℕ → Scan
number_at text =
    if nat_le (number_of (run is_digit text)) greatest_number then Ok (Token Integer, skip is_digit text) else Err (NumberTooLarge, text)

-- what is left after a `/` where c is `*`
abbrev pub closes_at : ℕ → List ℕ → Option (List ℕ)
closes_at c [] = None
closes_at c (d ∷ cs) = if c == 42 && d == 47 then Some cs else None

-- what is left after n items at most
abbrev pub items_end : ℕ → ℕ → List ℕ → List ℕ
items_end zero q cs = cs
items_end (suc n) q cs = elim (item_at q cs) [ None ↦ cs | Some x ↦ items_end n q x.1 ]

abbrev pub content_end : ℕ → List ℕ → List ℕ
content_end q cs = items_end (length cs) q cs

-- the end of a string
abbrev pub quoted_at : List ℕ → ℕ → List ℕ → Scan
quoted_at text q [] = Err (OpenText, text)
quoted_at text q (c ∷ cs) = if c == q then Ok (Token Str, cs) else if c == 92 then Err (BadEscape, c ∷ cs) else Err (OpenText, text)

abbrev pub string_at : ℕ → List ℕ → Scan
string_at q cs = quoted_at (q ∷ cs) q (content_end q cs)

abbrev pub block_at : List ℕ → Option (List ℕ) → Scan
block_at text None = Err (OpenComment, text)
block_at text (Some r) = Ok (Comment, r)

abbrev pub single_at : ℕ → List ℕ → Scan
single_at c cs = if is_single_sign c then Ok (Token Symbol, cs) else Err (BadChar, c ∷ cs)

-- a symbol or a comment
abbrev pub mark_at : ℕ → List ℕ → Scan
mark_at c [] = single_at c []
mark_at c (d ∷ cs) =
    if is_double_sign c d then Ok (Token Symbol, cs)
    else if is_line_comment c d then Ok (Comment, skip is_in_line cs)
    else if is_block_comment c d then block_at (c ∷ d ∷ cs) (after_close cs)
    else single_at c (d ∷ cs)

-- the text has a character c at its front
unfoldable pub scan_at : ℕ → List ℕ → Scan
scan_at c cs =
    if is_blank c then Ok (Blank, cs)
    else if c == 95 && begins is_apostrophe cs then escaped_at (c ∷ cs) (drop 1 cs)
    else if is_start c then word_at c cs
    else if is_digit c then number_at (c ∷ cs)
    else if is_quote c then string_at c cs
    else mark_at c cs

-- the scan is right: it gives the next piece, or the fault where no piece begins
abbrev pub IsScanOf : List ℕ → Scan → Type 0
IsScanOf text (Ok (p, r)) = (u : List ℕ) × IsNext text p u r
IsScanOf text (Err (k, r)) = NoPiece text × IsLexFaultOf text k r
