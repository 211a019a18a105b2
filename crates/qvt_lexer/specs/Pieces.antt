-- The pieces of a text: blanks, comments and tokens.
use Rattle.std.specs.Prelude.{◌≡◌, ℕ, ◌≤◌, true, false, IsTrue, List, [], ◌∷◌, ◌++◌, length, Some, None, ◌⊎◌}
use Rattle.std.specs.Str.{encode_utf8_all}
use Rattle.qvt_lexer.specs.Characters.{is_blank, is_start, is_continue, is_digit, is_quote, is_in_line, is_line_comment}
use Rattle.qvt_words.specs.Words.{is_single_sign, is_double_sign, is_reserved}
use Rattle.qvt_lexer.specs.Literals.{every, begins, number_of, greatest_number, after_close, item_at, Content}
use Rattle.qvt_lexer.specs.declared.token.TokenKind.TheVariants.{Name, Integer, Str, Word, Symbol, End}
use Rattle.qvt_lexer.specs.declared.token.LexKind.{LexKind}
use Rattle.qvt_lexer.specs.declared.token.LexKind.TheVariants.{BadChar, OpenText, OpenComment, BadEscape, NumberTooLarge}
use Rattle.qvt_lexer.specs.declared.scan.Piece.{Piece}
use Rattle.qvt_lexer.specs.declared.scan.Piece.TheVariants.{Blank, Comment, Token}

-- a name as it is written, or a reserved word
abbrev pub IsPlainName : List ℕ → Type 0
IsPlainName u = (c : ℕ) × (w : List ℕ) × (u ≡ c ∷ w) × IsTrue (is_start c) × IsTrue (every is_continue w)

-- a name between `_'` and `'`
abbrev pub IsEscapedName : List ℕ → Type 0
IsEscapedName u = (v : List ℕ) × (u ≡ 95 ∷ 39 ∷ (v ++ 39 ∷ [])) × IsPlainName v

-- `--` or `//`, and then characters of the same line
abbrev pub IsLineComment : List ℕ → Type 0
IsLineComment u = (c : ℕ) × (d : ℕ) × (w : List ℕ) × (u ≡ c ∷ d ∷ w) × IsTrue (is_line_comment c d) × IsTrue (every is_in_line w)

-- `/*`, and then all up to the first `*/`
abbrev pub IsBlockComment : List ℕ → Type 0
IsBlockComment u = (w : List ℕ) × (u ≡ 47 ∷ 42 ∷ w) × (after_close w ≡ Some [])

abbrev pub IsDigits : List ℕ → Type 0
IsDigits u = (c : ℕ) × (w : List ℕ) × (u ≡ c ∷ w) × IsTrue (is_digit c) × IsTrue (every is_digit w)

-- characters between two quotes of one kind
abbrev pub IsString : List ℕ → Type 0
IsString u = (q : ℕ) × (w : List ℕ) × (vs : List ℕ) × (u ≡ q ∷ w) × IsTrue (is_quote q) × Content q w vs (q ∷ [])

abbrev pub IsSymbol : List ℕ → Type 0
IsSymbol u = ((c : ℕ) × (u ≡ c ∷ []) × IsTrue (is_single_sign c)) ⊎ ((c : ℕ) × (d : ℕ) × (u ≡ c ∷ d ∷ []) × IsTrue (is_double_sign c d))

-- how the characters of a piece are written
abbrev pub Spells : Piece → List ℕ → Type 0
Spells Blank u = (c : ℕ) × (u ≡ c ∷ []) × IsTrue (is_blank c)
Spells Comment u = IsLineComment u ⊎ IsBlockComment u
Spells (Token Name) u = (IsPlainName u × (is_reserved (encode_utf8_all u) ≡ false)) ⊎ IsEscapedName u
Spells (Token Word) u = IsPlainName u × (is_reserved (encode_utf8_all u) ≡ true)
Spells (Token Integer) u = IsDigits u × (number_of u ≤ greatest_number)
Spells (Token Str) u = IsString u
Spells (Token Symbol) u = IsSymbol u
Spells (Token End) u = ⊥

-- u is a piece at the front of the text. A run of digits is not cut, and where the text begins with `_'` the piece is the
-- escaped name alone
pub record IsPiece (text : List ℕ) (p : Piece) (u rest : List ℕ) : Type 0 where
  pub cut : text ≡ u ++ rest
  pub spells : Spells p u
  pub uncut : p ≡ Token Integer → begins is_digit rest ≡ false
  pub alone : (w : List ℕ) → text ≡ 95 ∷ 39 ∷ w → (v : List ℕ) × (u ≡ 95 ∷ 39 ∷ v)

-- the longest piece at the front of the text
pub record IsNext (text : List ℕ) (p : Piece) (u rest : List ℕ) : Type 0 where
  pub piece : IsPiece text p u rest
  pub longest : (q : Piece) (v s : List ℕ) → IsPiece text q v s → length v ≤ length u

-- no piece begins
abbrev pub NoPiece : List ℕ → Type 0
NoPiece text = (p : Piece) (u rest : List ℕ) → IsPiece text p u rest → ⊥

-- the line or the text ends
abbrev pub EndsLine : List ℕ → Type 0
EndsLine [] = Unit {0}
EndsLine (c ∷ cs) = c ≡ 10

-- the quote that opens at the front of the text is followed by whole characters, and then by r, where no character begins
abbrev pub OpensText : List ℕ → List ℕ → Type 0
OpensText text r = (q : ℕ) × (w : List ℕ) × (vs : List ℕ) × (text ≡ q ∷ w) × IsTrue (is_quote q) × Content q w vs r × (item_at q r ≡ None)

abbrev pub OpensEscape : List ℕ → Type 0
OpensEscape text = (w : List ℕ) × (text ≡ 95 ∷ 39 ∷ w)

abbrev pub OpensComment : List ℕ → Type 0
OpensComment text = (w : List ℕ) × (text ≡ 47 ∷ 42 ∷ w)

-- the fault of a text at the front of which no piece begins, with what is left from its place on
abbrev pub IsLexFaultOf : List ℕ → LexKind → List ℕ → Type 0
IsLexFaultOf text OpenText r = (r ≡ text) × (s : List ℕ) × OpensText text s × EndsLine s
IsLexFaultOf text BadEscape r = (OpensText text r × ((s : List ℕ) × (r ≡ 92 ∷ s))) ⊎ ((r ≡ text) × OpensEscape text)
IsLexFaultOf text OpenComment r = (r ≡ text) × OpensComment text
IsLexFaultOf text NumberTooLarge r = (r ≡ text) × (begins is_digit text ≡ true)
IsLexFaultOf text BadChar r = (r ≡ text) × (begins is_quote text ≡ false) × (begins is_digit text ≡ false) × (OpensEscape text → ⊥) × (OpensComment text → ⊥)
