-- The division of a text into blanks, comments and tokens, each the longest piece at the front of what is left, and the
-- tokens with their places.
use Rattle.std.specs.Prelude.{◌≡◌, ◌≢◌, ℕ, ◌+◌, ◌==◌, List, [], ◌∷◌, ◌++◌, if◌then◌else◌}
use Rattle.std.specs.Char.{len_utf8}
use Rattle.std.specs.Str.{encode_utf8_all}
use Rattle.qvt_base.specs.declared.numbers.Place.{Place}
use Rattle.qvt_lexer.specs.Pieces.{IsNext, NoPiece, IsLexFaultOf}
use Rattle.qvt_lexer.specs.declared.token.TokenKind.{TokenKind}
use Rattle.qvt_lexer.specs.declared.token.TokenKind.TheVariants.{End}
use Rattle.qvt_lexer.specs.declared.token.Token as code
use Rattle.qvt_lexer.specs.declared.token.LexFault.{LexFault}
use Rattle.qvt_lexer.specs.declared.scan.Piece.{Piece}
use Rattle.qvt_lexer.specs.declared.scan.Piece.TheVariants.{Blank, Comment, Token}

-- the place after one character: a line ends after a line feed, and a column is a character
abbrev pub moved : Place → ℕ → Place
moved p c =
    if c == 10 then record { line = p.line + 1; column = 1; offset = p.offset + len_utf8 c }
    else record { line = p.line; column = p.column + 1; offset = p.offset + len_utf8 c }

-- the place after these characters
abbrev pub place_after : Place → List ℕ → Place
place_after p [] = p
place_after p (c ∷ cs) = place_after (moved p c) cs

-- a place in a text with the characters that are left
pub record Position : Type 0 where
  pub place : Place
  pub rest : List ℕ

-- a piece with its characters
pub record Written : Type 0 where
  pub piece : Piece
  pub text : List ℕ

-- the text is these pieces, one after the other, and then rest
abbrev pub Divides : List ℕ → List Written → List ℕ → Type 0
Divides text [] rest = text ≡ rest
Divides text (p ∷ ps) rest = (s : List ℕ) × IsNext text p.piece p.text s × Divides s ps rest

-- a token with its place and the bytes of its text
pub record TokenData : Type 0 where
  pub kind : TokenKind
  pub place : Place
  pub text : List ℕ

abbrev pub token_of : Place → Written → List TokenData
token_of at p = elim p.piece [ Blank ↦ [] | Comment ↦ [] | Token kind ↦ record { kind = kind; place = at; text = encode_utf8_all p.text } ∷ [] ]

-- the tokens among the pieces, the first of which begins at the place
abbrev pub tokens_of : Place → List Written → List TokenData
tokens_of at [] = []
tokens_of at (p ∷ ps) = token_of at p ++ tokens_of (place_after at p.text) ps

-- the place after the pieces
abbrev pub past : Place → List Written → Place
past at [] = at
past at (p ∷ ps) = past (place_after at p.text) ps

-- between the two positions there are these tokens, and else blanks and comments alone
pub record ReadsTokens (from to : Position) (ts : List TokenData) : Type 0 where
  pub pieces : List Written
  pub divides : Divides from.rest pieces to.rest
  pub tokens : tokens_of from.place pieces ≡ ts
  pub place : past from.place pieces ≡ to.place

abbrev pub data_of : code.Token → TokenData
data_of t = record { kind = t.kind; place = t.place; text = t.text.now }

-- t is the next token after the first position, and ends at the second; where no token is left it is the end
pub record IsNextToken (from : Position) (t : code.Token) (to : Position) : Type 0 where
  pub token : t.kind ≢ End → ReadsTokens from to (data_of t ∷ [])
  pub nothing : t.kind ≡ End → ReadsTokens from to [] × (to.rest ≡ []) × (t.place ≡ to.place) × (t.text.now ≡ [])

-- after blanks and comments no piece begins, though characters are left, and f is the fault there
pub record IsFaulty (from : Position) (f : LexFault) : Type 0 where
  pub at : Position
  pub reads : ReadsTokens from at []
  pub more : at.rest ≢ []
  pub none : NoPiece at.rest
  pub before : List ℕ
  pub left : List ℕ
  pub cut : at.rest ≡ before ++ left
  pub fault : IsLexFaultOf at.rest f.kind left
  pub place : f.place ≡ place_after at.place before

abbrev pub first_place : Place
first_place = record { line = 1; column = 1; offset = 0 }

-- a U+FEFF at the very front is a blank
abbrev pub start_at : List ℕ → Position
start_at [] = record { place = first_place; rest = [] }
start_at (c ∷ cs) = if c == 65279 then record { place = moved first_place c; rest = cs } else record { place = first_place; rest = c ∷ cs }
