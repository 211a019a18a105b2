-- A cursor of the code as a position.
use Rattle.std.specs.Prelude.{◌≡◌, ℕ, List, ◌++◌, ◌+◌, length}
use Rattle.std.specs.Str.{chars}
use Rattle.qvt_lexer.specs.Division.{Position}
use Rattle.qvt_lexer.specs.declared.cursor.Cursor.{Cursor}
use Rattle.qvt_lexer.specs.declared.token.Token.{Token}

abbrev pub position_of : Cursor → Position
position_of c = record { place = c.place; rest = chars c.rest.now }

-- in the text from the first cursor on the token's text stands at its place, and the second cursor after it
pub record Spans (from : Cursor) (t : Token) (to : Cursor) : Type 0 where
  pub before : List ℕ
  pub cut : from.rest.now ≡ before ++ (t.text.now ++ to.rest.now)
  pub offset : from.place.offset + length before ≡ t.place.offset
  pub after : t.place.offset + length t.text.now ≡ to.place.offset
