-- What a lexer holds.
use Rattle.std.specs.Prelude.{◌≡◌, ℕ, List, ◌+◌, length, drop}
use Rattle.std.specs.Str.{chars}
use Rattle.qvt_base.specs.declared.numbers.Place.{Place}
use Rattle.qvt_lexer.specs.Division.{Position, start_at}
use Rattle.qvt_lexer.specs.Rooms.{HasPlaceRoom}
use Rattle.qvt_lexer.specs.declared.lexer.Lexer.TheInside.{Inside}

-- the bytes of the whole text, and where the lexer stands
pub record LexerState : Type 0 where
  pub source : List ℕ
  pub at : Position

abbrev pub start : List ℕ → LexerState
start text = record { source = text; at = start_at (chars text) }

abbrev pub seen : Inside → LexerState
seen l = record { source = l.source.now; at = record { place = l.place; rest = chars l.rest.now } }

-- the place has the offset of what is left, and its numbers fit
abbrev pub IsInText : Inside → Type 0
IsInText l = (drop l.place.offset l.source.now ≡ l.rest.now) × (l.place.offset + length l.rest.now ≡ length l.source.now) × HasPlaceRoom l.place l.rest.now

abbrev pub standing_at : List ℕ → Place → List ℕ → LexerState
standing_at source place rest = record { source = source; at = record { place = place; rest = chars rest } }
