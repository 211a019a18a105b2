-- Readers of tokens, and places.
use Rattle.std.specs.Prelude.{List}
use Rattle.qvt_base.specs.declared.numbers.Place.{Place}
use Rattle.qvt_grammar.specs.Language.{Language, token, marked}
use Rattle.qvt_grammar.specs.Reader.{Answer, token_at, marked_at}
use Rattle.qvt_language.specs.Tokens.{Tok, is}
use Rattle.qvt_words.specs.declared.class.Class.{Class}

abbrev pub Reader : Type 0 → Type 0
Reader A = List Tok → Answer Tok A

abbrev pub nowhere : Place
nowhere = record { line = 0; column = 0; offset = 0 }

abbrev pub the : Class → Language Tok Tok
the c = token (is c)

abbrev pub the_at : Class → Reader Tok
the_at c = token_at (is c)

-- with the place of the first token
abbrev pub placed : {A : Type 0} → Language Tok A → Language Tok (Place × A)
placed = marked (λ t. t.place) nowhere

abbrev pub placed_at : {A : Type 0} → Reader A → Reader (Place × A)
placed_at = marked_at (λ t. t.place) nowhere
