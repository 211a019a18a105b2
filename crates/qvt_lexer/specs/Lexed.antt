-- The tokens of a text as a function of it: one piece after the other, each the longest at its place.
use Rattle.std.specs.Prelude.{◌≡◌, ℕ, zero, suc, ◌-◌, List, [], ◌∷◌, ◌++◌, length, take, Result, Ok, Err}
use Rattle.std.specs.Str.{chars}
use Rattle.qvt_base.specs.declared.numbers.Place.{Place}
use Rattle.qvt_lexer.specs.Division.{Position, TokenData, token_of, place_after, ReadsTokens, IsFaulty, start_at}
use Rattle.qvt_lexer.specs.Scan.{Scan, scan_at}
use Rattle.qvt_lexer.specs.declared.token.LexFault.{LexFault}

-- all tokens, with the place after the text, or the fault
abbrev pub Lexed : Type 0
Lexed = Result (List TokenData × Place) LexFault

-- what stands in the text before its rest
abbrev pub front_of : List ℕ → List ℕ → List ℕ
front_of text rest = take (length text - length rest) text

abbrev pub written_at : Position → List ℕ → List ℕ
written_at at rest = front_of at.rest rest

-- the next piece, and then more, or the fault
abbrev pub by_scan : (List TokenData → Position → Lexed) → List TokenData → Position → Scan → Lexed
by_scan more ts at (Ok (piece, rest)) = more
    (ts ++ token_of at.place (record { piece = piece; text = written_at at rest }))
    (record { place = place_after at.place (written_at at rest); rest = rest })
by_scan more ts at (Err (kind, left)) = Err (record { kind = kind; place = place_after at.place (written_at at left) })

abbrev pub going_on : (List TokenData → Position → Lexed) → List TokenData → Position → List ℕ → Lexed
going_on more ts at [] = Ok (ts, at.place)
going_on more ts at (c ∷ cs) = by_scan more ts at (scan_at c cs)

-- the tokens before a position, and at most n pieces after it
unfoldable pub lexed_from : ℕ → List TokenData → Position → Lexed
lexed_from zero ts at = Ok (ts, at.place)
lexed_from (suc n) ts at = going_on (lexed_from n) ts at at.rest

unfoldable pub lexed : List ℕ → Lexed
lexed text = lexed_from (length (chars text)) [] (start_at (chars text))

-- the tokens up to the end of the text, or those before the fault
abbrev pub LexesFrom : Position → Lexed → Type 0
LexesFrom from (Ok (ts, end)) = (last : Position) × ReadsTokens from last ts × (last.rest ≡ []) × (last.place ≡ end)
LexesFrom from (Err fault) = (ts : List TokenData) × (last : Position) × ReadsTokens from last ts × IsFaulty last fault

-- every text is lexed: it has tokens to its end, or a fault
abbrev pub EveryTextIsLexed : Type 0
EveryTextIsLexed = (text : List ℕ) → LexesFrom (start_at (chars text)) (lexed text)
