-- The places of the tokens of a text do not fall, and none is past the end.
use Rattle.std.proofs.Common.{◌≡◌, ℕ, ◌+◌, ◌≤◌, List, [], ◌∷◌, ◌++◌, map, Bool, true, false, cond, ◌==◌, ap, ◌∙◌, subst, arith}
use Rattle.std.specs.Char.{len_utf8}
use Rattle.std.specs.Str.{chars}
use Rattle.qvt_base.specs.declared.numbers.Place.{Place}
use Rattle.qvt_lexer.specs.Division.{Written, TokenData, token_of, tokens_of, place_after, past, moved, start_at}
use Rattle.qvt_lexer.specs.declared.scan.Piece.{Piece}
use Rattle.qvt_lexer.specs.declared.scan.Piece.TheVariants.{Blank, Comment, Token}
use Rattle.qvt_language.specs.Tokens.{Tok}
use Rattle.qvt_parser_tokens.specs.Said.{said}
use Rattle.qvt_parser_tokens.specs.Text.{HasTokens}
use Rattle.qvt_parser_nodes.specs.Law.{NoneBefore, DoNotFall}

abbrev pub spots : List Tok → List Place
spots = map (λ t. t.place)

moved_at : (p : Place) (c : ℕ) (b : Bool) → p.offset ≤ Place.offset (cond b (record { line = p.line + 1; column = 1; offset = p.offset + len_utf8 c }) (record { line = p.line; column = p.column + 1; offset = p.offset + len_utf8 c }))
moved_at p c true = omega arith
moved_at p c false = omega arith

after_le : (p : Place) (cs : List ℕ) → p.offset ≤ Place.offset (place_after p cs)
after_le p [] = omega arith
after_le p (c ∷ cs) = omega (arith, moved_at p c (c == 10), after_le (moved p c) cs)

before_lower : (a b : Place) → a.offset ≤ b.offset → (ps : List Place) → NoneBefore b ps → NoneBefore a ps
before_lower a b le [] h = tt
before_lower a b le (p ∷ ps) h = (omega (arith, le, h.0), before_lower a b le ps h.1)

-- the places of these tokens, and then the end
abbrev Rises : Place → List TokenData → Place → Type 0
Rises at ds end = DoNotFall (spots (map said ds) ++ end ∷ []) × NoneBefore at (spots (map said ds) ++ end ∷ [])

step : (at : Place) (piece : Piece) (u : List ℕ) (ds : List TokenData) (end : Place) → Rises (place_after at u) ds end → Rises at (token_of at (record { piece = piece; text = u }) ++ ds) end
step at Blank u ds end h = (h.0, before_lower at (place_after at u) (after_le at u) (spots (map said ds) ++ end ∷ []) h.1)
step at Comment u ds end h = (h.0, before_lower at (place_after at u) (after_le at u) (spots (map said ds) ++ end ∷ []) h.1)
step at (Token kind) u ds end h =
    let none = before_lower at (place_after at u) (after_le at u) (spots (map said ds) ++ end ∷ []) h.1 in
    ((none, h.0), (omega arith, none))

rises : (at : Place) (ps : List Written) → Rises at (tokens_of at ps) (past at ps)
rises at [] = ((tt, tt), (omega arith, tt))
rises at (p ∷ ps) = step at p.piece p.text (tokens_of (place_after at p.text) ps) (past (place_after at p.text) ps) (rises (place_after at p.text) ps)

pub tokens_rise : (text : List ℕ) (ts : List Tok) (end : Place) → HasTokens text ts end → DoNotFall (spots ts ++ end ∷ [])
tokens_rise text ts end has =
    let from = (start_at (chars text)).place in
    let all = (rises from has.reads.pieces).0 in
    let tokens : map said (tokens_of from has.reads.pieces) ≡ ts = ap (map said) has.reads.tokens ∙ has.are in
    let last : past from has.reads.pieces ≡ end = has.reads.place ∙ has.place in
    subst (λ z. DoNotFall (spots ts ++ z ∷ [])) last (subst (λ z. DoNotFall (spots z ++ past from has.reads.pieces ∷ [])) tokens all)
