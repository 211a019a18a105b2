-- A text has one list of tokens, or one fault.
use Rattle.std.proofs.Common.{◌≡◌, ℕ, ◌<◌, ◌≤◌, List, [], ◌∷◌, ◌++◌, length, ◌&&◌, true, refl, sym, ap, ◌∙◌, subst, arith, append_assoc, length-append, map}
use Rattle.std.specs.Str.{chars, encode_utf8_all}
use Rattle.std.proofs.lemmas.List.{append_cancel_right}
use Rattle.qvt_base.specs.declared.numbers.Place.{Place}
use Rattle.qvt_lexer.specs.Characters.{is_digit}
use Rattle.qvt_lexer.specs.Literals.{every, number_of, greatest_number}
use Rattle.qvt_lexer.specs.Pieces.{Spells, NoPiece, IsLexFaultOf}
use Rattle.qvt_lexer.specs.Division.{Position, Written, Divides, TokenData, token_of, tokens_of, place_after, past, ReadsTokens, IsNextToken, data_of, start_at}
use Rattle.qvt_lexer.specs.declared.token.Token as code
use Rattle.qvt_lexer.specs.declared.token.LexFault.{LexFault}
use Rattle.qvt_lexer.specs.declared.token.TokenKind.TheVariants.{Integer, End}
use Rattle.qvt_lexer.specs.declared.scan.Piece.{Piece}
use Rattle.qvt_lexer.specs.declared.scan.Piece.TheVariants.{Blank, Comment, Token}
use Rattle.qvt_lexer.proofs.Steps.{spells_some}
use Rattle.qvt_lexer.proofs.Unique.{one_division, one_fault}
use Rattle.qvt_language.specs.Tokens.{Tok}
use Rattle.qvt_parser_tokens.specs.Said.{said}
use Rattle.qvt_parser_tokens.specs.Text.{HasTokens, HasLexFault, OneLexing}
use Rattle.qvt_parser_tokens.specs.Whole.{IsNumeral}
use Rattle.qvt_parser_tokens.proofs.Numerals.{digits_are}

-- some pieces, and then more
divides_then : (ps qs : List Written) (text s r : List ℕ) → Divides text ps s → Divides s qs r → Divides text (ps ++ qs) r
divides_then [] qs text s r e k = subst (λ z. Divides z qs r) (sym e) k
divides_then (p ∷ ps) qs text s r (t, n, d) k = (t, n, divides_then ps qs t s r d k)

tokens_then : (ps qs : List Written) (at : Place) → tokens_of at (ps ++ qs) ≡ tokens_of at ps ++ tokens_of (past at ps) qs
tokens_then [] qs at = refl
tokens_then (p ∷ ps) qs at = ap (λ z. token_of at p ++ z) (tokens_then ps qs (place_after at p.text)) ∙ sym (append_assoc (token_of at p) (tokens_of (place_after at p.text) ps) (tokens_of (past (place_after at p.text) ps) qs))

past_then : (ps qs : List Written) (at : Place) → past at (ps ++ qs) ≡ past (past at ps) qs
past_then [] qs at = refl
past_then (p ∷ ps) qs at = past_then ps qs (place_after at p.text)

pub reads_then : (from to next : Position) (ts us : List TokenData) → ReadsTokens from to ts → ReadsTokens to next us → ReadsTokens from next (ts ++ us)
reads_then from to next ts us k j = record {
  pieces = k.pieces ++ j.pieces;
  divides = divides_then k.pieces j.pieces from.rest to.rest next.rest k.divides j.divides;
  tokens = tokens_then k.pieces j.pieces from.place ∙ (λ i. k.tokens i ++ tokens_of (k.place i) j.pieces) ∙ ap (λ z. ts ++ z) j.tokens;
  place = past_then k.pieces j.pieces from.place ∙ ap (λ z. past z j.pieces) k.place ∙ j.place;
}

-- fewer characters are left after pieces of which one is a token
no_more : (ps : List Written) (text rest : List ℕ) → Divides text ps rest → length rest ≤ length text
no_more [] text rest e = omega (arith, ap length e)
no_more (p ∷ ps) text rest (t, n, d) = let k = no_more ps t rest d in omega (arith, ap length n.piece.cut, length-append p.text t)

fewer_left : (ps : List Written) (text rest : List ℕ) (at : Place) (d : TokenData) (ds : List TokenData) → Divides text ps rest → tokens_of at ps ≡ d ∷ ds → length rest < length text
fewer_left [] text rest at d ds e h = absurd cc
fewer_left (p ∷ ps) text rest at d ds (t, n, k) h = let some = spells_some p.piece p.text n.piece.spells in let le = no_more ps t rest k in omega (arith, ap length n.piece.cut, length-append p.text t)

pub token_shorter : (from to : Position) (d : TokenData) → ReadsTokens from to (d ∷ []) → length to.rest < length from.rest
token_shorter from to d k = fewer_left k.pieces from.rest to.rest from.place d [] k.divides k.tokens

-- a token is spelled as its kind is
record Spelled (d : TokenData) : Type 0 where
  text : List ℕ
  bytes : d.text ≡ encode_utf8_all text
  spells : Spells (Token d.kind) text

spelled_by : (at : Place) (q : Piece) (u : List ℕ) (d : TokenData) (ds more : List TokenData) → Spells q u → token_of at (record { piece = q; text = u }) ++ more ≡ d ∷ ds → (more ≡ d ∷ ds → Spelled d) → Spelled d
spelled_by at Blank u d ds more k h ih = ih h
spelled_by at Comment u d ds more k h ih = ih h
spelled_by at (Token kind) u d ds more k h ih =
    let same : ◌≡◌ {A = TokenData} (record { kind = kind; place = at; text = encode_utf8_all u }) d = cc in
    record { text = u; bytes = sym (λ i. (same i).text); spells = subst (λ z. Spells (Token z) u) (λ i. (same i).kind) k }

spelled_in : (ps : List Written) (text rest : List ℕ) (at : Place) (d : TokenData) (ds : List TokenData) → Divides text ps rest → tokens_of at ps ≡ d ∷ ds → Spelled d
spelled_in [] text rest at d ds e h = absurd cc
spelled_in (p ∷ ps) text rest at d ds (t, n, k) h =
    spelled_by at p.piece p.text d ds (tokens_of (place_after at p.text) ps) n.piece.spells h (spelled_in ps t rest (place_after at p.text) d ds k)

number_is : (text u : List ℕ) → text ≡ encode_utf8_all u → Spells (Token Integer) u → IsNumeral text
number_is text u e ((c, cs, f, h, g), small) =
    let all : every is_digit u ≡ true = ap (every is_digit) f ∙ (λ i. h i && g i) in
    let same = digits_are text u e all in
    record { digits = ap (every is_digit) same ∙ all; small = subst (λ z. number_of z ≤ greatest_number) (sym same) small }

pub integer_is : (from : Position) (t : code.Token) (to : Position) → IsNextToken from t to → t.kind ≡ Integer → IsNumeral t.text.now
integer_is from t to k e =
    let reads = k.token (λ h. absurd (let z : Integer ≡ End = sym e ∙ h in cc)) in
    let found = spelled_in reads.pieces from.rest to.rest from.place (data_of t) [] reads.divides reads.tokens in
    number_is t.text.now found.text found.bytes (subst (λ z. Spells (Token z) found.text) e found.spells)

-- where nothing is left no piece begins
nothing_begins : NoPiece []
nothing_begins p u rest k = let some = spells_some p u k.spells in omega (arith, ap length k.cut, length-append u rest)

none_at_end : (rest : List ℕ) → rest ≡ [] → NoPiece rest
none_at_end rest e = subst NoPiece (sym e) nothing_begins

record Same (from a b : Position) (ts us : List TokenData) : Type 0 where
  tokens : ts ≡ us
  place : a.place ≡ b.place
  rest : a.rest ≡ b.rest

same_reads : (from a b : Position) (ts us : List TokenData) → ReadsTokens from a ts → NoPiece a.rest → ReadsTokens from b us → NoPiece b.rest → Same from a b ts us
same_reads from a b ts us k h j g =
    let one = one_division from.rest k.pieces j.pieces a.rest b.rest k.divides h j.divides g in
    record {
      tokens = sym k.tokens ∙ ap (tokens_of from.place) one.0 ∙ j.tokens;
      place = sym k.place ∙ ap (past from.place) one.0 ∙ j.place;
      rest = one.1;
    }

pub all_tokens : (text : List ℕ) (a b : Position) (ts us : List TokenData) → ReadsTokens (start_at (chars text)) a ts → a.rest ≡ [] → ReadsTokens (start_at (chars text)) b us → b.rest ≡ [] → ts ≡ us
all_tokens text a b ts us k h j g = (same_reads (start_at (chars text)) a b ts us k (none_at_end a.rest h) j (none_at_end b.rest g)).tokens

one_tokens : (text : List ℕ) (ts us : List Tok) (p q : Place) → HasTokens text ts p → HasTokens text us q → (ts ≡ us) × (p ≡ q)
one_tokens text ts us p q k j =
    let same = same_reads (start_at (chars text)) k.last j.last k.tokens j.tokens k.reads (none_at_end k.last.rest k.nothing) j.reads (none_at_end j.last.rest j.nothing) in
    (sym k.are ∙ ap (map said) same.tokens ∙ j.are, sym k.place ∙ same.place ∙ j.place)

no_fault : (text : List ℕ) (ts : List Tok) (p : Place) (f : LexFault) → HasTokens text ts p → HasLexFault text f → ⊥
no_fault text ts p f k j =
    let start = start_at (chars text) in
    let whole = reads_then start j.last j.faulty.at j.tokens [] j.reads j.faulty.reads in
    let same = same_reads start k.last j.faulty.at k.tokens (j.tokens ++ []) k.reads (none_at_end k.last.rest k.nothing) whole j.faulty.none in
    j.faulty.more (sym same.rest ∙ k.nothing)

fault_same : (at to : Position) (f g : LexFault) (b c l m : List ℕ) → at.place ≡ to.place → at.rest ≡ to.rest → at.rest ≡ b ++ l → to.rest ≡ c ++ m → IsLexFaultOf at.rest f.kind l → IsLexFaultOf to.rest g.kind m
    → f.place ≡ place_after at.place b → g.place ≡ place_after to.place c → f ≡ g
fault_same at to f g b c l m p r e d h k x y =
    let one = one_fault to.rest f.kind g.kind l m (subst (λ z. IsLexFaultOf z f.kind l) r h) k in
    let before : b ≡ c = append_cancel_right b c m (ap (λ z. b ++ z) (sym one.1) ∙ sym e ∙ r ∙ d) in
    let place : f.place ≡ g.place = x ∙ (λ i. place_after (p i) (before i)) ∙ sym y in
    (λ i. record { kind = one.0 i; place = place i })

same_fault : (text : List ℕ) (f g : LexFault) → HasLexFault text f → HasLexFault text g → f ≡ g
same_fault text f g k j =
    let start = start_at (chars text) in
    let a = reads_then start k.last k.faulty.at k.tokens [] k.reads k.faulty.reads in
    let b = reads_then start j.last j.faulty.at j.tokens [] j.reads j.faulty.reads in
    let same = same_reads start k.faulty.at j.faulty.at (k.tokens ++ []) (j.tokens ++ []) a k.faulty.none b j.faulty.none in
    fault_same k.faulty.at j.faulty.at f g k.faulty.before j.faulty.before k.faulty.left j.faulty.left same.place same.rest k.faulty.cut j.faulty.cut k.faulty.fault j.faulty.fault k.faulty.place j.faulty.place

pub one_lexing : OneLexing
one_lexing = record { tokens = one_tokens; either = no_fault; fault = same_fault }
