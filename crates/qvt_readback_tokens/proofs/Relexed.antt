-- The text of sound pieces is divided into blanks and their tokens.
use Rattle.std.proofs.Common.{◌≡◌, ℕ, zero, suc, ◌+◌, ◌-◌, List, [], ◌∷◌, ◌++◌, Bool, true, false, cond, ◌⊎◌, inl, inr, refl, sym, ap, ◌∙◌, subst, arith, map, replicate, Option, Some, None, codes}
use Rattle.std.specs.Str.{chars, encode_utf8_all}
use Rattle.std.proofs.lemmas.Str.{chars-nil}
use Rattle.qvt_base.specs.declared.numbers.Place.{Place}
use Rattle.qvt_lexer.specs.Pieces.{IsNext}
use Rattle.qvt_lexer.specs.Division.{Written, Divides, TokenData, tokens_of, place_after}
use Rattle.qvt_lexer.specs.declared.token.TokenKind.{TokenKind}
use Rattle.qvt_lexer.specs.declared.scan.Piece.TheVariants.{Blank, Token}
use Rattle.qvt_language.specs.Tokens.{Tok}
use Rattle.qvt_language.specs.declared.class.Class.{Class}
use Rattle.qvt_language.specs.declared.class.Class.TheVariants as class
use Rattle.qvt_parser_tokens.specs.Said.{said}
use Rattle.qvt_printer_layout.specs.declared.piece.PrintPiece.{PrintPiece}
use Rattle.qvt_printer_layout.specs.declared.piece.PrintPiece.TheVariants.{Plain, Name, Integer, Quoted, Tight, Line, Indent, Dedent}
use Rattle.qvt_words.specs.Words.{is_double_sign, spelling}
use Rattle.qvt_printer_layout.specs.Layout.{blank_before, is_joined, name_text, integer_text, quoted}
use Rattle.qvt_language.specs.Same.{unplaced}
use Rattle.qvt_readback_tokens.specs.Spelled.{all_spelled}
use Rattle.qvt_readback_tokens.proofs.Tests.{both}
use Rattle.qvt_readback_tokens.proofs.Decoded.{one_byte, chars_before}
use Rattle.qvt_readback_tokens.proofs.Scans.{next_of, scan_space, scan_line}
use Rattle.qvt_readback_tokens.proofs.Spelt.{Kind, Named, Number, Text, kind_of}
use Rattle.qvt_readback_tokens.proofs.Meets.{Gap, Free, Tied, after, fits, tightly, First, FirstBy, ends, joined_ends, apart_ends, brace_first}
use Rattle.qvt_readback_tokens.proofs.Sound.{Sound, is_spelled, stands}
use Rattle.qvt_readback_tokens.proofs.Again.{EndsBy, EndsAt, Again}
use Rattle.qvt_readback_tokens.proofs.Reread.{plain_again, name_again, integer_again, quoted_again}
use Rattle.qvt_readback_tokens.proofs.Tails.{tail}

abbrev pub bare_said : TokenData → Tok
bare_said d = unplaced (said d)

-- the whole text is divided into pieces that say these tokens, wherever it begins
pub record Lexed (text : List ℕ) (ts : List Tok) : Type 0 where
  pub pieces : List Written
  pub divides : Divides text pieces []
  pub are : (at : Place) → map bare_said (tokens_of at pieces) ≡ ts

lexed_nil : (text : List ℕ) → text ≡ [] → Lexed text []
lexed_nil text e = record { pieces = []; divides = e; are = λ at. refl }

lexed_blank : (text u rest : List ℕ) (ts : List Tok) → IsNext text Blank u rest → Lexed rest ts → Lexed text ts
lexed_blank text u rest ts n k = record { pieces = record { piece = Blank; text = u } ∷ k.pieces; divides = (rest, n, k.divides); are = λ at. k.are (place_after at u) }

lexed_token : (text u rest : List ℕ) (kind : TokenKind) (t : Tok) (ts : List Tok) → IsNext text (Token kind) u rest → ((at : Place) → bare_said (record { kind = kind; place = at; text = encode_utf8_all u }) ≡ t) → Lexed rest ts → Lexed text (t ∷ ts)
lexed_token text u rest kind t ts n s k = record {
  pieces = record { piece = Token kind; text = u } ∷ k.pieces;
  divides = (rest, n, k.divides);
  are = λ at i. s at i ∷ k.are (place_after at u) i;
}

-- one ASCII blank more
space_more : (rest : List ℕ) (ts : List Tok) → Lexed (chars rest) ts → Lexed (chars (32 ∷ rest)) ts
space_more rest ts k =
    subst (λ z. Lexed z ts) (sym (one_byte 32 rest (omega arith)))
    (lexed_blank (32 ∷ chars rest) (32 ∷ []) (chars rest) ts (next_of 32 (chars rest) (32 ∷ []) (chars rest) Blank (scan_space (chars rest)) refl) k)

line_more : (rest : List ℕ) (ts : List Tok) → Lexed (chars rest) ts → Lexed (chars (10 ∷ rest)) ts
line_more rest ts k =
    subst (λ z. Lexed z ts) (sym (one_byte 10 rest (omega arith)))
    (lexed_blank (10 ∷ chars rest) (10 ∷ []) (chars rest) ts (next_of 10 (chars rest) (10 ∷ []) (chars rest) Blank (scan_line (chars rest)) refl) k)

spaces_more : (n : ℕ) (rest : List ℕ) (ts : List Tok) → Lexed (chars rest) ts → Lexed (chars (replicate n 32 ++ rest)) ts
spaces_more zero rest ts k = k
spaces_more (suc n) rest ts k = space_more (replicate n 32 ++ rest) ts (spaces_more n rest ts k)

joined_more : (b : Bool) (rest : List ℕ) (ts : List Tok) → Lexed (chars rest) ts → Lexed (chars (cond b [] (codes " ") ++ rest)) ts
joined_more true rest ts k = k
joined_more false rest ts k = space_more rest ts k

before_more : (l : Option Class) (c : Class) (rest : List ℕ) (ts : List Tok) → Lexed (chars rest) ts → Lexed (chars (blank_before l c ++ rest)) ts
before_more None c rest ts k = k
before_more (Some a) c rest ts k = joined_more (is_joined a c) rest ts k

-- the characters of a token before the rest
module _ (k : Kind) (u text : List ℕ) (t : Tok) (a : Again k u text t) where
  text_chars : (rest : List ℕ) → chars (text ++ rest) ≡ a.first ∷ (a.more ++ chars rest)
  text_chars rest = ap (λ z. chars (z ++ rest)) a.bytes ∙ chars_before (a.first ∷ a.more) rest

  token_more : (rest : List ℕ) (ts : List Tok) → EndsBy k u (chars rest) → Lexed (chars rest) ts → Lexed (chars (text ++ rest)) (t ∷ ts)
  token_more rest ts e l =
      subst (λ z. Lexed z (t ∷ ts)) (sym (text_chars rest))
      (lexed_token (a.first ∷ (a.more ++ chars rest)) (a.first ∷ a.more) (chars rest) a.kind t ts
      (next_of a.first (a.more ++ chars rest) (a.first ∷ a.more) (chars rest) (Token a.kind) (a.scan (chars rest) e) refl)
      (λ at. ap (λ z. bare_said (record { kind = a.kind; place = at; text = z })) (sym a.bytes) ∙ a.says at) l)

  -- what ends before its first character ends before it
  ends_before : (b : Class) → ((d : ℕ) → FirstBy k u d → ends b d ≡ true) → (rest : List ℕ) → EndsAt b (chars (text ++ rest))
  ends_before b h rest = subst (EndsAt b) (sym (text_chars rest)) (h a.first a.begins)

-- before a blank and a line every token ends
ends_space : (a : Class) (rest : List ℕ) → EndsAt a (chars (32 ∷ rest))
ends_space a rest = subst (EndsAt a) (sym (one_byte 32 rest (omega arith))) (apart_ends a 32 refl)

ends_line : (a : Class) (rest : List ℕ) → EndsAt a (chars (10 ∷ rest))
ends_line a rest = subst (EndsAt a) (sym (one_byte 10 rest (omega arith))) (apart_ends a 10 refl)

ends_nothing : (a : Class) → EndsAt a (chars [])
ends_nothing a = subst (EndsAt a) (sym chars-nil) tt

stands_spelled : (s : Gap) (c : Class) → stands s c ≡ true → is_spelled (kind_of c) ≡ true
stands_spelled s c h = (both (is_spelled (kind_of c)) (fits s c) h).0

stands_fits : (s : Gap) (c : Class) → stands s c ≡ true → fits s c ≡ true
stands_fits s c h = (both (is_spelled (kind_of c)) (fits s c) h).1

-- after a token that nothing separates from the rest
abbrev Bare : Gap → Class → Type 0
Bare s a = (s ≡ Tied) ⊎ ((d : ℕ) → ends a d ≡ true)

still_bare : (s : Gap) (a : Class) → Bare s a → Bare (tightly s) a
still_bare s a (inl e) = inl (ap tightly e)
still_bare s a (inr h) = inr h

bare_first : (s : Gap) (a c : Class) → Bare s a → fits s c ≡ true → (d : ℕ) → First c d → ends a d ≡ true
bare_first s a c (inl e) f d k = apart_ends a d (brace_first c d (ap (λ z. fits z c) (sym e) ∙ f) k)
bare_first s a c (inr h) f d k = h d

ends_bare : (ps : List PrintPiece) (s : Gap) (a : Class) (m : ℕ) → Bare s a → Sound s ps → EndsAt a (chars (tail m None ps))
ends_bare [] s a m b h = ends_nothing a
ends_bare (Plain c ∷ ps) s a m b h =
    let sp = stands_spelled s c h.0 in
    ends_before (kind_of c) (spelling c) (spelling c) _ (plain_again c sp) a (bare_first s a c b (stands_fits s c h.0)) (tail m (Some c) ps)
ends_bare (Name n ∷ ps) s a m b h = ends_before Named [] (name_text n) _ (name_again n h.0) a (bare_first s a class.Name b h.1) (tail m (Some class.Name) ps)
ends_bare (Integer v ∷ ps) s a m b h = ends_before Number [] (integer_text v) _ (integer_again v h.0) a (bare_first s a class.Integer b h.1) (tail m (Some class.Integer) ps)
ends_bare (Quoted t ∷ ps) s a m b h = ends_before Text [] (quoted t) _ (quoted_again t h.0) a (bare_first s a class.Str b h.1) (tail m (Some class.Str) ps)
ends_bare (Tight ∷ ps) s a m b h = ends_bare ps (tightly s) a m (still_bare s a b) h
ends_bare (Line ∷ ps) s a m b h = ends_line a (replicate m 32 ++ tail m None ps)
ends_bare (Indent ∷ ps) s a m b h = ends_bare ps s a (m + 2) b h
ends_bare (Dedent ∷ ps) s a m b h = ends_bare ps s a (m - 2) b h

-- after a token that has to be kept apart from the next
bare_after : (a : Class) → Bare (tightly (after a)) a
unfolding is_double_sign
bare_after class.OpenBrace = inr (λ d. refl)
bare_after a = inl refl

ends_joined : (a c : Class) (b : Bool) → is_joined a c ≡ b → (text rest : List ℕ) → ((j : is_joined a c ≡ true) → EndsAt a (chars (text ++ rest))) → EndsAt a (chars (cond b [] (codes " ") ++ (text ++ rest)))
ends_joined a c true e text rest h = h e
ends_joined a c false e text rest h = ends_space a (text ++ rest)

ends_after : (ps : List PrintPiece) (a : Class) (m : ℕ) → Sound (after a) ps → EndsAt a (chars (tail m (Some a) ps))
ends_after [] a m h = ends_nothing a
ends_after (Plain c ∷ ps) a m h =
    let sp = stands_spelled (after a) c h.0 in
    let rest = tail m (Some c) ps in
    ends_joined a c (is_joined a c) refl (spelling c) rest (λ j. ends_before (kind_of c) (spelling c) (spelling c) _ (plain_again c sp) a (λ d k. joined_ends a c d (stands_fits (after a) c h.0) j k) rest)
ends_after (Name n ∷ ps) a m h =
    let rest = tail m (Some class.Name) ps in
    ends_joined a class.Name (is_joined a class.Name) refl (name_text n) rest (λ j. ends_before Named [] (name_text n) _ (name_again n h.0) a (λ d k. joined_ends a class.Name d h.1 j k) rest)
ends_after (Integer v ∷ ps) a m h =
    let rest = tail m (Some class.Integer) ps in
    ends_joined a class.Integer (is_joined a class.Integer) refl (integer_text v) rest (λ j. ends_before Number [] (integer_text v) _ (integer_again v h.0) a (λ d k. joined_ends a class.Integer d h.1 j k) rest)
ends_after (Quoted t ∷ ps) a m h =
    let rest = tail m (Some class.Str) ps in
    ends_joined a class.Str (is_joined a class.Str) refl (quoted t) rest (λ j. ends_before Text [] (quoted t) _ (quoted_again t h.0) a (λ d k. joined_ends a class.Str d h.1 j k) rest)
ends_after (Tight ∷ ps) a m h = ends_bare ps (tightly (after a)) a m (bare_after a) h
ends_after (Line ∷ ps) a m h = ends_line a (replicate m 32 ++ tail m None ps)
ends_after (Indent ∷ ps) a m h = ends_after ps a (m + 2) h
ends_after (Dedent ∷ ps) a m h = ends_after ps a (m - 2) h

pub relexed : (ps : List PrintPiece) (s : Gap) (m : ℕ) (l : Option Class) → Sound s ps → Lexed (chars (tail m l ps)) (all_spelled ps)
relexed [] s m l h = lexed_nil (chars []) chars-nil
relexed (Plain c ∷ ps) s m l h =
    let rest = tail m (Some c) ps in
    before_more l c (spelling c ++ rest) _ (token_more (kind_of c) (spelling c) (spelling c) _ (plain_again c (stands_spelled s c h.0)) rest (all_spelled ps) (ends_after ps c m h.1) (relexed ps (after c) m (Some c) h.1))
relexed (Name n ∷ ps) s m l h =
    let rest = tail m (Some class.Name) ps in
    before_more l class.Name (name_text n ++ rest) _ (token_more Named [] (name_text n) _ (name_again n h.0) rest (all_spelled ps) (ends_after ps class.Name m h.2) (relexed ps Free m (Some class.Name) h.2))
relexed (Integer v ∷ ps) s m l h =
    let rest = tail m (Some class.Integer) ps in
    before_more l class.Integer (integer_text v ++ rest) _ (token_more Number [] (integer_text v) _ (integer_again v h.0) rest (all_spelled ps) (ends_after ps class.Integer m h.2) (relexed ps Free m (Some class.Integer) h.2))
relexed (Quoted t ∷ ps) s m l h =
    let rest = tail m (Some class.Str) ps in
    before_more l class.Str (quoted t ++ rest) _ (token_more Text [] (quoted t) _ (quoted_again t h.0) rest (all_spelled ps) (ends_after ps class.Str m h.2) (relexed ps Free m (Some class.Str) h.2))
relexed (Tight ∷ ps) s m l h = relexed ps (tightly s) m None h
relexed (Line ∷ ps) s m l h = line_more (replicate m 32 ++ tail m None ps) (all_spelled ps) (spaces_more m (tail m None ps) (all_spelled ps) (relexed ps Free m None h))
relexed (Indent ∷ ps) s m l h = relexed ps s (m + 2) l h
relexed (Dedent ∷ ps) s m l h = relexed ps s (m - 2) l h
