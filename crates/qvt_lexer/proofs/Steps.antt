-- What the scan says of a position.
use Rattle.std.proofs.Common.{◌≡◌, ℕ, ◌<◌, List, [], ◌∷◌, ◌++◌, length, inl, inr, sym, ap, ◌∙◌, subst, arith, length-append, Ok, Err}
use Rattle.std.specs.Str.{chars, IsUtf8, encode_utf8_all}
use Rattle.std.proofs.lemmas.Str.{encodes-chars}
use Rattle.qvt_lexer.specs.Ends.{IsEndOf}
use Rattle.qvt_lexer.specs.Pieces.{Spells, IsNext, NoPiece, IsLexFaultOf}
use Rattle.qvt_lexer.specs.Scan.{IsScanOf, scan_at}
use Rattle.qvt_lexer.specs.Division.{Position, place_after, ReadsTokens, IsNextToken, IsFaulty}
use Rattle.qvt_lexer.specs.Cursors.{position_of}
use Rattle.qvt_lexer.specs.declared.cursor.Cursor.{Cursor}
use Rattle.qvt_lexer.specs.declared.token.LexFault.{LexFault}
use Rattle.qvt_lexer.specs.declared.token.Token as code
use Rattle.qvt_lexer.specs.declared.token.TokenKind.{TokenKind}
use Rattle.qvt_lexer.specs.declared.token.TokenKind.TheVariants.{Name, Integer, Str, Word, Symbol, End}
use Rattle.qvt_lexer.specs.declared.token.LexKind.{LexKind}
use Rattle.qvt_lexer.specs.declared.token.LexKind.TheVariants.{BadChar, OpenText, OpenComment, BadEscape, NumberTooLarge}
use Rattle.qvt_lexer.specs.declared.scan.Piece.{Piece}
use Rattle.qvt_lexer.specs.declared.scan.Piece.TheVariants.{Blank, Comment, Token}
use Rattle.qvt_lexer.proofs.Cuts.{chars_before}
use Rattle.qvt_lexer.proofs.Divided.{reads_blank, reads_comment, reads_token}
use Rattle.qvt_lexer.proofs.Items.{content_front}
use Rattle.qvt_lexer.proofs.Scanned.{scan_is}

-- a piece has a character
pub spells_some : (p : Piece) (u : List ℕ) → Spells p u → 0 < length u
spells_some Blank u k = omega (arith, ap length k.1)
spells_some Comment u (inl k) = omega (arith, ap length k.3)
spells_some Comment u (inr k) = omega (arith, ap length k.1)
spells_some (Token Name) u (inl k) = omega (arith, ap length k.0.2)
spells_some (Token Name) u (inr k) = omega (arith, ap length k.1)
spells_some (Token Word) u k = omega (arith, ap length k.0.2)
spells_some (Token Integer) u k = omega (arith, ap length k.0.2)
spells_some (Token Str) u k = omega (arith, ap length k.3)
spells_some (Token Symbol) u (inl k) = omega (arith, ap length k.1)
spells_some (Token Symbol) u (inr k) = omega (arith, ap length k.2)
spells_some (Token End) u k = absurd k

-- fewer characters are left, so fewer bytes
fewer_bytes : (text rest front : List ℕ) → text ≡ front ++ rest → length (chars rest) < length (chars text) → length rest < length text
fewer_bytes text rest [] e lt = absurd (omega (arith, ap (λ z. length (chars z)) e))
fewer_bytes text rest (x ∷ front) e lt = omega (arith, ap length e, length-append front rest)

-- the text from the fault on is an end of the text
fault_cut : (k : LexKind) (text r : List ℕ) → IsLexFaultOf text k r → (u : List ℕ) × (text ≡ u ++ r)
fault_cut BadChar text r h = ([], sym h.0)
fault_cut OpenText text r h = ([], sym h.0)
fault_cut OpenComment text r h = ([], sym h.0)
fault_cut NumberTooLarge text r h = ([], sym h.0)
fault_cut BadEscape text r (inl ((q, w, vs, e, quote, k, stops), s)) = let f = content_front q vs w r k in (q ∷ f.front, e ∙ ap (λ z. q ∷ z) f.cut)
fault_cut BadEscape text r (inr h) = ([], sym h.0)

-- the cursor goes from here to there, over a front of the text whose first character is c
module _ (from : Position) (at next : Cursor) (c : ℕ) (more rest : List ℕ) (reads : ReadsTokens from (position_of at) []) (first : chars at.rest.now ≡ c ∷ chars more)
    (same : next.rest.now ≡ rest) (place : (u : List ℕ) → chars at.rest.now ≡ u ++ chars rest → next.place ≡ place_after at.place u) where
  found : (p : Piece) → scan_at c (chars more) ≡ Ok (p, chars rest) → (u : List ℕ) × IsNext (chars at.rest.now) p u (chars rest)
  found p e = let k = subst (IsScanOf (c ∷ chars more)) e (scan_is c (chars more)) in (k.0, subst (λ z. IsNext z p k.0 (chars rest)) (sym first) k.1)

  there : (p : Piece) (u : List ℕ) → IsNext (chars at.rest.now) p u (chars rest) → IsNext (chars at.rest.now) p u (chars next.rest.now)
  there p u n = subst (λ z. IsNext (chars at.rest.now) p u (chars z)) (sym same) n

  pub step_blank : scan_at c (chars more) ≡ Ok (Blank, chars rest) → ReadsTokens from (position_of next) []
  step_blank e = let k = found Blank e in reads_blank from (position_of at) (position_of next) reads k.0 (place k.0 k.1.piece.cut) (there Blank k.0 k.1)

  pub step_comment : scan_at c (chars more) ≡ Ok (Comment, chars rest) → ReadsTokens from (position_of next) []
  step_comment e = let k = found Comment e in reads_comment from (position_of at) (position_of next) reads k.0 (place k.0 k.1.piece.cut) (there Comment k.0 k.1)

  pub step_shorter : (p : Piece) → scan_at c (chars more) ≡ Ok (p, chars rest) → IsEndOf at.rest.now rest → length next.rest.now < length at.rest.now
  step_shorter p e end =
      let k = found p e in
      let some = spells_some p k.0 k.1.piece.spells in
      subst (λ z. length z < length at.rest.now) (sym same) (fewer_bytes at.rest.now rest end.0 end.1 (omega (arith, ap length k.1.piece.cut, length-append k.0 (chars rest))))

  module _ (kind : TokenKind) (t : code.Token) (is_kind : t.kind ≡ kind) (is_place : t.place ≡ at.place) (e : scan_at c (chars more) ≡ Ok (Token kind, chars rest)) (utf : IsUtf8 t.text.now) (cut : at.rest.now ≡ t.text.now ++ rest) where
    token_text : (u : List ℕ) → chars at.rest.now ≡ u ++ chars rest → encode_utf8_all u ≡ t.text.now
    token_text u h = ap encode_utf8_all (sym (chars_before at.rest.now t.text.now rest u cut utf h)) ∙ encodes-chars t.text.now utf

    pub step_token : IsNextToken from t (position_of next)
    step_token =
        let k = found (Token kind) e in
        let reads = reads_token from (position_of at) (position_of next) reads k.0 (place k.0 k.1.piece.cut) kind (there (Token kind) k.0 k.1) in
        let text = token_text k.0 k.1.piece.cut in
        record {
          token = λ _. subst (λ z. ReadsTokens from (position_of next) (z ∷ [])) (λ i. record { kind = sym is_kind i; place = sym is_place i; text = text i }) reads;
          nothing = λ end. absurd (subst (λ z. Spells (Token z) k.0) (sym is_kind ∙ end) k.1.piece.spells);
        }

  pub step_fault : (f : LexFault) → scan_at c (chars more) ≡ Err (f.kind, chars rest) → f.place ≡ next.place → IsFaulty from f
  step_fault f e h =
      let k = subst (IsScanOf (c ∷ chars more)) e (scan_is c (chars more)) in
      let cut = fault_cut f.kind (c ∷ chars more) (chars rest) k.1 in
      record {
        at = position_of at;
        reads = reads;
        more = λ none. absurd (let z : c ∷ chars more ≡ [] = sym first ∙ none in cc);
        none = subst NoPiece (sym first) k.0;
        before = cut.0;
        left = chars rest;
        cut = first ∙ cut.1;
        fault = subst (λ z. IsLexFaultOf z f.kind (chars rest)) (sym first) k.1;
        place = h ∙ place cut.0 (first ∙ cut.1);
      }
