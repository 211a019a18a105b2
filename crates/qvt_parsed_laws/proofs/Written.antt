-- The first tokens of a text, and tokens that say as little as they can, are together those of some text: each on a line of its
-- own.
use Rattle.std.proofs.Common.{◌≡◌, ℕ, pos, List, [], ◌∷◌, ◌++◌, true, false, ◌||◌, ◌&&◌, nat_eq, inl, inr, map, None, codes, refl, sym, ap, ◌∙◌, subst, arith}
use Rattle.std.proofs.lemmas.Str.{encode_ascii}
use Rattle.unicode_ident.proofs.IdentLemmas.{is_xid_start-ascii}
use Rattle.qvt_base.specs.declared.numbers.Place.{Place}
use Rattle.qvt_lexer.specs.Division.{TokenData}
use Rattle.qvt_lexer.specs.declared.token.TokenKind.{TokenKind}
use Rattle.qvt_lexer.specs.declared.token.TokenKind.TheVariants as kinds
use Rattle.qvt_language.specs.Tokens.{Tok, code_of}
use Rattle.qvt_language.specs.Readers.{nowhere}
use Rattle.qvt_language.specs.Same.{unplaced, SameTokens, SimpleText, IsSimple, AllSimple}
use Rattle.qvt_language.specs.declared.class.Class.{Class}
use Rattle.qvt_language.specs.declared.class.Class.TheVariants as classes
use Rattle.qvt_parser_tokens.specs.Said.{said}
use Rattle.qvt_printer_layout.specs.declared.piece.PrintPiece.{PrintPiece}
use Rattle.qvt_printer_layout.specs.declared.piece.PrintPiece.TheVariants.{Plain, Name, Integer, Quoted, Line}
use Rattle.qvt_readback_tokens.specs.Spelled.{spelled, all_spelled}
use Rattle.qvt_readback_tokens.specs.Told.{IsName, IsEncoded, IsSmall, IsTold, AllTold}
use Rattle.qvt_readback_tokens.specs.Law.{HasSpelled}
use Rattle.qvt_readback_tokens.proofs.Spelt.{Kind, Named, Number, Text, Reserved, One, Two, kind_of, Spelt, spelt}
use Rattle.qvt_readback_tokens.proofs.Meets.{Free}
use Rattle.qvt_readback_tokens.proofs.Quotes.{is_low, low_bytes}
use Rattle.qvt_readback_tokens.proofs.Sound.{is_spelled, Sound}
use Rattle.qvt_readback_tokens.proofs.Tails.{tail}
use Rattle.qvt_readback_tokens.proofs.Told.{all_told}
use Rattle.qvt_readback_tokens.proofs.Relexed.{relexed}
use Rattle.qvt_readback_tokens.proofs.Printing.{has_spelled, letter_begins}
use Rattle.qvt_parsed_laws.specs.Written.{AreSpelled, SimpleGoOn}

-- a token that can stand on a line of its own
record Stands (t : Tok) : Type 0 where
  piece : PrintPiece
  says : spelled piece ≡ unplaced t ∷ []
  sound : (ps : List PrintPiece) → Sound Free ps → Sound Free (piece ∷ Line ∷ ps)

module _ (t : Tok) where
  name_stands : t.class ≡ classes.Name → IsName t.text → t.number ≡ pos 0 → Stands t
  name_stands s n z = record {
    piece = Name t.text;
    says = λ i. record { class = sym s i; text = t.text; number = sym z i; place = nowhere } ∷ [];
    sound = λ ps h. (n, refl, h);
  }

  integer_stands : t.class ≡ classes.Integer → IsSmall t.number → t.text ≡ [] → Stands t
  integer_stands s n e = record {
    piece = Integer t.number;
    says = λ i. record { class = sym s i; text = sym e i; number = t.number; place = nowhere } ∷ [];
    sound = λ ps h. (n, refl, h);
  }

  text_stands : t.class ≡ classes.Str → IsEncoded t.text → t.number ≡ pos 0 → Stands t
  text_stands s n z = record {
    piece = Quoted t.text;
    says = λ i. record { class = sym s i; text = t.text; number = sym z i; place = nowhere } ∷ [];
    sound = λ ps h. (n, refl, h);
  }

  plain_stands : is_spelled (kind_of t.class) ≡ true → t.text ≡ [] → t.number ≡ pos 0 → Stands t
  plain_stands s e z = record {
    piece = Plain t.class;
    says = λ i. record { class = t.class; text = sym e i; number = sym z i; place = nowhere } ∷ [];
    sound = λ ps h. (ap (λ b. b && true) s, h);
  }

-- what a token says beside its name, its number or its text is nothing
abbrev IsBare : Kind → Tok → Type 0
IsBare Named t = t.number ≡ pos 0
IsBare Text t = t.number ≡ pos 0
IsBare Number t = t.text ≡ []
IsBare k t = (t.text ≡ []) × (t.number ≡ pos 0)

told_stands : (t : Tok) → IsTold t → IsBare (kind_of t.class) t → Stands t
told_stands t told bare = by (kind_of t.class) refl (spelt t.class) bare where
  by : (k : Kind) → kind_of t.class ≡ k → Spelt k t.class → IsBare k t → Stands t
  by Named e s b = name_stands t s (told.name (ap (λ z. false || nat_eq (code_of z) 0) s)) b
  by Number e s b = integer_stands t s (told.integer (ap (λ z. false || nat_eq (code_of z) 1) s)) b
  by Text e s b = text_stands t s (told.text (ap (λ z. false || nat_eq (code_of z) 2) s)) b
  by Reserved e s b = plain_stands t (ap is_spelled e) b.0 b.1
  by One e s b = plain_stands t (ap is_spelled e) b.0 b.1
  by Two e s b = plain_stands t (ap is_spelled e) b.0 b.1

-- the tokens of a text
nothing_bare : (k : Kind) (t : Tok) → t.text ≡ [] → t.number ≡ pos 0 → IsBare k t
nothing_bare Named t e z = z
nothing_bare Text t e z = z
nothing_bare Number t e z = e
nothing_bare Reserved t e z = (e, z)
nothing_bare One t e z = (e, z)
nothing_bare Two t e z = (e, z)

said_bare : (kind : TokenKind) (text : List ℕ) (at : Place) → IsBare (kind_of (said (record { kind = kind; place = at; text = text })).class) (said (record { kind = kind; place = at; text = text }))
said_bare kinds.Name text at = refl
said_bare kinds.Integer text at = refl
said_bare kinds.Str text at = refl
said_bare kind text at = let t = said (record { kind = kind; place = at; text = text }) in nothing_bare (kind_of t.class) t refl refl

abbrev AllStand : List Tok → Type 0
AllStand [] = Unit {0}
AllStand (t ∷ ts) = Stands t × AllStand ts

stand_said : (ds : List TokenData) → AllTold (map said ds) → AllStand (map said ds)
stand_said [] h = tt
stand_said (d ∷ ds) h = (told_stands (said d) h.0 (said_bare d.kind d.text d.place), stand_said ds h.1)

stand_front : (u v : List Tok) → AllStand (u ++ v) → AllStand u
stand_front [] v h = tt
stand_front (t ∷ u) v h = (h.0, stand_front u v h.1)

stand_both : (u v : List Tok) → AllStand u → AllStand v → AllStand (u ++ v)
stand_both [] v h k = k
stand_both (t ∷ u) v h k = (h.0, stand_both u v h.1 k)

-- tokens that say as little as they can
a_name : IsName (codes "a")
a_name = (97 ∷ [], sym (ap (λ z. z ++ []) (encode_ascii 97 (omega arith))), (97, [], refl, is_xid_start-ascii 97 (omega arith), refl))

strict_text : IsEncoded (codes "strict")
unfolding is_low
strict_text = (codes "strict", sym (low_bytes (codes "strict") refl))

plain_text : (c : Class) (text : List ℕ) → is_spelled (kind_of c) ≡ true → SimpleText c text → text ≡ []
plain_text classes.Name text h k = absurd cc
plain_text classes.Str text h k = absurd cc
plain_text c text h k = k

simple_stands : (t : Tok) → IsSimple t → Stands t
simple_stands t h = by (kind_of t.class) refl (spelt t.class) where
  plain : (k : Kind) → kind_of t.class ≡ k → is_spelled k ≡ true → Stands t
  plain k e s = let q = ap is_spelled e ∙ s in plain_stands t q (plain_text t.class t.text q h.text) h.number

  by : (k : Kind) → kind_of t.class ≡ k → Spelt k t.class → Stands t
  by Named e s = let says : t.text ≡ codes "a" = subst (λ c. SimpleText c t.text) s h.text in name_stands t s (subst IsName (sym says) a_name) h.number
  by Number e s = integer_stands t s (0, h.number, omega arith) (subst (λ c. SimpleText c t.text) s h.text)
  by Text e s = text_stands t s (elim (subst (λ c. SimpleText c t.text) s h.text) [ inl q ↦ subst IsEncoded (sym q) ([], refl) | inr q ↦ subst IsEncoded (sym q) strict_text ]) h.number
  by Reserved e s = plain Reserved e refl
  by One e s = plain One e refl
  by Two e s = plain Two e refl

stand_simple : (v : List Tok) → AllSimple v → AllStand v
stand_simple [] h = tt
stand_simple (t ∷ v) h = (simple_stands t h.0, stand_simple v h.1)

-- each on a line of its own
lines : (ts : List Tok) → AllStand ts → List PrintPiece
lines [] h = []
lines (t ∷ ts) h = h.0.piece ∷ Line ∷ lines ts h.1

lines_spelled : (ts : List Tok) (h : AllStand ts) → all_spelled (lines ts h) ≡ map unplaced ts
unfolding lines
lines_spelled [] h = refl
lines_spelled (t ∷ ts) h = λ i. h.0.says i ++ lines_spelled ts h.1 i

lines_sound : (ts : List Tok) (h : AllStand ts) → Sound Free (lines ts h)
unfolding lines
lines_sound [] h = refl
lines_sound (t ∷ ts) h = h.0.sound (lines ts h.1) (lines_sound ts h.1)

written : (ts : List Tok) → AllStand ts → AreSpelled ts
written ts h = record { text = text; has = subst (HasSpelled text) (lines_spelled ts h) (has_spelled text (all_spelled ps) (letter_begins 10 (tail 0 None ps) (omega arith)) (relexed (Line ∷ ps) Free 0 None (lines_sound ts h))) } where
  ps : List PrintPiece
  ps = lines ts h

  text : List ℕ
  text = tail 0 None (Line ∷ ps)

pub simple_go_on : SimpleGoOn
simple_go_on text before rest end has v simple =
    let told = all_told text (before ++ rest) end has in
    let all = stand_said has.tokens (subst AllTold (sym has.are) told) in
    written (before ++ v) (stand_both before v (stand_front before rest (subst AllStand has.are all)) (stand_simple v simple))

-- the tokens that are the same as the first of these
pub split : (before v us : List Tok) → SameTokens us (before ++ v) → (a : List Tok) × (b : List Tok) × (us ≡ a ++ b) × SameTokens a before
split [] v us e = ([], us, refl, refl)
split (t ∷ before) v [] e = absurd cc
split (t ∷ before) v (u ∷ us) e =
    let head : unplaced u ≡ unplaced t = cc in
    let back : map unplaced us ≡ map unplaced (before ++ v) = cc in
    let w = split before v us back in
    (u ∷ w.0, w.1, λ i. u ∷ w.2 i, λ i. head i ∷ w.3 i)
