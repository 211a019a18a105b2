-- What the tokens of a text tell: names are names, texts are characters, numbers are not too large.
use Rattle.std.proofs.Common.{◌≡◌, ℕ, pos, ◌<◌, List, [], ◌∷◌, ◌++◌, Bool, true, false, ◌||◌, ◌==◌, nat_le, inl, inr, refl, sym, ap, ◌∙◌, subst, arith, map, unwrap_or}
use Rattle.std.proofs.lemmas.Bool.Decides.{nat_tests}
use Rattle.std.specs.Str.{chars, encode_utf8_all}
use Rattle.std.proofs.lemmas.Str.{encode_ascii}
use Rattle.qvt_base.specs.declared.numbers.Place.{Place}
use Rattle.qvt_words.specs.Words.{is_single_sign, is_double_sign, is_reserved, word_of, sign_of}
use Rattle.qvt_lexer.specs.Literals.{number_of}
use Rattle.qvt_lexer.specs.Pieces.{IsSymbol, Spells}
use Rattle.qvt_lexer.specs.Division.{Written, Divides, TokenData, token_of, tokens_of, place_after, start_at}
use Rattle.qvt_lexer.specs.declared.token.TokenKind.{TokenKind}
use Rattle.qvt_lexer.specs.declared.token.TokenKind.TheVariants as kinds
use Rattle.qvt_lexer.specs.declared.scan.Piece as lexer
use Rattle.qvt_lexer.specs.declared.scan.Piece.TheVariants.{Blank, Comment, Token}
use Rattle.qvt_words.proofs.Rows.{of_word, of_single, of_double}
use Rattle.qvt_language.specs.declared.class.Class.{Class}
use Rattle.qvt_language.specs.declared.class.Class.TheVariants as class
use Rattle.qvt_language.specs.Tokens.{Tok, code_of}
use Rattle.qvt_parser_tokens.specs.Said.{said, name_of, string_of}
use Rattle.qvt_parser_tokens.specs.Text.{HasTokens}
use Rattle.qvt_readback_tokens.specs.Told.{IsTold, AllTold}
use Rattle.qvt_readback_tokens.proofs.Tests.{single_small, double_small}
use Rattle.qvt_readback_tokens.proofs.Decoded.{chars_of}
use Rattle.qvt_readback_tokens.proofs.Names.{plain_name, held_name, held_bytes, some_name}

pub told_front : (u v : List Tok) → AllTold (u ++ v) → AllTold u
told_front [] v h = tt
told_front (t ∷ u) v h = (h.0, told_front u v h.1)

pub told_back : (u v : List Tok) → AllTold (u ++ v) → AllTold v
told_back [] v h = h
told_back (t ∷ u) v h = told_back u v h.1

-- words and symbols are none of the three
abbrev is_other : ℕ → Bool
is_other n = nat_le 3 n

untold : (t : Tok) → is_other (code_of t.class) ≡ true → IsTold t
untold t h = other (code_of t.class) refl h where
  other : (n : ℕ) → code_of t.class ≡ n → is_other n ≡ true → IsTold t
  other n e h = record {
    name = λ k. absurd (no 0 (omega arith) k);
    integer = λ k. absurd (no 1 (omega arith) k);
    text = λ k. absurd (no 2 (omega arith) k);
  } where
    differs : (m : ℕ) → m < 3 → is_other n ≡ true → (n == m) ≡ true → ⊥
    differs m lt a b = absurd (grind (arith, nat_tests))

    no : (m : ℕ) → m < 3 → (false || (code_of t.class == m)) ≡ true → ⊥
    no m lt k = differs m lt h (ap (λ z. z == m) (sym e) ∙ k)

-- the class of a reserved word
abbrev is_other_class : Class → Bool
is_other_class c = is_other (code_of c)

reserved_word : (u : List ℕ) → is_reserved u ≡ true → is_other_class (unwrap_or (word_of u) class.Name) ≡ true
reserved_word u h = of_word is_other_class u refl h

-- the class of a sign
abbrev is_sign : List ℕ → Bool
is_sign u = is_other_class (unwrap_or (sign_of u) class.Name)

single_sign : (c : ℕ) → is_single_sign c ≡ true → is_sign (c ∷ []) ≡ true
unfolding sign_of
single_sign c h = of_single is_sign c refl h

double_sign : (c d : ℕ) → is_double_sign c d ≡ true → is_sign (c ∷ d ∷ []) ≡ true
unfolding sign_of
double_sign c d h = of_double is_sign c d refl h

symbol_sign : (u : List ℕ) → IsSymbol u → is_sign (encode_utf8_all u) ≡ true
symbol_sign u (inl (c, e, h)) =
    ap (λ z. is_sign (encode_utf8_all z)) e ∙ ap (λ z. is_sign (z ++ [])) (encode_ascii c (single_small c h)) ∙ single_sign c h
symbol_sign u (inr (c, d, e, h)) =
    let small = double_small c d h in
    ap (λ z. is_sign (encode_utf8_all z)) e ∙ (λ i. is_sign (encode_ascii c small.0 i ++ (encode_ascii d small.1 i ++ []))) ∙ double_sign c d h

told_token : (kind : TokenKind) (u : List ℕ) (at : Place) → Spells (Token kind) u → IsTold (said (record { kind = kind; place = at; text = encode_utf8_all u }))
told_token kinds.Name u at (inl (n, r)) = record { name = λ _. (u, plain_name u n, n); integer = λ k. absurd cc; text = λ k. absurd cc }
told_token kinds.Name u at (inr (v, e, n)) = record {
  name = λ _. (v, ap name_of (ap encode_utf8_all e ∙ held_bytes v) ∙ held_name (encode_utf8_all v) (some_name v n), n);
  integer = λ k. absurd cc;
  text = λ k. absurd cc;
}
told_token kinds.Word u at (n, r) = untold (said (record { kind = kinds.Word; place = at; text = encode_utf8_all u })) (reserved_word (encode_utf8_all u) r)
told_token kinds.Integer u at (n, small) = record {
  name = λ k. absurd cc;
  integer = λ _. (number_of u, ap (λ z. pos (number_of z)) (chars_of u), small);
  text = λ k. absurd cc;
}
told_token kinds.Str u at k = record { name = λ k. absurd cc; integer = λ k. absurd cc; text = λ _. (string_of (chars (encode_utf8_all u)), refl) }
told_token kinds.Symbol u at k = untold (said (record { kind = kinds.Symbol; place = at; text = encode_utf8_all u })) (symbol_sign u k)
told_token kinds.End u at k = absurd k

told_piece : (p : lexer.Piece) (u : List ℕ) (at : Place) → Spells p u → AllTold (map said (token_of at (record { piece = p; text = u })))
told_piece Blank u at k = tt
told_piece Comment u at k = tt
told_piece (Token kind) u at k = (told_token kind u at k, tt)

map_both : (ds es : List TokenData) → AllTold (map said ds) → AllTold (map said es) → AllTold (map said (ds ++ es))
map_both [] es h k = k
map_both (d ∷ ds) es h k = (h.0, map_both ds es h.1 k)

told_pieces : (ps : List Written) (text rest : List ℕ) (at : Place) → Divides text ps rest → AllTold (map said (tokens_of at ps))
told_pieces [] text rest at e = tt
told_pieces (p ∷ ps) text rest at (s, n, d) = map_both (token_of at p) (tokens_of (place_after at p.text) ps) (told_piece p.piece p.text at n.piece.spells) (told_pieces ps s rest (place_after at p.text) d)

-- all tokens of a text
pub all_told : (text : List ℕ) (ts : List Tok) (end : Place) → HasTokens text ts end → AllTold ts
all_told text ts end h = subst AllTold (ap (map said) h.reads.tokens ∙ h.are) (told_pieces h.reads.pieces (start_at (chars text)).rest h.last.rest (start_at (chars text)).place h.reads.divides)
