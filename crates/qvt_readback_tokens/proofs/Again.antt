-- What it is that a token is read again: its characters, what the scan gives for them, and what the token says.
use Rattle.std.proofs.Common.{◌≡◌, ℕ, List, [], ◌∷◌, ◌++◌, Bool, true, false, ◌==◌, not, refl, ap, ◌∙◌, Ok}
use Rattle.std.specs.Str.{encode_utf8_all}
use Rattle.qvt_base.specs.declared.numbers.Place.{Place}
use Rattle.qvt_lexer.specs.Characters.{is_start, is_continue, is_digit}
use Rattle.qvt_lexer.specs.Literals.{every, begins}
use Rattle.qvt_lexer.specs.Scan.{scan_at, word_kind, is_apostrophe}
use Rattle.qvt_lexer.specs.declared.token.TokenKind.{TokenKind}
use Rattle.qvt_lexer.specs.declared.scan.Piece.TheVariants.{Token}
use Rattle.qvt_language.specs.Tokens.{Tok}
use Rattle.qvt_language.specs.declared.class.Class.{Class}
use Rattle.qvt_parser_tokens.specs.Said.{said}
use Rattle.qvt_words.specs.Words.{spelling}
use Rattle.qvt_language.specs.Same.{unplaced}
use Rattle.qvt_readback_tokens.proofs.Tests.{neither}
use Rattle.qvt_readback_tokens.proofs.Scans.{scan_name}
use Rattle.qvt_readback_tokens.proofs.Spelt.{Kind, Named, Number, kind_of}
use Rattle.qvt_readback_tokens.proofs.Meets.{FirstBy, ends_by, word_ends}

-- the text is at its end, or goes on with a character that the token does not take
abbrev pub EndsBy : Kind → List ℕ → List ℕ → Type 0
EndsBy k u [] = Unit {0}
EndsBy k u (d ∷ ds) = ends_by k u d ≡ true

abbrev pub EndsAt : Class → List ℕ → Type 0
EndsAt c = EndsBy (kind_of c) (spelling c)

pub record Again (k : Kind) (u text : List ℕ) (token : Tok) : Type 0 where
  pub first : ℕ
  pub more : List ℕ
  pub bytes : text ≡ encode_utf8_all (first ∷ more)
  pub begins : FirstBy k u first
  pub kind : TokenKind
  pub scan : (rest : List ℕ) → EndsBy k u rest → scan_at first (more ++ rest) ≡ Ok (Token kind, rest)
  pub says : (at : Place) → unplaced (said (record { kind = kind; place = at; text = text })) ≡ token

-- a word ends where no name goes on
word_end : (k : ℕ → Bool) (rest : List ℕ) → ((d : ℕ) → word_ends d ≡ true → k d ≡ false) → EndsBy Named [] rest → begins k rest ≡ false
word_end k [] h e = refl
word_end k (d ∷ rest) h e = h d e

goes_not : (rest : List ℕ) → EndsBy Named [] rest → begins is_continue rest ≡ false
goes_not rest e = word_end is_continue rest (λ d h. (neither (is_continue d) (d == 39) h).0) e

quotes_not : (rest : List ℕ) → EndsBy Named [] rest → begins is_apostrophe rest ≡ false
quotes_not rest e = word_end is_apostrophe rest (λ d h. (neither (is_continue d) (d == 39) h).1) e

pub digits_not : (rest : List ℕ) → EndsBy Number [] rest → begins is_digit rest ≡ false
digits_not [] e = refl
digits_not (d ∷ rest) e = no (is_digit d) e where
  no : (b : Bool) → not b ≡ true → b ≡ false
  no true h = absurd cc
  no false h = refl

pub plain_scan : (c : ℕ) (w : List ℕ) → is_start c ≡ true → every is_continue w ≡ true → (kind : TokenKind) → word_kind (c ∷ w) ≡ kind → (rest : List ℕ) → EndsBy Named [] rest → scan_at c (w ++ rest) ≡ Ok (Token kind, rest)
plain_scan c w starts goes kind is rest e = scan_name c w rest starts goes (goes_not rest e) (quotes_not rest e) ∙ ap (λ z. Ok (Token z, rest)) is
