-- How each piece is read again: its characters, what the scan gives for them, and what the token says.
use Rattle.std.proofs.Common.{◌≡◌, ℕ, ℤ, pos, ◌^◌, ◌<◌, ◌≤◌, List, [], ◌∷◌, ◌++◌, length, Bool, true, false, cond, ◌||◌, ◌==◌, refl, sym, ap, ◌∙◌, subst, arith, rules, append_assoc, flat_map, Ok, codes, unwrap_or}
use Rattle.std.proofs.lemmas.Bool.Decides.{nat_tests}
use Rattle.std.specs.Str.{chars, encode_utf8_all}
use Rattle.std.specs.Char.{is_ascii_alphabetic, is_ascii_alphanumeric}
use Rattle.std.specs.Fmt.{decimal}
use Rattle.std.proofs.lemmas.Fmt.{digits_decimal, digits_value-decimal, decimal_nonempty}
use Rattle.std.proofs.lemmas.Str.{encodes-append, encode_ascii}
use Rattle.std.proofs.lemmas.Str.Parse.{IsNumeralModel, numerals_by_fold}
use Rattle.unicode_ident.specs.Ident.{is_xid_start}
use Rattle.unicode_ident.proofs.IdentLemmas.{is_xid_start-ascii, is_xid_continue-ascii}
use Rattle.qvt_lexer.specs.Characters.{is_start, is_continue, is_digit}
use Rattle.qvt_words.specs.Words.{is_single_sign, is_double_sign, is_reserved, word_of, sign_of, spelling}
use Rattle.qvt_lexer.specs.Literals.{every, begins, number_after, number_of, greatest_number, Content}
use Rattle.qvt_lexer.specs.Scan.{scan_at}
use Rattle.qvt_lexer.specs.declared.token.TokenKind.TheVariants as kinds
use Rattle.qvt_lexer.specs.declared.scan.Piece.TheVariants.{Token}
use Rattle.qvt_lexer.proofs.Runs.{and_left, and_right, and_both}
use Rattle.qvt_language.specs.Tokens.{Tok}
use Rattle.qvt_language.specs.Readers.{nowhere}
use Rattle.qvt_language.specs.declared.class.Class.{Class}
use Rattle.qvt_language.specs.declared.class.Class.TheVariants as class
use Rattle.qvt_parser_tokens.specs.Said.{string_of}
use Rattle.qvt_parser_tokens.proofs.Numerals.{digits_are}
use Rattle.qvt_printer_layout.specs.Layout.{name_text, escaped, quoted, integer_text}
use Rattle.qvt_readback_tokens.proofs.Tests.{single_small, double_small}
use Rattle.qvt_readback_tokens.proofs.Decoded.{chars_of}
use Rattle.qvt_readback_tokens.proofs.Scans.{scan_escaped, scan_number, scan_string, scan_single_last, scan_single, scan_double}
use Rattle.qvt_readback_tokens.proofs.Spelt.{Kind, Named, Number, Text, Reserved, One, Two, kind_of, is_letter, Spelt, spelt}
use Rattle.qvt_readback_tokens.proofs.Quotes.{is_low, low_bytes, shown, all_shown_bytes, shown_content, content_is}
use Rattle.qvt_readback_tokens.proofs.Sound.{is_spelled}
use Rattle.qvt_readback_tokens.specs.Told.{IsName, IsEncoded, IsSmall}
use Rattle.qvt_readback_tokens.proofs.Again.{EndsBy, Again, digits_not, plain_scan}
use Rattle.qvt_readback_tokens.proofs.Names.{plain_name, held_name, held_bytes, some_name}

abbrev token : Class → List ℕ → ℤ → Tok
token c text number = record { class = c; text = text; number = number; place = nowhere }

-- words of letters
every_more : (p q : ℕ → Bool) → ((c : ℕ) → p c ≡ true → q c ≡ true) → (u : List ℕ) → every p u ≡ true → every q u ≡ true
every_more p q k [] h = refl
every_more p q k (c ∷ u) h = and_both (q c) (every q u) (k c (and_left (p c) (every p u) h)) (every_more p q k u (and_right (p c) (every p u) h))

letter_small : (c : ℕ) → is_letter c ≡ true → c < 128
letter_small c h = grind (arith, nat_tests)

letter_low : (c : ℕ) → is_letter c ≡ true → is_low c ≡ true
unfolding is_low
letter_low c h = grind (arith, nat_tests)

letter_alphabetic : (c : ℕ) → is_letter c ≡ true → is_ascii_alphabetic c ≡ true
letter_alphabetic c h = grind (arith, nat_tests)

letter_alphanumeric : (c : ℕ) → is_letter c ≡ true → is_ascii_alphanumeric c ≡ true
letter_alphanumeric c h = grind (arith, nat_tests)

or_true : (a b : Bool) → b ≡ true → (a || b) ≡ true
or_true true b h = refl
or_true false b h = h

letter_starts : (c : ℕ) → is_letter c ≡ true → is_start c ≡ true
letter_starts c h = or_true (c == 95) (is_xid_start c) (is_xid_start-ascii c (letter_small c h) ∙ letter_alphabetic c h)

letter_goes : (c : ℕ) → is_letter c ≡ true → is_continue c ≡ true
letter_goes c h = is_xid_continue-ascii c (letter_small c h) ∙ ap (λ b. b || (c == 95)) (letter_alphanumeric c h)

reserved_end : (u rest : List ℕ) → EndsBy Reserved u rest → EndsBy Named [] rest
reserved_end u [] e = tt
reserved_end u (d ∷ rest) e = e

word_again : (c : Class) (u : List ℕ) → begins is_letter u ≡ true → every is_letter u ≡ true → is_reserved u ≡ true → unwrap_or (word_of u) class.Name ≡ c → Again Reserved u u (token c [] (pos 0))
word_again c [] some all reserved same = absurd cc
word_again c (x ∷ u) some all reserved same =
    let bytes = low_bytes (x ∷ u) (every_more is_letter is_low letter_low (x ∷ u) all) in
    record {
      first = x;
      more = u;
      bytes = sym bytes;
      begins = some;
      kind = kinds.Word;
      scan = λ rest e. plain_scan x u (letter_starts x some) (every_more is_letter is_continue letter_goes u (and_right (is_letter x) (every is_letter u) all)) kinds.Word
          (ap (λ z. cond (is_reserved z) kinds.Word kinds.Name) bytes ∙ ap (λ b. cond b kinds.Word kinds.Name) reserved) rest (reserved_end (x ∷ u) rest e);
      says = λ at i. token (same i) [] (pos 0);
    }

-- signs
single_scan : (x : ℕ) → is_single_sign x ≡ true → (rest : List ℕ) → EndsBy One (x ∷ []) rest → scan_at x rest ≡ Ok (Token kinds.Symbol, rest)
single_scan x h [] e = scan_single_last x h
single_scan x h (d ∷ rest) e = scan_single x h d rest e

one_again : (c : Class) (x : ℕ) → is_single_sign x ≡ true → unwrap_or (sign_of (x ∷ [])) class.Name ≡ c → Again One (x ∷ []) (x ∷ []) (token c [] (pos 0))
one_again c x single same = record {
  first = x;
  more = [];
  bytes = sym (ap (λ z. z ++ []) (encode_ascii x (single_small x single)));
  begins = refl;
  kind = kinds.Symbol;
  scan = λ rest e. single_scan x single rest e;
  says = λ at i. token (same i) [] (pos 0);
}

two_again : (c : Class) (x y : ℕ) → is_double_sign x y ≡ true → unwrap_or (sign_of (x ∷ y ∷ [])) class.Name ≡ c → Again Two (x ∷ y ∷ []) (x ∷ y ∷ []) (token c [] (pos 0))
two_again c x y double same =
    let small = double_small x y double in
    record {
      first = x;
      more = y ∷ [];
      bytes = sym (λ i. encode_ascii x small.0 i ++ (encode_ascii y small.1 i ++ []));
      begins = refl;
      kind = kinds.Symbol;
      scan = λ rest e. scan_double x y rest double;
      says = λ at i. token (same i) [] (pos 0);
    }

by_kind : (k : Kind) (c : Class) → is_spelled k ≡ true → Spelt k c → Again k (spelling c) (spelling c) (token c [] (pos 0))
by_kind Named c h s = absurd cc
by_kind Number c h s = absurd cc
by_kind Text c h s = absurd cc
by_kind Reserved c h s = word_again c (spelling c) s.some s.letters s.reserved s.same
by_kind One c h s = subst (λ z. Again One z z (token c [] (pos 0))) (sym s.text) (one_again c s.first s.single (ap (λ z. unwrap_or (sign_of z) class.Name) (sym s.text) ∙ s.same))
by_kind Two c h s = subst (λ z. Again Two z z (token c [] (pos 0))) (sym s.text) (two_again c s.first s.second s.double (ap (λ z. unwrap_or (sign_of z) class.Name) (sym s.text) ∙ s.same))

pub plain_again : (c : Class) → is_spelled (kind_of c) ≡ true → Again (kind_of c) (spelling c) (spelling c) (token c [] (pos 0))
plain_again c h = by_kind (kind_of c) c h (spelt c)

-- names
module _ (c : ℕ) (w : List ℕ) (starts : is_start c ≡ true) (goes : every is_continue w ≡ true) where
  abbrev named : List ℕ
  named = encode_utf8_all (c ∷ w)

  name_by : (b : Bool) → is_reserved named ≡ b → Again Named [] (cond b (codes "_'" ++ (named ++ codes "'")) named) (token class.Name named (pos 0))
  name_by true h = record {
    first = 95;
    more = 39 ∷ ((c ∷ w) ++ 39 ∷ []);
    bytes = sym (held_bytes (c ∷ w));
    begins = refl;
    kind = kinds.Name;
    scan = λ rest e. ap (λ z. scan_at 95 (39 ∷ c ∷ z)) (append_assoc w (39 ∷ []) rest) ∙ scan_escaped c w rest starts goes;
    says = λ at i. token class.Name (held_name named (some_name (c ∷ w) (c, w, refl, starts, goes)) i) (pos 0);
  }
  name_by false h = record {
    first = c;
    more = w;
    bytes = refl;
    begins = starts;
    kind = kinds.Name;
    scan = λ rest e. plain_scan c w starts goes kinds.Name (ap (λ b. cond b kinds.Word kinds.Name) h) rest e;
    says = λ at i. token class.Name (plain_name (c ∷ w) (c, w, refl, starts, goes) i) (pos 0);
  }

pub name_again : (n : List ℕ) → IsName n → Again Named [] (name_text n) (token class.Name n (pos 0))
name_again n (u, e, (c, w, f, starts, goes)) =
    subst (λ z. Again Named [] (name_text z) (token class.Name z (pos 0))) (sym (e ∙ ap encode_utf8_all f)) (name_by c w starts goes (is_reserved (encode_utf8_all (c ∷ w))) refl)

-- numbers
abbrev Digits : List ℕ → Type 0
Digits cs = every is_digit cs ≡ true

digits_model : IsNumeralModel Digits number_of
digits_model = numerals_by_fold Digits (search rules) number_after (search rules)

digit_low : (c : ℕ) → is_digit c ≡ true → is_low c ≡ true
unfolding is_low
digit_low c h = grind (arith, nat_tests)

digits_again : (text : List ℕ) (n : ℕ) → Digits text → number_of text ≡ n → n ≤ greatest_number → 0 < length text → Again Number [] text (token class.Integer [] (pos n))
digits_again [] n all value small some = absurd (omega arith)
digits_again (c ∷ w) n all value small some =
    let bytes = low_bytes (c ∷ w) (every_more is_digit is_low digit_low (c ∷ w) all) in
    record {
      first = c;
      more = w;
      bytes = sym bytes;
      begins = and_left (is_digit c) (every is_digit w) all;
      kind = kinds.Integer;
      scan = λ rest e. scan_number c w rest (and_left (is_digit c) (every is_digit w) all) (and_right (is_digit c) (every is_digit w) all) (digits_not rest e) (omega (arith, value, small));
      says = λ at i. token class.Integer [] (pos ((ap number_of (digits_are (c ∷ w) (c ∷ w) (sym bytes) all) ∙ value) i));
    }

pub integer_again : (v : ℤ) → IsSmall v → Again Number [] (integer_text v) (token class.Integer [] v)
integer_again v (n, e, small) =
    let low : n < 2 ^ 64 = omega (arith, small) in
    subst (λ z. Again Number [] (integer_text z) (token class.Integer [] z)) (sym e)
    (digits_again (decimal n) n (digits_decimal digits_model n low) (digits_value-decimal digits_model n low) small (decimal_nonempty n low))

-- texts
module _ (u : List ℕ) where
  abbrev letters : List ℕ
  letters = flat_map shown u ++ 39 ∷ []

  letters_bytes : encode_utf8_all (39 ∷ letters) ≡ 39 ∷ (flat_map escaped u ++ 39 ∷ [])
  letters_bytes =
      (λ i. encode_ascii 39 (omega arith) i ++ encodes-append (flat_map shown u) (39 ∷ []) i) ∙ (λ i. 39 ∷ (all_shown_bytes u i ++ (encode_ascii 39 (omega arith) i ++ [])))

  letters_scan : (rest : List ℕ) → scan_at 39 (letters ++ rest) ≡ Ok (Token kinds.Str, rest)
  letters_scan rest = scan_string u (letters ++ rest) rest (subst (λ z. Content 39 z u (39 ∷ rest)) (sym (append_assoc (flat_map shown u) (39 ∷ []) rest)) (shown_content u (39 ∷ rest)))

  text_again : Again Text [] (39 ∷ (flat_map escaped u ++ 39 ∷ [])) (token class.Str (encode_utf8_all u) (pos 0))
  text_again = record {
    first = 39;
    more = letters;
    bytes = sym letters_bytes;
    begins = refl;
    kind = kinds.Str;
    scan = λ rest e. letters_scan rest;
    says = λ at i. token class.Str (encode_utf8_all (inside i)) (pos 0);
  } where
    inside : string_of (chars (39 ∷ (flat_map escaped u ++ 39 ∷ []))) ≡ u
    inside = ap string_of (ap chars (sym letters_bytes) ∙ chars_of (39 ∷ letters)) ∙ content_is u letters [] (shown_content u (39 ∷ []))

pub quoted_again : (t : List ℕ) → IsEncoded t → Again Text [] (quoted t) (token class.Str t (pos 0))
quoted_again t (u, e) =
    subst (λ z. Again Text [] (quoted z) (token class.Str z (pos 0))) (sym e)
    (subst (λ z. Again Text [] (39 ∷ (flat_map escaped z ++ 39 ∷ [])) (token class.Str (encode_utf8_all u) (pos 0))) (sym (chars_of u)) (text_again u))
