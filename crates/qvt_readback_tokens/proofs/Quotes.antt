-- A text in quotes is read back.
use Rattle.std.proofs.Common.{◌≡◌, ℕ, ◌+◌, ◌*◌, ◌/◌, ◌%◌, ◌<◌, List, [], ◌∷◌, ◌++◌, Bool, true, false, cond, ◌||◌, ◌&&◌, ◌==◌, nat_lt, refl, sym, ap, ◌∙◌, arith, append_assoc, append-nil, flat_map, Some, None, codes}
use Rattle.std.proofs.lemmas.Bool.Decides.{nat_tests}
use Rattle.std.specs.Str.{encode_utf8_all}
use Rattle.std.specs.Char.{encode_utf8}
use Rattle.std.proofs.lemmas.Str.{encodes-append, encode_ascii}
use Rattle.qvt_lexer.specs.Characters.{is_hex, hex_value}
use Rattle.qvt_lexer.specs.Literals.{every, hex_at, escape_at, item_at, Content}
use Rattle.qvt_lexer.proofs.Runs.{and_left, and_right}
use Rattle.qvt_parser_tokens.specs.Said.{content}
use Rattle.qvt_parser_tokens.proofs.Contents.{content_item, content_none}
use Rattle.qvt_printer_layout.specs.Layout.{digit, numbered, escaped}
use Rattle.qvt_readback_tokens.proofs.Tests.{is_number}

unfoldable pub is_low : ℕ → Bool
is_low c = nat_lt c 128

low_is : (c : ℕ) → is_low c ≡ true → c < 128
unfolding is_low
low_is c h = grind (arith, nat_tests)

-- ASCII characters are their bytes
pub low_bytes : (u : List ℕ) → every is_low u ≡ true → encode_utf8_all u ≡ u
low_bytes [] h = refl
low_bytes (c ∷ u) h = (λ i. encode_ascii c (low_is c (and_left (is_low c) (every is_low u) h)) i ++ low_bytes u (and_right (is_low c) (every is_low u) h) i)

-- the forms of a character in quotes, by what it is
abbrev form : Bool → Bool → Bool → Bool → Bool → Bool → Bool → Bool → ℕ → List ℕ → List ℕ
form slash quote back tab line page turn other c last =
    cond slash (codes "\\\\") (cond quote (codes "\\'") (cond back (codes "\\b") (cond tab (codes "\\t") (cond line (codes "\\n") (cond page (codes "\\f") (cond turn (codes "\\r") (cond other (numbered c) last)))))))

abbrev form_of : ℕ → List ℕ → List ℕ
form_of c last = form (c == 92) (c == 39) (c == 8) (c == 9) (c == 10) (c == 12) (c == 13) (nat_lt c 32 || c == 127) c last

-- the characters that stand for one
abbrev pub shown : ℕ → List ℕ
shown c = form_of c (c ∷ [])

other_small : (c : ℕ) → (nat_lt c 32 || c == 127) ≡ true → c < 128
other_small c h = grind (arith, nat_tests)

low_digit : (n : ℕ) → n < 16 → is_low (digit n) ≡ true
unfolding is_low
low_digit n h = grind (arith, nat_tests)

low_numbered : (c : ℕ) → c < 128 → every is_low (numbered c) ≡ true
unfolding is_low
low_numbered c h = λ i. low_digit (c / 16) (omega arith) i && (low_digit (c % 16) (omega arith) i && true)

form_bytes : (a b d e f g h k : Bool) (c : ℕ) → (nat_lt c 32 || c == 127) ≡ k → encode_utf8_all (form a b d e f g h k c (c ∷ [])) ≡ form a b d e f g h k c (encode_utf8 c)
unfolding encode_utf8 is_low
form_bytes true b d e f g h k c z = refl
form_bytes false true d e f g h k c z = refl
form_bytes false false true e f g h k c z = refl
form_bytes false false false true f g h k c z = refl
form_bytes false false false false true g h k c z = refl
form_bytes false false false false false true h k c z = refl
form_bytes false false false false false false true k c z = refl
form_bytes false false false false false false false true c z = low_bytes (numbered c) (low_numbered c (other_small c z))
form_bytes false false false false false false false false c z = append-nil (encode_utf8 c)

shown_bytes : (c : ℕ) → encode_utf8_all (shown c) ≡ escaped c
shown_bytes c = form_bytes (c == 92) (c == 39) (c == 8) (c == 9) (c == 10) (c == 12) (c == 13) (nat_lt c 32 || c == 127) c refl

pub all_shown_bytes : (u : List ℕ) → encode_utf8_all (flat_map shown u) ≡ flat_map escaped u
all_shown_bytes [] = refl
all_shown_bytes (c ∷ u) = encodes-append (shown c) (flat_map shown u) ∙ (λ i. shown_bytes c i ++ all_shown_bytes u i)

-- and what they stand for
hex_digit : (n : ℕ) → n < 16 → is_hex (digit n) ≡ true
hex_digit n h = grind (arith, nat_tests)

hex_digit_value : (n : ℕ) → n < 16 → hex_value (digit n) ≡ n
hex_digit_value n h = grind (arith, nat_tests)

hex_pair : (a b : ℕ) (rest : List ℕ) → a < 16 → b < 16 → hex_at 2 0 (digit a ∷ digit b ∷ rest) ≡ Some (16 * a + b, rest)
hex_pair a b rest h k =
    ap (λ z. cond z (cond (is_hex (digit b)) (Some (16 * (16 * 0 + hex_value (digit a)) + hex_value (digit b), rest)) None) None) (hex_digit a h)
    ∙ ap (λ z. cond z (Some (16 * (16 * 0 + hex_value (digit a)) + hex_value (digit b), rest)) None) (hex_digit b k)
    ∙ ap (λ z. Some (z, rest)) (omega (arith, hex_digit_value a h, hex_digit_value b k))

plain_item : (c : ℕ) (rest : List ℕ) → (c == 92) ≡ false → (c == 39) ≡ false → (c == 10) ≡ false → item_at 39 (c ∷ rest) ≡ Some (c, rest)
plain_item c rest h k j = λ i. cond (k i || j i) None (cond (h i) (escape_at rest) (Some (c, rest)))

form_item : (a b d e f g h k : Bool) (c : ℕ) (rest : List ℕ) → (c == 92) ≡ a → (c == 39) ≡ b → (c == 8) ≡ d → (c == 9) ≡ e → (c == 10) ≡ f → (c == 12) ≡ g → (c == 13) ≡ h → (nat_lt c 32 || c == 127) ≡ k
    → item_at 39 (form a b d e f g h k c (c ∷ []) ++ rest) ≡ Some (c, rest)
form_item true b d e f g h k c rest p q r s t u v w = ap (λ z. Some (z, rest)) (sym (is_number c 92 p))
form_item false true d e f g h k c rest p q r s t u v w = ap (λ z. Some (z, rest)) (sym (is_number c 39 q))
form_item false false true e f g h k c rest p q r s t u v w = ap (λ z. Some (z, rest)) (sym (is_number c 8 r))
form_item false false false true f g h k c rest p q r s t u v w = ap (λ z. Some (z, rest)) (sym (is_number c 9 s))
form_item false false false false true g h k c rest p q r s t u v w = ap (λ z. Some (z, rest)) (sym (is_number c 10 t))
form_item false false false false false true h k c rest p q r s t u v w = ap (λ z. Some (z, rest)) (sym (is_number c 12 u))
form_item false false false false false false true k c rest p q r s t u v w = ap (λ z. Some (z, rest)) (sym (is_number c 13 v))
form_item false false false false false false false true c rest p q r s t u v w =
    let small = other_small c w in
    hex_pair (c / 16) (c % 16) rest (omega arith) (omega arith) ∙ ap (λ z. Some (z, rest)) (omega arith)
form_item false false false false false false false false c rest p q r s t u v w = plain_item c rest p q t

shown_item : (c : ℕ) (rest : List ℕ) → item_at 39 (shown c ++ rest) ≡ Some (c, rest)
shown_item c rest = form_item (c == 92) (c == 39) (c == 8) (c == 9) (c == 10) (c == 12) (c == 13) (nat_lt c 32 || c == 127) c rest refl refl refl refl refl refl refl refl

pub shown_content : (u rest : List ℕ) → Content 39 (flat_map shown u ++ rest) u rest
shown_content [] rest = refl
shown_content (c ∷ u) rest = (flat_map shown u ++ rest, ap (item_at 39) (append_assoc (shown c) (flat_map shown u) rest) ∙ shown_item c (flat_map shown u ++ rest), shown_content u rest)

pub content_is : (vs cs rest : List ℕ) → Content 39 cs vs (39 ∷ rest) → content 39 cs ≡ vs
content_is [] cs rest h = content_none 39 cs (ap (item_at 39) h)
content_is (v ∷ vs) cs rest (s, e, k) = content_item 39 cs v s e ∙ ap (λ z. v ∷ z) (content_is vs s rest k)
