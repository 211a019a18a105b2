-- What names say, as they are written and between `_'` and `'`.
use Rattle.std.proofs.Common.{◌≡◌, ℕ, ◌+◌, ◌-◌, ◌<◌, List, [], ◌∷◌, ◌++◌, length, Bool, true, false, cond, ◌&&◌, ◌==◌, nat_le, refl, sym, ap, ◌∙◌, arith, length-append, le-leb, get_or-append-add, slice_index, slice_range}
use Rattle.std.proofs.lemmas.List.{take_at}
use Rattle.std.specs.Str.{encode_utf8_all}
use Rattle.std.specs.Char.{encode_utf8}
use Rattle.std.proofs.lemmas.Str.{encodes-append, encode_ascii, char_from_byte, length-le-encodes}
use Rattle.qvt_lexer.specs.Characters.{is_continue}
use Rattle.qvt_lexer.specs.Literals.{every}
use Rattle.qvt_lexer.specs.Pieces.{IsPlainName}
use Rattle.qvt_lexer.proofs.Runs.{and_left}
use Rattle.qvt_lexer.proofs.Sorts.{quote_continues}
use Rattle.qvt_parser_tokens.specs.Said.{is_quoted, name_of}
use Rattle.qvt_readback_tokens.proofs.Tests.{never_true, is_number}

-- a plain name is not in quotes
four : (a b c d : Bool) → (a && b && c && d) ≡ true → (b ≡ true) × (c ≡ true)
four true true true true h = (refl, refl)
four true true true false h = absurd cc
four true true false d h = absurd cc
four true false c d h = absurd cc
four false b c d h = absurd cc

-- a text whose first byte is ASCII begins with that character
first_is : (c b : ℕ) (rest : List ℕ) → slice_index (encode_utf8 c ++ rest) 0 ≡ b → b < 128 → 0 < b → c ≡ b
first_is c b rest e low some = char_from_byte (encode_utf8 c ++ rest) rest c refl (omega (arith, e)) (filled (encode_utf8 c ++ rest) e) ∙ e where
  filled : (bs : List ℕ) → slice_index bs 0 ≡ b → 0 < length bs
  filled [] h = absurd (omega arith)
  filled (x ∷ bs) h = omega arith

second_quote : (w : List ℕ) → every is_continue w ≡ true → slice_index (encode_utf8_all w) 0 ≡ 39 → ⊥
second_quote [] goes e = absurd (omega (arith, e))
second_quote (d ∷ w) goes e =
    let same : d ≡ 39 = first_is d 39 (encode_utf8_all w) e (omega arith) (omega arith) in
    quote_continues (ap is_continue (sym same) ∙ and_left (is_continue d) (every is_continue w) goes)

unquoted : (c : ℕ) (w : List ℕ) → every is_continue w ≡ true → is_quoted (encode_utf8_all (c ∷ w)) ≡ false
unquoted c w goes = never_true (is_quoted text) (λ h.
    let k = four (nat_le 3 (length text)) (slice_index text 0 == 95) (slice_index text 1 == 39) (slice_index text (length text - 1) == 39) h in
    let line : c ≡ 95 = first_is c 95 (encode_utf8_all w) (is_number (slice_index text 0) 95 k.0) (omega arith) (omega arith) in
    let shown : text ≡ 95 ∷ encode_utf8_all w = ap (λ z. encode_utf8 z ++ encode_utf8_all w) line ∙ ap (λ z. z ++ encode_utf8_all w) (encode_ascii 95 (omega arith)) in
    second_quote w goes (sym (ap (λ z. slice_index z 1) shown) ∙ is_number (slice_index text 1) 39 k.1)) where
      text : List ℕ
      text = encode_utf8 c ++ encode_utf8_all w

pub plain_name : (u : List ℕ) → IsPlainName u → name_of (encode_utf8_all u) ≡ encode_utf8_all u
plain_name u (c, w, e, starts, goes) =
    let text = encode_utf8_all u in
    ap (λ b. cond b (slice_range text 2 (length text - 1)) text) (ap (λ z. is_quoted (encode_utf8_all z)) e ∙ unquoted c w goes)

-- the name between the quotes
module _ (n : List ℕ) (some : 0 < length n) where
  abbrev held : List ℕ
  held = 95 ∷ 39 ∷ (n ++ 39 ∷ [])

  held_length : length held - 1 ≡ length (95 ∷ 39 ∷ n) + 0
  held_length = omega (arith, length-append n (39 ∷ []))

  last_quote : slice_index held (length held - 1) ≡ 39
  last_quote = ap (slice_index held) held_length ∙ get_or-append-add (95 ∷ 39 ∷ n) (39 ∷ []) 0 0

  held_quoted : is_quoted held ≡ true
  held_quoted = λ i. (long i && true && true) && (last_quote i == 39) where
    long : nat_le 3 (length held) ≡ true
    long = le-leb 3 (length held) (omega (arith, length-append n (39 ∷ [])))

  pub held_name : name_of held ≡ n
  held_name =
      ap (λ b. cond b (slice_range held 2 (length held - 1)) held) held_quoted
      ∙ take_at n (39 ∷ []) ((length held - 1) - 2) (omega (arith, length-append n (39 ∷ [])))

-- a name in quotes
pub held_bytes : (v : List ℕ) → encode_utf8_all (95 ∷ 39 ∷ (v ++ 39 ∷ [])) ≡ 95 ∷ 39 ∷ (encode_utf8_all v ++ 39 ∷ [])
held_bytes v =
    (λ i. encode_ascii 95 (omega arith) i ++ (encode_ascii 39 (omega arith) i ++ encodes-append v (39 ∷ []) i))
    ∙ (λ i. 95 ∷ 39 ∷ (encode_utf8_all v ++ (encode_ascii 39 (omega arith) i ++ [])))

pub some_name : (v : List ℕ) → IsPlainName v → 0 < length (encode_utf8_all v)
some_name v (c, w, e, starts, goes) = let k = length-le-encodes v in omega (arith, k, ap length e)
