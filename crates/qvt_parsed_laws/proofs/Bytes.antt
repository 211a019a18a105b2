-- What tokens say is no longer than what is written, in bytes.
use Rattle.std.proofs.Common.{◌≡◌, ℕ, zero, suc, ◌+◌, ◌-◌, ◌*◌, ◌≤◌, ◌<◌, List, [], ◌∷◌, ◌++◌, length, take, drop, Bool, true, false, ◌||◌, ◌&&◌, ◌==◌, cond, refl, ap, ◌∙◌, arith, length-append, Option, Some, None}
use Rattle.std.specs.Char.{len_utf8}
use Rattle.std.specs.Str.{encode_utf8_all}
use Rattle.std.proofs.lemmas.Bool.Decides.{nat_tests}
use Rattle.std.proofs.lemmas.Str.{chars-encodes, length-encode, len_utf8_bounds, len_utf8_ascii}
use Rattle.std.specs.Prelude.{encode_utf8}
use lib.Utf8.{scalar, scalars}
use Rattle.qvt_lexer.specs.Characters.{is_hex, hex_value}
use Rattle.qvt_lexer.specs.Literals.{TakenCodePoint, hex_at, is_surrogate, no_surrogate, simple_escape, simple_at, escape_at, item_at}
use Rattle.qvt_lexer.specs.declared.token.TokenKind.{TokenKind}
use Rattle.qvt_lexer.specs.declared.token.TokenKind.TheVariants as kinds
use Rattle.qvt_parser_tokens.specs.Said.{is_quoted, items, string_of, text_of}

abbrev pub bytes : List ℕ → ℕ
bytes cs = length (encode_utf8_all cs)

pub bytes_more : (c : ℕ) (cs : List ℕ) → bytes (c ∷ cs) ≡ len_utf8 c + bytes cs
bytes_more c cs = omega (arith, length-append (encode_utf8 c) (encode_utf8_all cs), length-encode c)

one_byte : (c : ℕ) (cs : List ℕ) → suc (bytes cs) ≤ bytes (c ∷ cs)
one_byte c cs = omega (arith, bytes_more c cs, (len_utf8_bounds c).0)

pub bytes_append : (u v : List ℕ) → bytes (u ++ v) ≡ bytes u + bytes v
bytes_append [] v = omega arith
bytes_append (c ∷ u) v = omega (arith, bytes_more c (u ++ v), bytes_more c u, bytes_append u v)

-- an item takes as many bytes as its character has
abbrev Takes : ℕ → List ℕ → TakenCodePoint → Type 0
Takes n cs None = Unit {0}
Takes n cs (Some (v, s)) = n + bytes s ≤ bytes cs

hex_step : (n : ℕ) (c : ℕ) (cs : List ℕ) (b : Bool) (x : TakenCodePoint) → Takes n cs x → Takes (suc n) (c ∷ cs) (cond b x None)
hex_step n c cs false x h = tt
hex_step n c cs true None h = tt
hex_step n c cs true (Some (v, s)) h = omega (arith, h, one_byte c cs)

hex_takes : (n v : ℕ) (cs : List ℕ) → Takes n cs (hex_at n v cs)
hex_takes zero v cs = omega arith
hex_takes (suc n) v [] = tt
hex_takes (suc n) v (c ∷ cs) = hex_step n c cs (is_hex c) (hex_at n (16 * v + hex_value c) cs) (hex_takes n (16 * v + hex_value c) cs)

-- the bytes of the character, and of what is left
abbrev Fits : List ℕ → TakenCodePoint → Type 0
Fits cs None = Unit {0}
Fits cs (Some (v, s)) = len_utf8 v + bytes s ≤ bytes cs

-- after a backslash and a letter there is room for two bytes more
abbrev FitsEscape : List ℕ → TakenCodePoint → Type 0
FitsEscape cs None = Unit {0}
FitsEscape cs (Some (v, s)) = len_utf8 v + bytes s ≤ suc (bytes cs)

two_digits : (c : ℕ) (cs : List ℕ) (x : TakenCodePoint) → Takes 2 cs x → FitsEscape (c ∷ cs) x
two_digits c cs None h = tt
two_digits c cs (Some (v, s)) h = omega (arith, h, one_byte c cs, (len_utf8_bounds v).1)

surrogate_step : (c : ℕ) (cs : List ℕ) (v : ℕ) (s : List ℕ) (b : Bool) → 4 + bytes s ≤ bytes cs → FitsEscape (c ∷ cs) (cond b None (Some (v, s)))
surrogate_step c cs v s true h = tt
surrogate_step c cs v s false h = omega (arith, h, one_byte c cs, (len_utf8_bounds v).1)

four_digits : (c : ℕ) (cs : List ℕ) (x : TakenCodePoint) → Takes 4 cs x → FitsEscape (c ∷ cs) (no_surrogate x)
four_digits c cs None h = tt
four_digits c cs (Some (v, s)) h = surrogate_step c cs v s (is_surrogate v) h

-- an escape of one letter stands for an ASCII character
abbrev IsAscii : Option ℕ → Type 0
IsAscii None = Unit {0}
IsAscii (Some v) = v < 128

one_of : (b : Bool) (v : ℕ) (x : Option ℕ) → v < 128 → IsAscii x → IsAscii (cond b (Some v) x)
one_of true v x lt h = lt
one_of false v x lt h = h

itself : (c : ℕ) (b : Bool) → (c == 34 || c == 39 || c == 92) ≡ b → IsAscii (cond b (Some c) None)
itself c true e = grind (arith, nat_tests)
itself c false e = tt

simple_ascii : (c : ℕ) → IsAscii (simple_escape c)
simple_ascii c =
    let last = itself c (c == 34 || c == 39 || c == 92) refl in
    one_of (c == 98) 8 _ (omega arith) (one_of (c == 116) 9 _ (omega arith) (one_of (c == 110) 10 _ (omega arith) (one_of (c == 102) 12 _ (omega arith) (one_of (c == 114) 13 _ (omega arith) last))))

simple_fits : (c : ℕ) (cs : List ℕ) (x : Option ℕ) → IsAscii x → FitsEscape (c ∷ cs) (simple_at x cs)
simple_fits c cs None h = tt
simple_fits c cs (Some v) h = omega (arith, len_utf8_ascii v h, one_byte c cs)

escape_cases : (c : ℕ) (cs : List ℕ) (b d : Bool) → FitsEscape (c ∷ cs) (cond b (hex_at 2 0 cs) (cond d (no_surrogate (hex_at 4 0 cs)) (simple_at (simple_escape c) cs)))
escape_cases c cs true d = two_digits c cs (hex_at 2 0 cs) (hex_takes 2 0 cs)
escape_cases c cs false true = four_digits c cs (hex_at 4 0 cs) (hex_takes 4 0 cs)
escape_cases c cs false false = simple_fits c cs (simple_escape c) (simple_ascii c)

escape_fits : (cs : List ℕ) → FitsEscape cs (escape_at cs)
escape_fits [] = tt
escape_fits (c ∷ cs) = escape_cases c cs (c == 120) (c == 117)

after_backslash : (c : ℕ) (cs : List ℕ) (x : TakenCodePoint) → FitsEscape cs x → Fits (c ∷ cs) x
after_backslash c cs None h = tt
after_backslash c cs (Some (v, s)) h = omega (arith, h, one_byte c cs)

item_cases : (c : ℕ) (cs : List ℕ) (b d : Bool) → Fits (c ∷ cs) (cond b None (cond d (escape_at cs) (Some (c, cs))))
item_cases c cs true d = tt
item_cases c cs false true = after_backslash c cs (escape_at cs) (escape_fits cs)
item_cases c cs false false = omega (arith, bytes_more c cs)

item_fits : (q : ℕ) (cs : List ℕ) → Fits cs (item_at q cs)
item_fits q [] = tt
item_fits q (c ∷ cs) = item_cases c cs (c == q || c == 10) (c == 92)

taken_short : (n q : ℕ) (cs : List ℕ) (x : TakenCodePoint) → Fits cs x → ((s : List ℕ) → bytes (items n q s) ≤ bytes s) → bytes (elim x [ None ↦ [] | Some y ↦ y.0 ∷ items n q y.1 ]) ≤ bytes cs
taken_short n q cs None h k = omega arith
taken_short n q cs (Some (v, s)) h k = omega (arith, h, k s, bytes_more v (items n q s))

items_short : (n q : ℕ) (cs : List ℕ) → bytes (items n q cs) ≤ bytes cs
items_short zero q cs = omega arith
items_short (suc n) q cs = taken_short n q cs (item_at q cs) (item_fits q cs) (items_short n q)

string_short : (cs : List ℕ) → bytes (string_of cs) ≤ bytes cs
string_short [] = omega arith
string_short (q ∷ cs) = omega (arith, items_short (length cs) q cs, one_byte q cs)

take_short : (n : ℕ) (xs : List ℕ) → length (take n xs) ≤ length xs
take_short zero xs = omega arith
take_short (suc n) [] = omega arith
take_short (suc n) (x ∷ xs) = omega (arith, take_short n xs)

drop_short : (n : ℕ) (xs : List ℕ) → length (drop n xs) ≤ length xs
drop_short zero xs = omega arith
drop_short (suc n) [] = omega arith
drop_short (suc n) (x ∷ xs) = omega (arith, drop_short n xs)

name_cases : (text : List ℕ) (b : Bool) → length (cond b (take (length text - 1 - 2) (drop 2 text)) text) ≤ length text
name_cases text true = omega (arith, take_short (length text - 1 - 2) (drop 2 text), drop_short 2 text)
name_cases text false = omega arith

-- characters of a text, of which each part has characters too
parts_step : (c : ℕ) (u v : List ℕ) (b : Bool) → scalar c ≡ b → (scalars (u ++ v) ≡ true → (scalars u ≡ true) × (scalars v ≡ true)) → (b && scalars (u ++ v)) ≡ true → (scalars (c ∷ u) ≡ true) × (scalars v ≡ true)
parts_step c u v false e more k = absurd cc
parts_step c u v true e more k = let parts = more k in (ap (λ z. z && scalars u) e ∙ parts.0, parts.1)

pub scalars_parts : (u v : List ℕ) → scalars (u ++ v) ≡ true → (scalars u ≡ true) × (scalars v ≡ true)
scalars_parts [] v h = (refl, h)
scalars_parts (c ∷ u) v h = parts_step c u v (scalar c) refl (scalars_parts u v) h

-- what a token says that is written so
pub text_short : (kind : TokenKind) (u : List ℕ) → scalars u ≡ true → length (text_of kind (encode_utf8_all u)) ≤ bytes u
text_short kinds.Name u s = name_cases (encode_utf8_all u) (is_quoted (encode_utf8_all u))
text_short kinds.Str u s = omega (arith, ap (λ z. bytes (string_of z)) (chars-encodes u s), string_short u)
text_short kind u s = omega arith
