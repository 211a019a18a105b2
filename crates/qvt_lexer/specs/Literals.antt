-- Runs of characters, numbers, and what stands between quotes.
use Rattle.std.specs.Prelude.{◌≡◌, ℕ, zero, suc, ◌+◌, ◌*◌, ◌-◌, Bool, true, false, ◌||◌, ◌&&◌, ◌==◌, nat_le, List, [], ◌∷◌, Option, Some, None, if◌then◌else◌}
use Rattle.qvt_lexer.specs.Characters.{is_hex, hex_value}

-- the longest front of characters that pass the test
abbrev pub run : (ℕ → Bool) → List ℕ → List ℕ
run p [] = []
run p (c ∷ cs) = if p c then c ∷ run p cs else []

-- what is left after it
abbrev pub skip : (ℕ → Bool) → List ℕ → List ℕ
skip p [] = []
skip p (c ∷ cs) = if p c then skip p cs else c ∷ cs

-- each character passes the test
abbrev pub every : (ℕ → Bool) → List ℕ → Bool
every p [] = true
every p (c ∷ cs) = p c && every p cs

abbrev pub begins : (ℕ → Bool) → List ℕ → Bool
begins p [] = false
begins p (c ∷ cs) = p c

-- the number that decimal digits write, after those of value v
abbrev pub number_after : ℕ → List ℕ → ℕ
number_after v [] = v
number_after v (c ∷ cs) = number_after (10 * v + (c - 48)) cs

abbrev pub number_of : List ℕ → ℕ
number_of cs = number_after 0 cs

abbrev pub greatest_number : ℕ
greatest_number = 9223372036854775807

-- what is left after the first `*/`, where there is one
abbrev pub after_close : List ℕ → Option (List ℕ)
after_close [] = None
after_close (c ∷ []) = None
after_close (c ∷ d ∷ cs) = if c == 42 && d == 47 then Some cs else after_close (d ∷ cs)

-- a code point with what is left
abbrev pub TakenCodePoint : Type 0
TakenCodePoint = Option (ℕ × List ℕ)

-- n hexadecimal digits, after those of value v
abbrev pub hex_at : ℕ → ℕ → List ℕ → TakenCodePoint
hex_at zero v cs = Some (v, cs)
hex_at (suc n) v [] = None
hex_at (suc n) v (c ∷ cs) = if is_hex c then hex_at n (16 * v + hex_value c) cs else None

-- the code points that are no characters
abbrev pub is_surrogate : ℕ → Bool
is_surrogate v = nat_le 55296 v && nat_le v 57343

abbrev pub no_surrogate : TakenCodePoint → TakenCodePoint
no_surrogate None = None
no_surrogate (Some (v, cs)) = if is_surrogate v then None else Some (v, cs)

-- b t n f r " ' and the backslash
abbrev pub simple_escape : ℕ → Option ℕ
simple_escape c =
    if c == 98 then Some 8 else if c == 116 then Some 9 else if c == 110 then Some 10 else if c == 102 then Some 12 else if c == 114 then Some 13
    else if c == 34 || c == 39 || c == 92 then Some c else None

abbrev pub simple_at : Option ℕ → List ℕ → TakenCodePoint
simple_at None cs = None
simple_at (Some v) cs = Some (v, cs)

-- the character that an escape stands for, by what comes after its backslash: x and two hexadecimal digits, u and four, or
-- one character
abbrev pub escape_at : List ℕ → TakenCodePoint
escape_at [] = None
escape_at (c ∷ cs) = if c == 120 then hex_at 2 0 cs else if c == 117 then no_surrogate (hex_at 4 0 cs) else simple_at (simple_escape c) cs

-- a character between two quotes q, escaped or not; at a quote, a line feed and a backslash that begins no escape there is
-- none
abbrev pub item_at : ℕ → List ℕ → TakenCodePoint
item_at q [] = None
item_at q (c ∷ cs) = if c == q || c == 10 then None else if c == 92 then escape_at cs else Some (c, cs)

-- these characters, one item after the other, and then what is left
abbrev pub Content : ℕ → List ℕ → List ℕ → List ℕ → Type 0
Content q cs [] r = cs ≡ r
Content q cs (v ∷ vs) r = (s : List ℕ) × (item_at q cs ≡ Some (v, s)) × Content q s vs r
