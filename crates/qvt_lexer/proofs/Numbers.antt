-- What comes after the end of a comment, and the numbers that digits write.
use Rattle.std.proofs.Common.{◌≡◌, ℕ, ◌+◌, ◌*◌, ◌-◌, ◌≤◌, ◌<◌, List, [], ◌∷◌, Bool, true, false, ◌&&◌, ◌==◌, nat_le, refl, sym, ap, ◌∙◌, arith, cond, Option, Some, None, inl, inr}
use Rattle.std.proofs.lemmas.Bool.Decides.{nat_tests}
use Rattle.qvt_lexer.specs.Characters.{is_digit}
use Rattle.std.specs.Char.{InScalarRange, OutOfScalarRange}
use Rattle.qvt_lexer.specs.Literals.{every, number_after, greatest_number, after_close, TakenCodePoint, is_surrogate, no_surrogate}
use Rattle.qvt_lexer.specs.Scan.{closes_at}
use Rattle.qvt_lexer.proofs.Runs.{and_right}

none_step : (b : Bool) (d : ℕ) (cs : List ℕ) → ◌≡◌ {A = Option (List ℕ)} (cond b (Some cs) None) None → ◌≡◌ {A = Option (List ℕ)} (cond b (Some cs) (after_close (d ∷ cs))) (after_close (d ∷ cs))
none_step true d cs e = absurd cc
none_step false d cs e = refl

pub close_none : (c : ℕ) (cs : List ℕ) → closes_at c cs ≡ None → after_close (c ∷ cs) ≡ after_close cs
close_none c [] e = refl
close_none c (d ∷ cs) e = none_step (c == 42 && d == 47) d cs e

-- more digits write no smaller number
number_grows : (cs : List ℕ) (v : ℕ) → v ≤ number_after v cs
number_grows [] v = omega arith
number_grows (c ∷ cs) v = let k = number_grows cs (10 * v + (c - 48)) in omega arith

module _ (c d v : ℕ) (cs : List ℕ) (digit : d + 48 ≡ c) where
  pub number_step : number_after (10 * v + d) cs ≡ number_after v (c ∷ cs)
  number_step = ap (λ z. number_after (10 * v + z) cs) (omega arith)

too_large : (n v : ℕ) → v ≤ n → greatest_number < v → nat_le n greatest_number ≡ false
too_large n v le lt = let k : greatest_number < n = omega arith in above n k where
  above : (n : ℕ) → greatest_number < n → nat_le n greatest_number ≡ false
  above n h = grind (arith, nat_tests)

-- the digits so far write too large a number
pub number_above : (n v : ℕ) (cs : List ℕ) → number_after v cs ≡ n → greatest_number < v → nat_le n greatest_number ≡ false
number_above n v cs e lt = too_large n v (let k = number_grows cs v in omega (arith, e)) lt

-- and so do they with one digit more, where they write more than a tenth
pub number_above_tenth : (n v c : ℕ) (cs : List ℕ) → number_after v (c ∷ cs) ≡ n → 922337203685477580 < v → nat_le n greatest_number ≡ false
number_above_tenth n v c cs e lt = number_above n (10 * v + (c - 48)) cs e (omega arith)

pub more_digits : (text more : List ℕ) (c : ℕ) → text ≡ c ∷ more → every is_digit text ≡ true → every is_digit more ≡ true
more_digits text more c e h = and_right (is_digit c) (every is_digit more) (sym (ap (every is_digit) e) ∙ h)

-- a code point of four hexadecimal digits is a character exactly where it is no surrogate
pub whole_character : (x : TakenCodePoint) (v w : ℕ) (s : List ℕ) → x ≡ Some (v, s) → InScalarRange v → w ≡ v → no_surrogate x ≡ Some (w, s)
whole_character x v w s e range same =
    ap no_surrogate e ∙ ap (λ b. cond b None (Some (v, s))) (not_between v range) ∙ ap (λ z. Some (z, s)) (sym same) where
      not_between : (v : ℕ) → InScalarRange v → is_surrogate v ≡ false
      not_between v (inl h) = grind (arith, nat_tests)
      not_between v (inr h) = grind (arith, nat_tests)

pub no_character : (x : TakenCodePoint) (v : ℕ) (s : List ℕ) → x ≡ Some (v, s) → OutOfScalarRange v → v < 65536 → no_surrogate x ≡ None
no_character x v s e range small = ap no_surrogate e ∙ ap (λ b. cond b None (Some (v, s))) (between v range small) where
  between : (v : ℕ) → OutOfScalarRange v → v < 65536 → is_surrogate v ≡ true
  between v (inl h) lt = grind (arith, nat_tests)
  between v (inr h) lt = absurd (omega arith)
