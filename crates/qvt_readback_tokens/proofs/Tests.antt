-- What tests on characters tell.
use Rattle.std.proofs.Common.{◌≡◌, ℕ, ◌<◌, List, [], ◌∷◌, Bool, true, false, ◌||◌, ◌&&◌, ◌==◌, not, nat_lt, refl, arith}
use Rattle.qvt_words.proofs.Rows.{of_single, of_double}
use Rattle.std.proofs.lemmas.Bool.Decides.{nat_tests}
use Rattle.qvt_words.specs.Words.{is_single_sign, is_double_sign}

-- a test that leads to nothing is not passed
pub never_true : (b : Bool) → (b ≡ true → ⊥) → b ≡ false
never_true true h = absurd (h refl)
never_true false h = refl

pub both : (a b : Bool) → (a && b) ≡ true → (a ≡ true) × (b ≡ true)
both true b h = (refl, h)
both false b h = absurd cc

pub neither : (a b : Bool) → not (a || b) ≡ true → (a ≡ false) × (b ≡ false)
neither true b h = absurd cc
neither false true h = absurd cc
neither false false h = (refl, refl)

pub is_number : (a b : ℕ) → (a == b) ≡ true → a ≡ b
is_number a b h = grind (arith, nat_tests)

-- signs are ASCII
abbrev all_small : List ℕ → Bool
all_small [] = true
all_small (c ∷ u) = nat_lt c 128 && all_small u

pub single_small : (c : ℕ) → is_single_sign c ≡ true → c < 128
single_small c h = let k = of_single all_small c refl h in grind (arith, nat_tests)

pub double_small : (c d : ℕ) → is_double_sign c d ≡ true → (c < 128) × (d < 128)
double_small c d h = let k = of_double all_small c d refl h in (grind (arith, nat_tests), grind (arith, nat_tests))
