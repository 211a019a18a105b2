-- A row without words has no marks.
use Rattle.std.proofs.Common.{◌≡◌, ◌∙◌, ℕ, Bool, true, false, refl, ap, ◌==◌, ◌&&◌, ◌-◌, ◌/◌, ◌%◌, leb, cond}
use Rattle.std.specs.Prelude.{if◌then◌else◌}
use Rattle.std.specs.Int.{bit_at}
use Rattle.std.proofs.lemmas.Nat.Bits.{bit_at-zero}
use Rattle.qvt_metamodel.specs.Kept.{is_bit, is_marked, no_row, word_of}
use Rattle.qvt_metamodel.proofs.Bools.{and_no}

pub no_bit : (k : ℕ) → is_bit 0 k ≡ false
no_bit k = ap (λ x. x == 1) (bit_at-zero k)

no_word : (n : ℕ) → word_of no_row n ≡ 0
no_word n = by (leb 0 n) 0
  where
    by : (b : Bool) (w : ℕ) → (if b then w else w) ≡ w
    by true w = refl
    by false w = refl

pub no_mark : (d : ℕ) → is_marked no_row d ≡ false
no_mark d = and_no (leb 0 d) (is_bit (word_of no_row ((d - 0) / 64)) ((d - 0) % 64)) (ap (λ w. is_bit w ((d - 0) % 64)) (no_word ((d - 0) / 64)) ∙ no_bit ((d - 0) % 64))
