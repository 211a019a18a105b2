-- How many units pass a test.
use Rattle.std.proofs.Common.{◌≡◌, ◌∙◌, ℕ, suc, ◌+◌, ◌≤◌, Bool, true, false, cond, List, [], ◌∷◌, length, count_by, refl, sym, ap, arith}
use Rattle.std.specs.Prelude.{if◌then◌else◌}
use Rattle.std.proofs.lemmas.List.Sums.{count_by-le-length, sum_by-cons}
use Rattle.qvt_types_groups.specs.Numbers.{numbers_where}
use Rattle.qvt_types_groups.specs.declared.signature.Signature.{Signature}

pub counted : (p : Signature → Bool) (n : ℕ) (us : List Signature) → length (numbers_where p n us) ≡ count_by p us
counted p n [] = refl
counted p n (u ∷ us) = by (p u) (counted p (n + 1) us) ∙ sym (sum_by-cons (λ x. cond (p x) 1 0) u us)
  where
    by : (b : Bool) → length (numbers_where p (n + 1) us) ≡ count_by p us
        → length (if b then n ∷ numbers_where p (n + 1) us else numbers_where p (n + 1) us) ≡ cond b 1 0 + count_by p us
    by true h = ap suc h ∙ (let one : suc (count_by p us) ≡ 1 + count_by p us = omega arith in one)
    by false h = h ∙ (let none : count_by p us ≡ 0 + count_by p us = omega arith in none)

pub few : (p : Signature → Bool) (n : ℕ) (us : List Signature) → length (numbers_where p n us) ≤ length us
few p n us = omega (arith, counted p n us, count_by-le-length p us)
