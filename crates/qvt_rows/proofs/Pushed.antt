-- Lists with one item more behind the others.
use Rattle.std.proofs.Common.{ℕ, zero, suc, ◌<◌, List, [], ◌∷◌, ◌++◌, length, get_or, arith}

pub each_pushed : {X : Type 0} (d : X) (P : X → Type 0) (xs : List X) (x : X) → P d → ((i : ℕ) → P (get_or xs i d)) → P x → (i : ℕ) → P (get_or (xs ++ x ∷ []) i d)
each_pushed d P [] x none all here zero = here
each_pushed d P [] x none all here (suc i) = none
each_pushed d P (y ∷ xs) x none all here zero = all 0
each_pushed d P (y ∷ xs) x none all here (suc i) = each_pushed d P xs x none (λ j. all (suc j)) here i

pub one_pushed : {X : Type 0} (d : X) (P : ℕ → X → Type 0) (xs : List X) (x : X) → ((i : ℕ) → i < length xs → P i (get_or xs i d)) → P (length xs) x
    → (i : ℕ) → i < length (xs ++ x ∷ []) → P i (get_or (xs ++ x ∷ []) i d)
one_pushed d P [] x before here zero l = here
one_pushed d P [] x before here (suc i) l = absurd (omega (arith, l))
one_pushed d P (y ∷ xs) x before here zero l = before 0 (omega arith)
one_pushed d P (y ∷ xs) x before here (suc i) l = one_pushed d (λ j. P (suc j)) xs x (λ j k. before (suc j) (omega (arith, k))) here i (omega (arith, l))
