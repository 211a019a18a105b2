-- A text that is the same as another; a list without its last item, and cut twice.
use Rattle.std.proofs.Common.{◌≡◌, ◌∙◌, ℕ, ◌+◌, ◌-◌, ◌≤◌, zero, suc, refl, true, ap, List, [], ◌∷◌, ◌++◌, length, take, arith}
use Rattle.std.specs.Str.{bytes_eq}
use Rattle.std.proofs.lemmas.List.{length-append}
use Rattle.std.proofs.lemmas.Slice.Eq.{bytes_eq-Decides}
use Rattle.std.proofs.Math.Seq.{take-append_seam}

pub same_text : (a b : List ℕ) → bytes_eq a b ≡ true → a ≡ b
same_text a b h = (bytes_eq-Decides a b).0 h

pub all_but_one : {A : Type 0} (old new : List A) (x : A) (n : ℕ) → length old - n ≡ 1 → old ≡ new ++ x ∷ [] → take n old ≡ new
all_but_one old new x n h is =
    let long : length old ≡ length new + 1 = ap length is ∙ length-append new (x ∷ []) in
    let at : n ≡ length new = omega (arith, h, long) in
    ap (λ k. take k old) at ∙ ap (take (length new)) is ∙ take-append_seam new (x ∷ [])

-- an inner scope ends before the outer one
pub cut_twice : {A : Type 0} (xs : List A) (m n : ℕ) → m ≤ n → take m (take n xs) ≡ take m xs
cut_twice xs zero n h = refl
cut_twice [] (suc m) zero h = refl
cut_twice [] (suc m) (suc n) h = refl
cut_twice (x ∷ xs) (suc m) zero h = absurd (omega (arith, h))
cut_twice (x ∷ xs) (suc m) (suc n) h = ap (λ ys. x ∷ ys) (cut_twice xs m n (omega (arith, h)))
