-- The table of how many features stand before those of each class.
use Rattle.std.proofs.Common.{◌≡◌, ◌∙◌, ℕ, zero, suc, ◌+◌, ◌≤◌, List, [], ◌∷◌, length, take, get_or, arith}
use Rattle.qvt_metamodel.specs.declared.declared.DeclaredClass.{DeclaredClass}
use Rattle.qvt_metas.specs.Added.{feature_count}
use Rattle.qvt_meta.specs.Places.{firsts_of}

pub firsts_length : (n : ℕ) (ks : List DeclaredClass) → length (firsts_of n ks) ≡ length ks + 1
firsts_length n [] = omega arith
firsts_length n (k ∷ ks) = omega (arith, firsts_length (n + length k.features) ks)

pub firsts_of-at : (n : ℕ) (ks : List DeclaredClass) (i d : ℕ) → i ≤ length ks → get_or (firsts_of n ks) i d ≡ n + feature_count (take i ks)
firsts_of-at n [] zero d h = omega arith
firsts_of-at n [] (suc i) d h = absurd (omega arith)
firsts_of-at n (k ∷ ks) zero d h = omega arith
firsts_of-at n (k ∷ ks) (suc i) d h = firsts_of-at (n + length k.features) ks i d (omega arith) ∙ omega arith
