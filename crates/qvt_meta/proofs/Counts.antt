-- How many features stand before those of a class.
use Rattle.std.proofs.Common.{ℕ, zero, suc, ◌+◌, ◌≤◌, List, [], ◌∷◌, length, take, arith}
use Rattle.qvt_metamodel.specs.declared.declared.DeclaredClass.{DeclaredClass}
use Rattle.qvt_metas.specs.Added.{declared_at, feature_count}

pub count_within : (ks : List DeclaredClass) (i : ℕ) → feature_count (take i ks) + length (declared_at ks i).features ≤ feature_count ks
count_within [] zero = omega arith
count_within [] (suc i) = omega arith
count_within (k ∷ ks) zero = omega arith
count_within (k ∷ ks) (suc i) = omega (arith, count_within ks i)
