-- Lists with each item for itself.
use Rattle.std.proofs.Common.{◌≡◌, List, [], ◌∷◌, map, refl, ap}
use Rattle.qvt_base.specs.declared.numbers.FeatureNo.{FeatureNo}
use Rattle.qvt_metamodel.proofs.Bools.{ap2}

one_same : (fs : List FeatureNo) → map (λ f. f) fs ≡ fs
one_same [] = refl
one_same (f ∷ fs) = ap (λ gs. f ∷ gs) (one_same fs)

pub all_same : (ls : List (List FeatureNo)) → map (map (λ f. f)) ls ≡ ls
all_same [] = refl
all_same (l ∷ ls) = ap2 (λ m ms. m ∷ ms) (one_same l) (all_same ls)
