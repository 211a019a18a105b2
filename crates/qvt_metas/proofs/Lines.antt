-- The lines of features with numbers that go on: what lists have of them fits.
use Rattle.std.proofs.Common.{◌≡◌, ◌∙◌, ℕ, zero, suc, ◌+◌, ◌-◌, ◌^◌, List, [], ◌∷◌, map, take, get_or, min, refl, ap, arith}
use Rattle.std.specs.List.{AllByRecursion}
use Rattle.std.proofs.lemmas.List.{take-map}
use Rattle.qvt_base.specs.declared.numbers.FeatureNo.{FeatureNo}
use Rattle.qvt_metamodel.specs.declared.begin.Begin.{Begin}
use Rattle.qvt_metamodel.specs.Joined.{feature_on, FeaturesFit}
use Rattle.qvt_metamodel.specs.declared.front.Front.{Front}
use Rattle.qvt_metamodel.specs.Lists.{front_of}
use Rattle.qvt_metas.specs.Held.{capped_on}

features_capped : (b : Begin) (fs : List FeatureNo) → FeaturesFit b fs → map (capped_on b) fs ≡ map (feature_on b) fs
features_capped b [] fit = refl
features_capped b (f ∷ fs) fit = λ i. record { 0 = (let same : min (b.feature + f.0) (2 ^ 32 - 1) ≡ b.feature + f.0 = omega (arith, fit.0) in same) i } ∷ features_capped b fs fit.1 i

line_at : (b : Begin) (lines : List (List FeatureNo)) (l : ℕ) → get_or (map (map (capped_on b)) lines) l [] ≡ map (capped_on b) (get_or lines l [])
line_at b [] l = refl
line_at b (x ∷ lines) zero = refl
line_at b (x ∷ lines) (suc l) = line_at b lines l

lists_of : (b : Begin) (lines : List (List FeatureNo)) (fronts : List Front) → AllByRecursion (FeaturesFit b) (map (front_of lines) fronts)
    → map (front_of (map (map (capped_on b)) lines)) fronts ≡ map (map (feature_on b)) (map (front_of lines) fronts)
lists_of b lines [] fit = refl
lists_of b lines (f ∷ fronts) fit = λ i.
    (ap (take f.count) (line_at b lines f.line) ∙ take-map (capped_on b) f.count (get_or lines f.line []) ∙ features_capped b (front_of lines f) fit.0) i
    ∷ lists_of b lines fronts fit.1 i

pub lists_capped : (b : Begin) (lines : List (List FeatureNo)) (fronts : List Front) (next : List (List FeatureNo)) → next ≡ map (map (capped_on b)) lines
    → AllByRecursion (FeaturesFit b) (map (front_of lines) fronts) → map (front_of next) fronts ≡ map (map (feature_on b)) (map (front_of lines) fronts)
lists_capped b lines fronts next same fit = ap (λ ls. map (front_of ls) fronts) same ∙ lists_of b lines fronts fit
