-- A list of lists is told by the slots.
use Rattle.std.proofs.Common.{◌≡◌, ℕ, zero, suc, ◌<◌, true, ◌==◌, refl, sym, ap, ◌∙◌, subst, List, [], ◌∷◌, map, length, arith}
use Rattle.std.specs.Prelude.{slice_index_or}
use Rattle.std.proofs.lemmas.List.{same_lists, get_or-map, get_or_default}
use Rattle.std.proofs.lemmas.Bool.Decides.{Decides-eqb}
use Rattle.qvt_base.specs.declared.numbers.FeatureNo.{FeatureNo}
use Rattle.qvt_value.specs.declared.value.Value.{Value}
use Rattle.qvt_metamodel.specs.Metamodels.{Metamodels, features_of, among_features}
use Rattle.qvt_metamodel.specs.WellFormed.{IsWellFormed}
use Rattle.qvt_relation.proofs.Bools.{or_left, or_right}
use Rattle.qvt_slots.specs.Contents.{list_of}
use Rattle.qvt_slots.specs.Cells.{IsPlaceOf}
use Rattle.qvt_slots.proofs.Places.{list_of-place}

place_at : (m : Metamodels) (well : IsWellFormed m) (k i : ℕ) → i < length (features_of m k) → IsPlaceOf (features_of m k) (slice_index_or (features_of m k) i (record { 0 = 0 })).0 i
place_at m well k i h = record { within = h; here = refl; earlier = λ j l. well.distinct_features k j i l h }

pub lists_told : (m : Metamodels) (well : IsWellFormed m) (k : ℕ) (lists : List (List Value)) (h : ℕ → List Value) → length lists ≡ length (features_of m k) →
    ((f : ℕ) → among_features f (features_of m k) ≡ true → list_of (features_of m k) lists f ≡ h f) → lists ≡ map (λ (g : FeatureNo). h g.0) (features_of m k)
lists_told m well k lists h l told = same_lists lists (map (λ (g : FeatureNo). h g.0) (features_of m k)) (l ∙ sym (length-mapped (features_of m k)))
    (λ i d b.
    let w : i < length (features_of m k) = subst (λ n. i < n) l b in
    get_or_default lists i d [] b
    ∙ sym (list_of-place (features_of m k) lists (slice_index_or (features_of m k) i none_feature).0 i l (place_at m well k i w))
    ∙ told (slice_index_or (features_of m k) i none_feature).0 (listed_at (features_of m k) i w)
    ∙ sym (get_or-map (λ (g : FeatureNo). h g.0) (features_of m k) i none_feature d w))
  where
    none_feature : FeatureNo
    none_feature = record { 0 = 0 }

    length-mapped : (gs : List FeatureNo) → length (map (λ (g : FeatureNo). h g.0) gs) ≡ length gs
    length-mapped [] = refl
    length-mapped (g ∷ gs) = ap suc (length-mapped gs)

    listed_at : (gs : List FeatureNo) (i : ℕ) → i < length gs → among_features (slice_index_or gs i none_feature).0 gs ≡ true
    listed_at [] i b = absurd (omega arith)
    listed_at (g ∷ gs) zero b = or_left (g.0 == g.0) _ ((Decides-eqb g.0 g.0).1 refl)
    listed_at (g ∷ gs) (suc i) b = or_right (g.0 == (slice_index_or gs i none_feature).0) _ (listed_at gs i (omega arith))
