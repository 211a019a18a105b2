-- Lists that are told place by place.
use Rattle.std.proofs.Common.{◌≡◌, ◌∙◌, ℕ, zero, suc, ◌+◌, List, [], ◌∷◌, length, map, get_or, refl, ap, arith}
use Rattle.std.specs.List.{range_with_len}
use Rattle.qvt_base.specs.declared.numbers.FeatureNo.{FeatureNo}
use Rattle.qvt_metamodel.specs.declared.info.ClassInfo.{ClassInfo}
use Rattle.qvt_metamodel.specs.declared.row.Row.{Row}
use Rattle.qvt_metas.specs.Metamodels.{features_of}
use Rattle.qvt_metas.specs.Tables.{of_classes, AreTables}
use Rattle.qvt_types_classes.specs.Inherited.{property_lists}

-- a list is what a function gives of its places
is_map_from : {X : Type 0} (f : ℕ → X) (d : X) (a : ℕ) (xs : List X) → ((i : ℕ) → get_or xs i d ≡ f (a + i)) → xs ≡ map f (range_with_len a (length xs))
is_map_from f d a [] at = refl
is_map_from f d a (x ∷ xs) at =
    let first : x ≡ f a = at zero ∙ ap f (let same : a + 0 ≡ a = omega arith in same) in
    let others : xs ≡ map f (range_with_len (a + 1) (length xs)) = is_map_from f d (a + 1) xs (λ i. at (suc i) ∙ ap f (let same : a + suc i ≡ a + 1 + i = omega arith in same)) in
    (λ t. first t ∷ others t)

-- the tables of classes have the lists of their features
pub lists_are : (ks : List ClassInfo) (lists : List (List FeatureNo)) (rows : List Row) (ranks : List ℕ) → AreTables (of_classes ks) lists rows ranks → lists ≡ property_lists ks
lists_are ks lists rows ranks t =
    is_map_from (features_of (of_classes ks)) [] 0 lists (λ i. t.features i ∙ ap (features_of (of_classes ks)) (let same : i ≡ 0 + i = omega arith in same))
    ∙ ap (λ n. map (features_of (of_classes ks)) (range_with_len 0 n)) t.each
