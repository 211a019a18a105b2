-- The numbers of a well formed list of metamodels fit 32 bits where they go on from those of another with room for both.
use Rattle.std.proofs.Common.{◌≡◌, ℕ, zero, suc, ◌+◌, ◌<◌, ◌^◌, List, [], ◌∷◌, ◌++◌, length, true, Option, None, Some, refl, sym, subst, arith, ◌==◌}
use Rattle.std.specs.List.{AllByRecursion, flat_map}
use Rattle.std.proofs.lemmas.Bool.{eq-eqb}
use Rattle.qvt_base.specs.declared.numbers.ClassNo.{ClassNo}
use Rattle.qvt_base.specs.declared.numbers.FeatureNo.{FeatureNo}
use Rattle.qvt_metamodel.specs.declared.info.TypeKind.{TypeKind}
use Rattle.qvt_metamodel.specs.declared.info.TypeKind.TheVariants.{Bool as BoolKind, Int, Str, Enum, Class}
use Rattle.qvt_metamodel.specs.declared.begin.Begin.{Begin}
use Rattle.qvt_metamodel.specs.declared.row.Row.{Row}
use Rattle.qvt_metamodel.specs.Metamodels.{Metamodels, class_at, shape_of, opposite, is_feature_number, features_of, features_in, each_once, among_features, nowhere_class, nowhere_feature, has_feature}
use Rattle.qvt_metamodel.specs.WellFormed.{IsWellFormed, IsLiveKind}
use Rattle.qvt_metamodel.specs.Kept.{IsKept, no_row}
use Rattle.qvt_metamodel.specs.Joined.{FeaturesFit, KindFits, OppositeFits, ClassFits, FeatureFits}
use Rattle.qvt_metamodel.proofs.Bools.{or_right}
use Rattle.qvt_metamodel.proofs.ListFacts.{all-imply, all-found}
use Rattle.qvt_metas.proofs.JoinsKept.{all-at_index, all-among}

among-right : (f : ℕ) (xs ys : List FeatureNo) → among_features f ys ≡ true → among_features f (xs ++ ys) ≡ true
among-right f [] ys h = h
among-right f (x ∷ xs) ys h = or_right (x.0 == f) (among_features f (xs ++ ys)) (among-right f xs ys h)

module _ (n : Metamodels) (b : Begin) (wn : IsWellFormed n)
    (few_ms : b.metamodel + length n.metamodels < 2 ^ 32) (few_cs : b.class + length n.classes < 2 ^ 32) (few_fs : b.feature + length n.features < 2 ^ 32) where
  own_has : (c f : ℕ) → c < length n.classes → among_features f (class_at n c).own ≡ true → has_feature n c f ≡ true
  unfolding features_of
  own_has c f live h = by (length n.classes) live
    where
      by : (k : ℕ) → c < k → among_features f (features_in k n c) ≡ true
      by zero l = absurd (omega arith)
      by (suc k) l = among-right f (each_once [] (flat_map (λ s. features_in k n s.0) (class_at n c).supers)) (class_at n c).own h

  pub classes_fit : AllByRecursion (ClassFits b) n.classes
  classes_fit = all-at_index (ClassFits b) n.classes nowhere_class (λ c live. record {
    metamodel = omega (arith, wn.live_metamodel c live, few_ms);
    supers = all-imply (λ (s : ClassNo). s.0 < length n.classes) (λ (s : ClassNo). b.class + s.0 < 2 ^ 32) (class_at n c).supers (λ s l. omega (arith, l, few_cs)) (all-found (λ d. d < length n.classes) (class_at n c).supers (wn.live_superclass c));
    own = all-imply (λ (f : FeatureNo). f.0 < length n.features) (λ (f : FeatureNo). b.feature + f.0 < 2 ^ 32) (class_at n c).own (λ f l. omega (arith, l, few_fs))
        (all-among (λ f. f < length n.features) (class_at n c).own (λ f h. wn.live_feature c f (own_has c f live h)));
  })

  kind_fits : (k : TypeKind) → IsLiveKind n k → KindFits b k
  kind_fits BoolKind live = tt
  kind_fits Int live = tt
  kind_fits Str live = tt
  kind_fits (Enum k e) live = omega (arith, live.0, few_ms)
  kind_fits (Class c) live = omega (arith, live, few_cs)

  opposite_fits : (p : ℕ) (o : Option FeatureNo) → o ≡ opposite n p → OppositeFits b o
  opposite_fits p None is = tt
  opposite_fits p (Some f) is = omega (arith, wn.live_opposite p f.0 (subst (λ (o : Option FeatureNo). is_feature_number o f.0 ≡ true) is (eq-eqb f.0 f.0 refl)), few_fs)

  pub features_fit : AllByRecursion (FeatureFits b) n.features
  features_fit = all-at_index (FeatureFits b) n.features nowhere_feature (λ f live. record {
    owner = omega (arith, wn.live_owner f live, few_cs);
    kind = kind_fits (shape_of n f).kind (wn.live_type f live);
    opposite = opposite_fits f (opposite n f) refl;
  })

  module _ (lists : List (List FeatureNo)) (rows : List Row) (ranks : List ℕ) (kept : IsKept n lists rows ranks) where
    pub lists_fit : AllByRecursion (FeaturesFit b) lists
    lists_fit = all-at_index (FeaturesFit b) lists [] (λ c h. subst (FeaturesFit b) (sym (kept.features c))
        (all-imply (λ (f : FeatureNo). f.0 < length n.features) (λ (f : FeatureNo). b.feature + f.0 < 2 ^ 32) (features_of n c) (λ f l. omega (arith, l, few_fs))
        (all-among (λ f. f < length n.features) (features_of n c) (wn.live_feature c))))

    pub rows_fit : AllByRecursion (λ (r : Row). b.class + r.start < 2 ^ 32) rows
    rows_fit = all-at_index (λ (r : Row). b.class + r.start < 2 ^ 32) rows no_row (λ c h. omega (arith, kept.starts c, few_cs))

    pub ranks_fit : AllByRecursion (λ r. b.class + r < 2 ^ 32) ranks
    ranks_fit = all-at_index (λ r. b.class + r < 2 ^ 32) ranks 0 (λ c h. omega (arith, kept.ranked.bounded c (omega (arith, h, kept.ranked.each)), few_cs))
