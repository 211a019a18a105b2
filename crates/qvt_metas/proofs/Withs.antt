-- What the code that puts two lists of metamodels together needs of both.
use Rattle.std.proofs.Common.{◌≡◌, ◌∙◌, ℕ, ◌+◌, ◌<◌, ◌^◌, List, ◌++◌, length, map, None, option_map, ap, sym, subst, arith}
use Rattle.std.specs.List.{AllByRecursion}
use Rattle.qvt_base.specs.declared.numbers.FeatureNo.{FeatureNo}
use Rattle.qvt_metamodel.specs.declared.info.MetamodelInfo.{MetamodelInfo}
use Rattle.qvt_metamodel.specs.declared.info.ClassInfo.{ClassInfo}
use Rattle.qvt_metamodel.specs.declared.info.FeatureInfo.{FeatureInfo}
use Rattle.qvt_metamodel.specs.declared.begin.Begin.{Begin}
use Rattle.qvt_metamodel.specs.declared.row.Row.{Row}
use Rattle.qvt_metamodel.specs.Metamodels.{Metamodels}
use Rattle.qvt_metamodel.specs.Kept.{IsKept}
use Rattle.qvt_metamodel.specs.Joined.{ClassFits, FeatureFits, FeaturesFit, class_on, feature_on, class_info_on, feature_info_on, row_on, begin_after, joined, first_some, FitTogether}
use Rattle.qvt_metas.proofs.Fits.{classes_fit, features_fit, lists_fit, rows_fit, ranks_fit}
use Rattle.qvt_metas.proofs.JoinsKept.{first_none}
use Rattle.qvt_metas.proofs.JoinsTables.{kept}

pub record Both (m n : Metamodels) (ln : List (List FeatureNo)) (vs : List Row) (rn : List ℕ) (b : Begin) : Type 0 where
  pub kept : IsKept n ln vs rn
  pub room : FitTogether m n
  pub metamodels : b.metamodel ≡ length m.metamodels
  pub classes : b.class ≡ length m.classes
  pub features : b.feature ≡ length m.features

pub both_of : (m n sm sn : Metamodels) → m ≡ sm → n ≡ sn → FitTogether sm sn → (ln : List (List FeatureNo)) (vs : List Row) (rn : List ℕ) → IsKept n ln vs rn
    → (x y z : ℕ) → x ≡ length m.metamodels → y ≡ length m.classes → z ≡ length m.features → Both m n ln vs rn (record { metamodel = x; class = y; feature = z })
both_of m n sm sn em en room ln vs rn kept x y z ex ey ez = record {
  kept = kept;
  room = subst (λ (u : Metamodels). FitTogether u n) (sym em) (subst (FitTogether sm) (sym en) room);
  metamodels = ex;
  classes = ey;
  features = ez;
}

module _ (m n : Metamodels) (ln : List (List FeatureNo)) (vs : List Row) (rn : List ℕ) (b : Begin) (both : Both m n ln vs rn b) where
  few_ms : b.metamodel + length n.metamodels < 2 ^ 32
  few_ms = omega (arith, both.room.metamodels, both.metamodels)

  few_cs : b.class + length n.classes < 2 ^ 32
  few_cs = omega (arith, both.room.classes, both.classes)

  few_fs : b.feature + length n.features < 2 ^ 32
  few_fs = omega (arith, both.room.features, both.features)

  pub classes_go_on : AllByRecursion (ClassFits b) n.classes
  classes_go_on = classes_fit n b both.kept.well_formed few_ms few_cs few_fs

  pub features_go_on : AllByRecursion (FeatureFits b) n.features
  features_go_on = features_fit n b both.kept.well_formed few_ms few_cs few_fs

  pub lists_go_on : AllByRecursion (FeaturesFit b) ln
  lists_go_on = lists_fit n b both.kept.well_formed few_ms few_cs few_fs ln vs rn both.kept

  pub rows_go_on : AllByRecursion (λ (r : Row). b.class + r.start < 2 ^ 32) vs
  rows_go_on = rows_fit n b both.kept.well_formed few_ms few_cs few_fs ln vs rn both.kept

  pub ranks_go_on : AllByRecursion (λ r. b.class + r < 2 ^ 32) rn
  ranks_go_on = ranks_fit n b both.kept.well_formed few_ms few_cs few_fs ln vs rn both.kept

  begins : b ≡ begin_after m
  begins = λ i. record { metamodel = both.metamodels i; class = both.classes i; feature = both.features i }

  -- the parts as the code makes them
  module _ (ms : List MetamodelInfo) (cs : List ClassInfo) (fs : List FeatureInfo) (other : n.element ≡ None)
      (ems : ms ≡ m.metamodels ++ n.metamodels) (ecs : cs ≡ m.classes ++ map (class_info_on b) n.classes) (efs : fs ≡ m.features ++ map (feature_info_on b) n.features) where
    pub same : record { metamodels = ms; classes = cs; features = fs; element = m.element } ≡ joined m n
    unfolding joined
    same =
        let c1 : cs ≡ m.classes ++ map (class_info_on (begin_after m)) n.classes = ecs ∙ ap (λ x. m.classes ++ map (class_info_on x) n.classes) begins in
        let f1 : fs ≡ m.features ++ map (feature_info_on (begin_after m)) n.features = efs ∙ ap (λ x. m.features ++ map (feature_info_on x) n.features) begins in
        let e1 : m.element ≡ first_some m.element (option_map (class_on (begin_after m)) n.element) = sym (ap (λ e. first_some m.element (option_map (class_on (begin_after m)) e)) other ∙ first_none m.element) in
        λ i. record { metamodels = ems i; classes = c1 i; features = f1 i; element = e1 i }

    pub tables : (lm ls : List (List FeatureNo)) (ws rs : List Row) (rm ks : List ℕ) → IsKept m lm ws rm
        → ls ≡ lm ++ map (map (feature_on b)) ln → rs ≡ ws ++ map (row_on b) vs → ks ≡ rm ++ map (λ r. b.class + r) rn
        → IsKept (record { metamodels = ms; classes = cs; features = fs; element = m.element }) ls rs ks
    tables lm ls ws rs rm ks km els ers eks =
        subst (λ x. IsKept x ls rs ks) (sym same)
        (subst (λ (x : List (List FeatureNo)). IsKept (joined m n) x rs ks) (sym (els ∙ ap (λ x. lm ++ map (map (feature_on x)) ln) begins))
        (subst (λ (x : List Row). IsKept (joined m n) (lm ++ map (map (feature_on (begin_after m))) ln) x ks) (sym (ers ∙ ap (λ x. ws ++ map (row_on x) vs) begins))
        (subst (λ (x : List ℕ). IsKept (joined m n) (lm ++ map (map (feature_on (begin_after m))) ln) (ws ++ map (row_on (begin_after m)) vs) x) (sym (eks ∙ ap (λ (x : Begin). rm ++ map (λ r. x.class + r) rn) begins))
        (kept m n lm ln ws vs rm rn km both.kept other both.room.metamodels both.room.classes both.room.features))))
