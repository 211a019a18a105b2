-- A metamodel that passed the checks with the tables that the code makes.
use Rattle.std.proofs.Common.{◌≡◌, ◌∙◌, ◌<◌, ◌^◌, ℕ, List, [], length, map, get_or, ap, arith, sym, subst, None, true}
use Rattle.qvt_base.specs.declared.numbers.FeatureNo.{FeatureNo}
use Rattle.qvt_metamodel.specs.declared.info.FeatureInfo.{FeatureInfo}
use Rattle.qvt_metamodel.specs.declared.row.Row.{Row}
use Rattle.qvt_meta.specs.declared.adding.Numbers.{Numbers}
use Rattle.qvt_metas.specs.Metamodels.{Metamodels, among_features, features_of, nowhere_feature}
use Rattle.qvt_metas.specs.Kept.{IsKept}
use Rattle.qvt_metamodel.specs.declared.declared.MetaData.{MetaData}
use Rattle.qvt_metamodel.specs.Checked.{IsChecked}
use Rattle.qvt_metamodel.specs.MetaData.{enum_names}
use Rattle.qvt_meta.specs.Numbers.{AreNumbers}
use Rattle.qvt_metas.specs.Added.{numbered, first_begin}
use Rattle.qvt_metas.specs.Tables.{of_classes, AreTables}
use Rattle.qvt_json.specs.Repeated.{repeated}
use Rattle.qvt_metamodel.specs.Checks.{repeated_feature}
use Rattle.qvt_metamodel.proofs.Infos.{length-feature_infos}
use Rattle.qvt_meta.proofs.Whole.{M, is_numbered, live_feature_of, well_formed}
use Rattle.qvt_meta_tables.proofs.Same.{tables_same}

pub same_parts : (d : MetaData) (n : Numbers) → AreNumbers d n
    → record { metamodels = n.metamodels.items; classes = n.classes.items; features = n.features.items; element = None } ≡ M d
same_parts d n ok = λ i. record { metamodels = ok.metamodels i; classes = ok.classes i; features = ok.features i; element = None }

pub one_kept : (d : MetaData) (n : Numbers) (lists : List (List FeatureNo)) (rows : List Row) (ranks : List ℕ) → IsChecked d → AreNumbers d n → AreTables (of_classes n.classes.items) lists rows ranks
    → IsKept (record { metamodels = n.metamodels.items; classes = n.classes.items; features = n.features.items; element = None }) lists rows ranks
one_kept d n lists rows ranks ok numbers tables =
    let t : AreTables (M d) lists rows ranks = tables_same (M d) lists rows ranks (subst (λ ks. AreTables (of_classes ks) lists rows ranks) numbers.classes tables) in
    subst (λ m. IsKept m lists rows ranks) (sym (same_parts d n numbers)) (record {
      well_formed = well_formed d ok ranks t.ranked numbers.room numbers.literals;
      ranked = t.ranked;
      each = t.each;
      each_row = t.each_row;
      starts = t.starts;
      features = t.features;
      ancestors = t.ancestors;
    })

pub one_numbered : (d : MetaData) (n : Numbers) → AreNumbers d n
    → record { metamodels = n.metamodels.items; classes = n.classes.items; features = n.features.items; element = None } ≡ numbered d
one_numbered d n ok = same_parts d n ok ∙ sym (is_numbered d)

pub repeated_same : (d : MetaData) (n : Numbers) (c : ℕ) (fs : List FeatureInfo) (gs : List FeatureNo) → AreNumbers d n → fs ≡ n.features.items → gs ≡ features_of (numbered d) c
    → repeated [] (map (λ f. (get_or fs f.0 nowhere_feature).name) gs) ≡ repeated_feature (numbered d) c
repeated_same d n c fs gs ok e is =
    let same : fs ≡ (numbered d).features = e ∙ ok.features ∙ sym (ap (λ (m : Metamodels). m.features) (is_numbered d)) in
    λ i. repeated [] (map (λ f. (get_or (same i) f.0 nowhere_feature).name) (is i))

pub lists_numbered : (d : MetaData) (n : Numbers) (lists : List (List FeatureNo)) (rows : List Row) (ranks : List ℕ) → AreNumbers d n → AreTables (of_classes n.classes.items) lists rows ranks
    → (c : ℕ) → get_or lists c [] ≡ features_of (numbered d) c
lists_numbered d n lists rows ranks ok tables c =
    (tables_same (M d) lists rows ranks (subst (λ ks. AreTables (of_classes ks) lists rows ranks) ok.classes tables)).features c ∙ ap (λ m. features_of m c) (sym (is_numbered d))

pub live_same : (d : MetaData) (n : Numbers) (c : ℕ) (fs : List FeatureInfo) (gs : List FeatureNo) → AreNumbers d n → fs ≡ n.features.items → gs ≡ features_of (numbered d) c
    → (f : ℕ) → among_features f gs ≡ true → f < length fs
live_same d n c fs gs ok e is f h =
    subst (λ (xs : List FeatureInfo). f < length xs) (sym (e ∙ ok.features))
    (live_feature_of d c f (ap (among_features f) (sym (is ∙ ap (λ m. features_of m c) (is_numbered d))) ∙ h))

pub few_features : (d : MetaData) (n : Numbers) → AreNumbers d n → length n.features.items < 2 ^ 32
few_features d n ok =
    omega (arith, ap length ok.features, length-feature_infos first_begin (enum_names d) d.classes 0 d.classes, ok.room.features)
