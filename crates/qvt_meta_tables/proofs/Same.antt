-- The tables of a list of metamodels are those of its classes alone.
use Rattle.std.proofs.Common.{◌≡◌, ◌∙◌, ℕ, zero, suc, List, [], ◌++◌, length, refl, ap}
use Rattle.qvt_base.specs.declared.numbers.ClassNo.{ClassNo}
use Rattle.qvt_base.specs.declared.numbers.FeatureNo.{FeatureNo}
use Rattle.qvt_metamodel.specs.declared.row.Row.{Row}
use Rattle.qvt_metamodel.specs.Metamodels.{Metamodels, class_at, features_in, features_of, each_once}
use Rattle.qvt_metamodel.specs.Kept.{AreRanks}
use Rattle.qvt_metamodel.proofs.ListFacts.{all-every, flat_map-cong}
use Rattle.qvt_meta_tables.specs.Tables.{of_classes, AreTables}

-- what the tables hold depends on the classes alone
pub features_same : (m : Metamodels) (k c : ℕ) → features_in k (of_classes m.classes) c ≡ features_in k m c
features_same m zero c = refl
features_same m (suc k) c =
    ap (λ l. each_once [] l ++ (class_at m c).own)
    (flat_map-cong _ _ (class_at m c).supers (all-every (λ (s : ClassNo). features_in k (of_classes m.classes) s.0 ≡ features_in k m s.0) (class_at m c).supers (λ s. features_same m k s.0)))

pub features_of_same : (m : Metamodels) (c : ℕ) → features_of (of_classes m.classes) c ≡ features_of m c
unfolding features_of
features_of_same m c = features_same m (length m.classes) c

pub ranks_same : (m : Metamodels) (ranks : List ℕ) → AreRanks (of_classes m.classes) ranks → AreRanks m ranks
ranks_same m ranks ok = record { each = ok.each; bounded = ok.bounded; rise = ok.rise }

pub tables_same : (m : Metamodels) (lists : List (List FeatureNo)) (rows : List Row) (ranks : List ℕ) → AreTables (of_classes m.classes) lists rows ranks → AreTables m lists rows ranks
tables_same m lists rows ranks ok = record {
  ranked = ranks_same m ranks ok.ranked;
  each = ok.each;
  each_row = ok.each_row;
  starts = ok.starts;
  features = λ c. ok.features c ∙ features_of_same m c;
  ancestors = ok.ancestors;
}
