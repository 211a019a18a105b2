-- With ranks that rise towards the subclasses, more steps than a class's rank change nothing.
use Rattle.std.proofs.Common.{◌≡◌, ℕ, zero, suc, ◌<◌, List, [], ◌++◌, refl, ap, arith}
use Rattle.std.specs.Prelude.{slice_index}
use Rattle.std.specs.List.{flat_map}
use Rattle.qvt_base.specs.declared.numbers.ClassNo.{ClassNo}
use Rattle.qvt_metamodel.specs.declared.info.ClassInfo.{ClassInfo}
use Rattle.qvt_metamodel.specs.Metamodels.{Metamodels, class_at, nowhere_class, features_in, each_once}
use Rattle.qvt_metamodel.specs.Kept.{AreRanks}
use Rattle.qvt_metamodel.proofs.ListFacts.{all-imply, flat_map-cong}

module _ (m : Metamodels) (ranks : List ℕ) (ok : AreRanks m ranks) where
  pub features-stable : (j k c : ℕ) → slice_index ranks c < j → slice_index ranks c < k → features_in j m c ≡ features_in k m c
  features-stable zero k c h i = absurd (omega arith)
  features-stable (suc j) zero c h i = absurd (omega arith)
  features-stable (suc j) (suc k) c h i =
      ap (λ l. each_once [] l ++ (class_at m c).own)
      (flat_map-cong _ _ (class_at m c).supers
      (all-imply (λ (s : ClassNo). slice_index ranks s.0 < slice_index ranks c) (λ (s : ClassNo). features_in j m s.0 ≡ features_in k m s.0) (class_at m c).supers
      (λ s less. features-stable j k s.0 (omega (arith, less, h)) (omega (arith, less, i))) (ok.rise c)))

pub no-features-past : (m : Metamodels) (k c : ℕ) → class_at m c ≡ nowhere_class → features_in k m c ≡ []
no-features-past m zero c e = refl
no-features-past m (suc k) c e = ap (λ (x : ClassInfo). each_once [] (flat_map (λ s. features_in k m s.0) x.supers) ++ x.own) e
