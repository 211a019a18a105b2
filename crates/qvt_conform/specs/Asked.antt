-- The features that ask for an item, since their lower bound is above 0 (EMOF 12.4): an empty slot breaks the bounds of these alone.
use Rattle.std.specs.Prelude.{ℕ, ◌==◌, Bool, nat_lt, nat_eq, if◌then◌else◌, List, [], ◌∷◌, Option, Some, None, IsTrue, ⊤}
use Rattle.std.specs.List.{list_any}
use Rattle.indexmap.specs.IndexMap.{IndexMap, get}
use Rattle.qvt_base.specs.declared.numbers.FeatureNo.{FeatureNo}
use Rattle.qvt_metas.specs.Metamodels.{Metamodels, shape_of, among_features, features_of}
use Rattle.qvt_model.specs.declared.data.SlotData.{SlotData}

abbrev pub asks : Metamodels → ℕ → Bool
asks m f = nat_lt 0 (shape_of m f).lower

-- those of the features that ask for an item
abbrev pub asking : Metamodels → List FeatureNo → List FeatureNo
asking m [] = []
asking m (f ∷ fs) = if asks m f.0 then f ∷ asking m fs else asking m fs

-- there is a slot of feature f
abbrev pub has_slot : List SlotData → ℕ → Bool
has_slot ts f = list_any (λ (t : SlotData). t.feature.0 == f) ts

-- each of these features that asks for an item is in the list
pub record HasAsked (m : Metamodels) (fs asked : List FeatureNo) : Type 0 where
  pub each : (f : ℕ) → IsTrue (among_features f fs) → IsTrue (asks m f) → IsTrue (among_features f asked)

-- each of these features has a slot
pub record HaveAsked (asked : List FeatureNo) (ts : List SlotData) : Type 0 where
  pub each : (f : ℕ) → IsTrue (among_features f asked) → IsTrue (has_slot ts f)

-- each of these features that asks for an item has a slot
pub record AreMet (m : Metamodels) (fs : List FeatureNo) (ts : List SlotData) : Type 0 where
  pub each : (f : ℕ) → IsTrue (among_features f fs) → IsTrue (asks m f) → IsTrue (has_slot ts f)

-- of a class there is no list, or one of those of its features that ask for an item
abbrev pub IfListed : Metamodels → ℕ → Option (List FeatureNo) → Type 0
IfListed m c None = ⊤
IfListed m c (Some asked) = HasAsked m (features_of m c) asked

pub record AreListed {S : Type 0} (m : Metamodels) (lists : IndexMap ℕ (List FeatureNo) S) : Type 0 where
  pub each : (c : ℕ) → IfListed m c (get nat_eq lists c)
