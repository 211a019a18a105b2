-- Metamodels and one more, the last, which has no name: the class Element, which is above all classes, and after it classes
-- that are declared beside metamodels (QVT 8.2.1.1, intermediate classes).
use Rattle.std.specs.Prelude.{◌≡◌, ℕ, Bool, ◌&&◌, ◌+◌, ◌==◌, ◌<◌, ◌^◌, List, [], ◌∷◌, ◌++◌, length, map, slice_index_or, IsTrue, IsFalse, true, false, Some, None, codes}
use Rattle.std.specs.List.{list_all, list_any, AllByRecursion}
use Rattle.std.specs.Str.{is_utf8}
use Rattle.qvt_base.specs.declared.numbers.ClassNo.{ClassNo}
use Rattle.qvt_relation.specs.Closure.{Closure}
use Rattle.qvt_metamodel.specs.declared.given.ClassData.{ClassData}
use Rattle.qvt_metamodel.specs.declared.given.FeatureData.{FeatureData}
use Rattle.qvt_metamodel.specs.declared.info.ClassInfo.{ClassInfo}
use Rattle.qvt_metamodel.specs.declared.info.FeatureInfo.{FeatureInfo}
use Rattle.qvt_metamodel.specs.declared.info.MetamodelInfo.{MetamodelInfo}
use Rattle.qvt_metamodel.specs.Metamodels.{Metamodels}
use Rattle.qvt_metamodel.specs.WellFormed.{IsLiveKind}
use Rattle.qvt_metamodel.specs.Added.{numbers_from}
use Rattle.qvt_metamodel.specs.Checks.{repeated_feature}

abbrev pub unnamed : MetamodelInfo
unnamed = record { name = []; uri = None; enums = [] }

-- the class Element of the metamodel with this number
abbrev pub element_class : ℕ → ClassInfo
element_class k = record { metamodel = k; name = codes "Element"; is_abstract = true; supers = []; own = [] }

-- a class of metamodel k whose features have the numbers from f on
abbrev pub given_class : ℕ → ℕ → ClassData → ClassInfo
given_class k f c = record { metamodel = k; name = c.name; is_abstract = false; supers = c.supers; own = numbers_from f (length c.features) }

abbrev pub given_classes : ℕ → ℕ → List ClassData → List ClassInfo
given_classes k f [] = []
given_classes k f (c ∷ cs) = given_class k f c ∷ given_classes k (f + length c.features) cs

-- a feature of the class with this number
abbrev pub given_feature : ℕ → FeatureData → FeatureInfo
given_feature owner f = record { owner = record { 0 = owner }; name = f.name; shape = f.shape; opposite = None }

-- the features of the classes, of which the first has this number
abbrev pub given_features : ℕ → List ClassData → List FeatureInfo
given_features owner [] = []
given_features owner (c ∷ cs) = map (given_feature owner) c.features ++ given_features (owner + 1) cs

unfoldable pub extended : Metamodels → List ClassData → Metamodels
extended m cs = record {
  metamodels = m.metamodels ++ unnamed ∷ [];
  classes = m.classes ++ element_class (length m.metamodels) ∷ given_classes (length m.metamodels) (length m.features) cs;
  features = m.features ++ given_features (length m.classes + 1) cs;
  element = Some (record { 0 = length m.classes });
}

abbrev pub given_count : List ClassData → ℕ
given_count [] = 0
given_count (c ∷ cs) = length c.features + given_count cs

-- the number is that of a given class
abbrev pub IsGivenNumber : Metamodels → List ClassData → ClassNo → Type 0
IsGivenNumber m cs s = (length m.classes < s.0) × (s.0 < length m.classes + (1 + length cs))

abbrev pub nothing_given : ClassData
nothing_given = record { name = []; supers = []; features = [] }

-- the given class at j is a superclass of the one at i
abbrev pub is_given_superclass : Metamodels → List ClassData → ℕ → ℕ → Bool
is_given_superclass m cs i j = list_any (λ s. s.0 == length m.classes + (1 + j)) (slice_index_or cs i nothing_given).supers

-- the feature holds what stands elsewhere, and needs no value
pub record IsLoose (f : FeatureData) : Type 0 where
  pub containment : IsFalse f.shape.containment
  pub lower : f.shape.lower ≡ 0

-- the superclasses of the classes are such classes, none of them is above itself, the types of their features are there, no
-- feature is a containment or has a lower bound above 0, and no class has two features of one name
pub record AreGiven (m : Metamodels) (cs : List ClassData) : Type 0 where
  pub supers : AllByRecursion (λ c. AllByRecursion (IsGivenNumber m cs) c.supers) cs
  pub acyclic : (i : ℕ) → Closure (λ x y. IsTrue (is_given_superclass m cs x y)) i i → ⊥
  pub loose : AllByRecursion (λ c. AllByRecursion IsLoose c.features) cs
  pub types : AllByRecursion (λ c. AllByRecursion (λ f. IsLiveKind (extended m cs) f.shape.kind) c.features) cs
  pub names : (i : ℕ) → i < length cs → repeated_feature (extended m cs) (length m.classes + (1 + i)) ≡ None

-- the numbers still fit 32 bits
pub record HasRoomFor (m : Metamodels) (cs : List ClassData) : Type 0 where
  pub metamodels : length m.metamodels + 1 < 2 ^ 32
  pub classes : length m.classes + (1 + length cs) < 2 ^ 32
  pub features : length m.features + given_count cs < 2 ^ 32

-- names are texts
abbrev pub has_text : FeatureData → Bool
has_text f = is_utf8 f.name

abbrev pub has_texts : ClassData → Bool
has_texts c = is_utf8 c.name && list_all has_text c.features
