-- What every list of metamodels keeps, since each of its metamodels passed the checks (EMOF 12.5).
use Rattle.std.specs.Prelude.{◌≡◌, ◌≢◌, ℕ, ◌<◌, ◌^◌, length, slice_index_or, IsTrue, IsFalse, Some, []}
use Rattle.std.specs.Str.{is_utf8}
use Rattle.qvt_metamodel.specs.declared.info.TypeKind.{TypeKind}
use Rattle.qvt_metamodel.specs.declared.info.TypeKind.TheVariants.{Bool as BoolKind, Int, Str, Enum, Class}
use Rattle.qvt_metamodel.specs.Metamodels.{Metamodels, class_at, feature_at, shape_of, is_opposite, is_containment, is_single, features_of, has_feature, is_element}
use Rattle.qvt_metamodel.specs.Descends.{is_class_kind, is_class_type, is_superclass, Inherits, descends}
use Rattle.qvt_metamodel.specs.Named.{metamodel_at, enumeration_at, literal_at, class_named, feature_named, enumeration_named, literal_named}

-- the numbers inside a type are those of a metamodel, an enumeration and a class that are there
abbrev pub IsLiveKind : Metamodels → TypeKind → Type 0
IsLiveKind m BoolKind = Unit {0}
IsLiveKind m Int = Unit {0}
IsLiveKind m Str = Unit {0}
IsLiveKind m (Enum k e) = (k < length m.metamodels) × (e < length (metamodel_at m k).enums)
IsLiveKind m (Class c) = c.0 < length m.classes

-- descent is an order that hands features down; the class above all is apart; a containment holds objects, each once
pub record IsRegular (m : Metamodels) : Type 0 where
  -- no class is above itself
  pub acyclic : (c : ℕ) → Inherits m c c → ⊥
  pub antisymmetric : (c d : ℕ) → IsTrue (descends m c d) → IsTrue (descends m d c) → c ≡ d
  pub transitive : (c d e : ℕ) → IsTrue (descends m c d) → IsTrue (descends m d e) → IsTrue (descends m c e)
  -- who descends from a class has its features
  pub inherited : (c d f : ℕ) → IsTrue (descends m c d) → IsTrue (has_feature m d f) → IsTrue (has_feature m c f)
  -- the class above all, where there is one, is abstract, has no features and no superclass
  pub live_element : (c : ℕ) → IsTrue (is_element m c) → c < length m.classes
  pub abstract_element : (c : ℕ) → IsTrue (is_element m c) → IsTrue (class_at m c).is_abstract
  pub featureless_element : (c f : ℕ) → IsTrue (is_element m c) → IsFalse (has_feature m c f)
  pub topmost_element : (c d : ℕ) → IsTrue (is_element m c) → IsFalse (is_superclass m c d)
  -- containments
  pub object_containments : (f : ℕ) → IsTrue (is_containment m f) → IsTrue (is_class_type (shape_of m f).kind)
  pub unique_containments : (f : ℕ) → IsTrue (is_containment m f) → IsTrue (shape_of m f).unique
  -- a class of a metamodel without a name has no feature that is a containment or has a lower bound
  pub unnamed_empty : (c f : ℕ) → IsTrue (has_feature m c f) → (metamodel_at m (class_at m c).metamodel).name ≡ [] → IsFalse (is_containment m f)
  pub unnamed_optional : (c f : ℕ) → IsTrue (has_feature m c f) → (metamodel_at m (class_at m c).metamodel).name ≡ [] → (shape_of m f).lower ≡ 0

-- the same, which no search for a proof looks into: so many facts would end it
unfoldable pub Regular : Metamodels → Type 0
Regular m = IsRegular m

pub record IsWellFormed (m : Metamodels) : Type 0 where
  -- there are few of each, so that their numbers fit 32 bits
  pub few_metamodels : length m.metamodels < 2 ^ 32
  pub few_classes : length m.classes < 2 ^ 32
  pub few_features : length m.features < 2 ^ 32
  pub few_enumerations : (k : ℕ) → length (metamodel_at m k).enums < 2 ^ 32
  pub few_literals : (k e : ℕ) → length (enumeration_at m k e).literals < 2 ^ 32
  -- the numbers inside are those of what is there
  pub live_metamodel : (c : ℕ) → c < length m.classes → (class_at m c).metamodel < length m.metamodels
  pub live_superclass : (c d : ℕ) → IsTrue (is_superclass m c d) → d < length m.classes
  pub live_owner : (f : ℕ) → f < length m.features → (feature_at m f).owner.0 < length m.classes
  pub live_feature : (c f : ℕ) → IsTrue (has_feature m c f) → f < length m.features
  pub live_class : (c f : ℕ) → IsTrue (has_feature m c f) → c < length m.classes
  pub live_opposite : (p q : ℕ) → IsTrue (is_opposite m p q) → q < length m.features
  pub live_type : (f : ℕ) → f < length m.features → IsLiveKind m (shape_of m f).kind
  pub regular : Regular m
  -- opposites
  pub mutual_opposites : (p q : ℕ) → IsTrue (is_opposite m p q) → IsTrue (is_opposite m q p)
  pub other_feature : (p : ℕ) → IsFalse (is_opposite m p p)
  pub one_containment : (p q : ℕ) → IsTrue (is_opposite m p q) → IsTrue (is_containment m p) → IsFalse (is_containment m q)
  pub one_container : (p q : ℕ) → IsTrue (is_opposite m p q) → IsTrue (is_containment m p) → IsTrue (is_single m q)
  pub unique_opposites : (p q : ℕ) → IsTrue (is_opposite m p q) → IsTrue (shape_of m p).unique
  pub opposite_has_type : (p q c : ℕ) → IsTrue (is_opposite m p q) → IsTrue (has_feature m c p) → IsTrue (is_class_kind m c (shape_of m q).kind)
  pub type_has_opposite : (p q c : ℕ) → IsTrue (is_opposite m p q) → IsTrue (is_class_kind m c (shape_of m p).kind) → IsTrue (has_feature m c q)
  -- a class of a metamodel without a name has no feature with an opposite
  pub unnamed_alone : (p q c : ℕ) → IsTrue (has_feature m c p) → (metamodel_at m (class_at m c).metamodel).name ≡ [] → IsFalse (is_opposite m p q)
  -- no class has a feature twice
  pub distinct_features : (c i j : ℕ) → i < j → j < length (features_of m c) → (slice_index_or (features_of m c) i (record { 0 = 0 })).0 ≢ (slice_index_or (features_of m c) j (record { 0 = 0 })).0
  -- names are texts, and each name finds what has it
  pub text_metamodel : (k : ℕ) → IsTrue (is_utf8 (metamodel_at m k).name)
  pub text_class : (c : ℕ) → IsTrue (is_utf8 (class_at m c).name)
  pub text_feature : (f : ℕ) → IsTrue (is_utf8 (feature_at m f).name)
  pub text_enumeration : (k e : ℕ) → IsTrue (is_utf8 (enumeration_at m k e).name)
  pub text_literal : (k e l : ℕ) → IsTrue (is_utf8 (literal_at m k e l))
  -- (a class of a metamodel without a name may have the name of another)
  pub class_found : (c : ℕ) → c < length m.classes → (metamodel_at m (class_at m c).metamodel).name ≢ [] → class_named m (class_at m c).metamodel (class_at m c).name ≡ Some c
  pub feature_found : (c f : ℕ) → IsTrue (has_feature m c f) → feature_named m c (feature_at m f).name ≡ Some (record { 0 = f })
  pub enumeration_found : (k e : ℕ) → e < length (metamodel_at m k).enums → enumeration_named m k (enumeration_at m k e).name ≡ Some e
  pub literal_found : (k e l : ℕ) → l < length (enumeration_at m k e).literals → literal_named m k e (literal_at m k e l) ≡ Some l
