-- A metamodel's data as numbered data after that of others: its names become numbers.
use Rattle.std.specs.Prelude.{ℕ, zero, suc, false, ◌+◌, ◌<◌, ◌^◌, List, [], ◌∷◌, ◌++◌, length, map, take, position, slice_index_or, Option, Some, None, option_map, unwrap_or, if◌then◌else◌, codes}
use Rattle.std.specs.Str.{bytes_eq}
use Rattle.qvt_base.specs.declared.numbers.FeatureNo.{FeatureNo}
use Rattle.qvt_metamodel.specs.declared.info.TypeKind.{TypeKind}
use Rattle.qvt_metamodel.specs.declared.info.TypeKind.TheVariants.{Bool as BoolKind, Int, Str, Enum, Class}
use Rattle.qvt_metamodel.specs.declared.info.ClassInfo.{ClassInfo}
use Rattle.qvt_metamodel.specs.declared.info.FeatureInfo.{FeatureInfo}
use Rattle.qvt_metamodel.specs.declared.declared.DeclaredFeature.{DeclaredFeature}
use Rattle.qvt_metamodel.specs.declared.declared.DeclaredClass.{DeclaredClass}
use Rattle.qvt_metamodel.specs.declared.begin.Begin.{Begin}
use Rattle.qvt_metamodel.specs.Metamodels.{Metamodels}
use Rattle.qvt_metamodel.specs.Joined.{joined}
use Rattle.qvt_metamodel.specs.MetaData.{MetaData, enum_names, feature_names}

abbrev pub nothing_declared : DeclaredClass
nothing_declared = record { name = []; is_abstract = false; supers = []; features = [] }

abbrev pub declared_at : List DeclaredClass → ℕ → DeclaredClass
declared_at ks i = slice_index_or ks i nothing_declared

abbrev pub names_of : List DeclaredClass → List (List ℕ)
names_of ks = map (λ k. k.name) ks

-- the place of a name that is there
abbrev pub place_in : List (List ℕ) → List ℕ → ℕ
place_in names name = unwrap_or (position (bytes_eq name) names) 0

-- how many features these classes declare
abbrev pub feature_count : List DeclaredClass → ℕ
feature_count [] = 0
feature_count (k ∷ ks) = length k.features + feature_count ks

-- a type that is no primitive one, by the place of its name among the enumerations
abbrev pub enum_or_class : Begin → List (List ℕ) → List ℕ → Option ℕ → TypeKind
enum_or_class b classes name (Some e) = Enum b.metamodel e
enum_or_class b classes name None = Class (record { 0 = b.class + place_in classes name })

-- the type of this name
abbrev pub kind_of : Begin → List (List ℕ) → List (List ℕ) → List ℕ → TypeKind
kind_of b enums classes name =
    if bytes_eq name (codes "Boolean") then BoolKind else (
    if bytes_eq name (codes "Integer") then Int else (
    if bytes_eq name (codes "String") then Str else
    enum_or_class b classes name (position (bytes_eq name) enums)))

-- the feature of this name that the class at i declares
abbrev pub feature_number : Begin → List DeclaredClass → ℕ → List ℕ → FeatureNo
feature_number b ks i name = record { 0 = b.feature + (feature_count (take i ks) + place_in (feature_names (declared_at ks i)) name) }

-- a feature that a class of this number declares, among these enumerations and classes
unfoldable pub feature_info : Begin → List (List ℕ) → List DeclaredClass → ℕ → DeclaredFeature → FeatureInfo
feature_info b enums ks owner f = record {
  owner = record { 0 = owner };
  name = f.name;
  shape = record { kind = kind_of b enums (names_of ks) f.kind; lower = f.lower; upper = f.upper; ordered = f.ordered; unique = f.unique; containment = f.containment };
  opposite = option_map (feature_number b ks (place_in (names_of ks) f.kind)) f.opposite;
}

-- the features of the classes that are left, of which the first has this number
abbrev pub feature_infos : Begin → List (List ℕ) → List DeclaredClass → ℕ → List DeclaredClass → List FeatureInfo
feature_infos b enums ks c [] = []
feature_infos b enums ks c (l ∷ left) = map (feature_info b enums ks c) l.features ++ feature_infos b enums ks (c + 1) left

-- n numbers from f on
abbrev pub numbers_from : ℕ → ℕ → List FeatureNo
numbers_from f zero = []
numbers_from f (suc n) = record { 0 = f } ∷ numbers_from (f + 1) n

-- a class among classes of these names, whose features have the numbers from f on
unfoldable pub class_info : Begin → List (List ℕ) → ℕ → DeclaredClass → ClassInfo
class_info b classes f k = record {
  metamodel = b.metamodel;
  name = k.name;
  is_abstract = k.is_abstract;
  supers = map (λ name. record { 0 = b.class + place_in classes name }) k.supers;
  own = numbers_from f (length k.features);
}

-- the classes that are left, whose features have the numbers from f on
abbrev pub class_infos : Begin → List (List ℕ) → ℕ → List DeclaredClass → List ClassInfo
class_infos b classes f [] = []
class_infos b classes f (k ∷ left) = class_info b classes f k ∷ class_infos b classes (f + length k.features) left

abbrev pub first_begin : Begin
first_begin = record { metamodel = 0; class = 0; feature = 0 }

-- the metamodel alone, its numbers from 0 on
unfoldable pub numbered : MetaData → Metamodels
numbered d = record {
  metamodels = record { name = d.name; uri = d.uri; enums = d.enums } ∷ [];
  classes = class_infos first_begin (names_of d.classes) 0 d.classes;
  features = feature_infos first_begin (enum_names d) d.classes 0 d.classes;
  element = None;
}

-- the metamodels with this one after them
abbrev pub added : Metamodels → MetaData → Metamodels
added m d = joined m (numbered d)

-- the numbers still fit 32 bits when this metamodel is added
pub record HasRoom (m : Metamodels) (d : MetaData) : Type 0 where
  pub metamodels : length m.metamodels + 1 < 2 ^ 32
  pub classes : length m.classes + length d.classes < 2 ^ 32
  pub features : length m.features + feature_count d.classes < 2 ^ 32
  pub enumerations : length d.enums < 2 ^ 32
