-- The conditions on classes that are declared beside metamodels (QVT 8.2.1.1, intermediate classes) as tests.
use Rattle.std.specs.Prelude.{◌≡◌, ℕ, Bool, true, not, ◌&&◌, ◌==◌, ◌+◌, ◌<◌, ◌^◌, nat_lt, List, [], ◌∷◌, length, map, None, is_none, slice_index_or, IsTrue}
use Rattle.std.specs.List.{list_all}
use Rattle.qvt_base.specs.declared.numbers.ClassNo.{ClassNo}
use Rattle.qvt_base.specs.declared.numbers.FeatureNo.{FeatureNo}
use Rattle.qvt_metamodel.specs.Repeated.{repeated}
use Rattle.qvt_metamodel.specs.declared.given.ClassData.{ClassData}
use Rattle.qvt_metamodel.specs.declared.given.FeatureData.{FeatureData}
use Rattle.qvt_metamodel.specs.declared.info.FeatureInfo.{FeatureInfo}
use Rattle.qvt_metamodel.specs.declared.info.TypeKind.{TypeKind}
use Rattle.qvt_metamodel.specs.declared.info.TypeKind.TheVariants.{Bool as BoolKind, Int, Str, Enum, Class}
use Rattle.qvt_relation.specs.Closure.{Closure}
use Rattle.qvt_metas.specs.Metamodels.{Metamodels, nowhere_feature}
use Rattle.qvt_metamodel.specs.Checks.{repeated_feature}
use Rattle.qvt_metas.specs.Named.{metamodel_at}
use Rattle.qvt_metas.specs.Extended.{given_count, extended, is_given_superclass}

-- the numbers fit 32 bits
abbrev pub fits : ℕ → Bool
fits n = nat_lt n (2 ^ 32)

abbrev pub has_room_for : Metamodels → List ClassData → Bool
has_room_for m cs = fits (length m.metamodels + 1) && fits (length m.classes + (1 + length cs)) && fits (length m.features + given_count cs)

-- the number is that of a given class
abbrev pub is_given_number : Metamodels → List ClassData → ClassNo → Bool
is_given_number m cs s = nat_lt (length m.classes) s.0 && nat_lt s.0 (length m.classes + (1 + length cs))

abbrev pub has_given_supers : Metamodels → List ClassData → ClassData → Bool
has_given_supers m cs c = list_all (is_given_number m cs) c.supers

-- the numbers inside a type are those of an enumeration or a class that is there, or of Element or a given class
abbrev pub is_live_kind : Metamodels → List ClassData → TypeKind → Bool
is_live_kind m cs BoolKind = true
is_live_kind m cs Int = true
is_live_kind m cs Str = true
is_live_kind m cs (Enum k e) = nat_lt e (length (metamodel_at m k).enums)
is_live_kind m cs (Class c) = nat_lt c.0 (length m.classes + (1 + length cs))

abbrev pub has_live_kind : Metamodels → List ClassData → FeatureData → Bool
has_live_kind m cs f = is_live_kind m cs f.shape.kind

abbrev pub has_live_kinds : Metamodels → List ClassData → ClassData → Bool
has_live_kinds m cs c = list_all (has_live_kind m cs) c.features

-- the superclasses and types of the classes are there
abbrev pub are_live : Metamodels → List ClassData → Bool
are_live m cs = list_all (has_given_supers m cs) cs && list_all (has_live_kinds m cs) cs

abbrev pub name_in : List FeatureInfo → FeatureNo → List ℕ
name_in fs f = (slice_index_or fs f.0 nowhere_feature).name

-- the name of what stands past the end, and those of the features
abbrev pub known_names : List FeatureInfo → List (List ℕ)
known_names fs = [] ∷ map (λ f. f.name) fs

-- no two of the features have one name
abbrev pub are_named_apart : List FeatureInfo → List FeatureNo → Bool
are_named_apart fs list = is_none (repeated [] (map (name_in fs) list))

-- no feature is a containment or has a lower bound above 0
abbrev pub is_loose : FeatureData → Bool
is_loose f = not f.shape.containment && (f.shape.lower == 0)

abbrev pub has_loose_features : ClassData → Bool
has_loose_features c = list_all is_loose c.features

abbrev pub are_loose : List ClassData → Bool
are_loose cs = list_all has_loose_features cs

-- none is above itself, and no class has two features of one name
pub record AreSound (m : Metamodels) (cs : List ClassData) : Type 0 where
  pub acyclic : (i : ℕ) → Closure (λ x y. IsTrue (is_given_superclass m cs x y)) i i → ⊥
  pub names : (i : ℕ) → i < length cs → repeated_feature (extended m cs) (length m.classes + (1 + i)) ≡ None
