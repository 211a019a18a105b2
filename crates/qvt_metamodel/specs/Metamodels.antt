-- A list of metamodels as numbered data (EMOF 12): metamodels, classes and features have numbers from 0, in the order
-- of adding and then of the document. Look-ups by number are total: past the end they answer a default.
use Rattle.std.specs.Prelude.{ℕ, Bool, false, ◌==◌, List, [], ◌∷◌, ◌++◌, length, slice_index_or, Option, Some, None, if◌then◌else◌, zero, suc}
use Rattle.std.specs.List.{list_any, flat_map}
use Rattle.qvt_base.specs.declared.numbers.ClassNo.{ClassNo}
use Rattle.qvt_base.specs.declared.numbers.FeatureNo.{FeatureNo}
use Rattle.qvt_metamodel.specs.declared.info.TypeKind.TheVariants.{Int}
use Rattle.qvt_metamodel.specs.declared.info.FeatureShape.{FeatureShape}
use Rattle.qvt_metamodel.specs.declared.info.MetamodelInfo.{MetamodelInfo}
use Rattle.qvt_metamodel.specs.declared.info.ClassInfo.{ClassInfo}
use Rattle.qvt_metamodel.specs.declared.info.FeatureInfo.{FeatureInfo}

pub record Metamodels : Type 0 where
  pub metamodels : List MetamodelInfo
  pub classes : List ClassInfo
  pub features : List FeatureInfo
  -- the class without features that is above all classes, where there is one
  pub element : Option ClassNo

abbrev pub nowhere_class : ClassInfo
nowhere_class = record { metamodel = 0; name = []; is_abstract = false; supers = []; own = [] }

abbrev pub nowhere_shape : FeatureShape
nowhere_shape = record { kind = Int; lower = 0; upper = None; ordered = false; unique = false; containment = false }

abbrev pub nowhere_feature : FeatureInfo
nowhere_feature = record { owner = record { 0 = 0 }; name = []; shape = nowhere_shape; opposite = None }

abbrev pub class_at : Metamodels → ℕ → ClassInfo
class_at m c = slice_index_or m.classes c nowhere_class

abbrev pub feature_at : Metamodels → ℕ → FeatureInfo
feature_at m f = slice_index_or m.features f nowhere_feature

abbrev pub shape_of : Metamodels → ℕ → FeatureShape
shape_of m f = (feature_at m f).shape

abbrev pub is_containment : Metamodels → ℕ → Bool
is_containment m f = (shape_of m f).containment

abbrev pub opposite : Metamodels → ℕ → Option FeatureNo
opposite m f = (feature_at m f).opposite

abbrev pub is_feature_number : Option FeatureNo → ℕ → Bool
is_feature_number None f = false
is_feature_number (Some g) f = g.0 == f

-- q is the opposite of p
abbrev pub is_opposite : Metamodels → ℕ → ℕ → Bool
is_opposite m p q = is_feature_number (opposite m p) q

-- the upper bound is 1
abbrev pub is_one : Option ℕ → Bool
is_one None = false
is_one (Some n) = n == 1

abbrev pub is_single : Metamodels → ℕ → Bool
is_single m f = is_one (shape_of m f).upper

abbrev pub among_features : ℕ → List FeatureNo → Bool
among_features f gs = list_any (λ g. g.0 == f) gs

-- the features of gs that are not among the ones seen, each once
abbrev pub each_once : List FeatureNo → List FeatureNo → List FeatureNo
each_once seen [] = []
each_once seen (g ∷ gs) = if among_features g.0 seen then each_once seen gs else g ∷ each_once (seen ++ g ∷ []) gs

-- the features of a class with fewer than n classes above each other: those of its superclasses in order, each once, then its own
abbrev pub features_in : ℕ → Metamodels → ℕ → List FeatureNo
features_in zero m c = []
features_in (suc n) m c = each_once [] (flat_map (λ s. features_in n m s.0) (class_at m c).supers) ++ (class_at m c).own

unfoldable pub features_of : Metamodels → ℕ → List FeatureNo
features_of m c = features_in (length m.classes) m c

abbrev pub has_feature : Metamodels → ℕ → ℕ → Bool
has_feature m c f = among_features f (features_of m c)

abbrev pub is_class_number : Option ClassNo → ℕ → Bool
is_class_number None c = false
is_class_number (Some d) c = d.0 == c

abbrev pub is_element : Metamodels → ℕ → Bool
is_element m c = is_class_number m.element c
