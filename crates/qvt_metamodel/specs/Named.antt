-- Look-ups by name. A name is looked up by its bytes; the first that has it is the one meant.
use Rattle.std.specs.Prelude.{ℕ, Bool, false, ◌==◌, ◌&&◌, ◌||◌, List, [], Option, Some, None, slice_index_or, position, find}
use Rattle.std.specs.List.{list_any}
use Rattle.std.specs.Str.{bytes_eq}
use Rattle.qvt_base.specs.declared.numbers.FeatureNo.{FeatureNo}
use Rattle.qvt_metamodel.specs.declared.info.EnumInfo.{EnumInfo}
use Rattle.qvt_metamodel.specs.declared.info.MetamodelInfo.{MetamodelInfo}
use Rattle.qvt_metamodel.specs.Metamodels.{Metamodels, feature_at, features_of}

abbrev pub nowhere_metamodel : MetamodelInfo
nowhere_metamodel = record { name = []; uri = None; enums = [] }

abbrev pub metamodel_at : Metamodels → ℕ → MetamodelInfo
metamodel_at m k = slice_index_or m.metamodels k nowhere_metamodel

abbrev pub nowhere_enumeration : EnumInfo
nowhere_enumeration = record { name = []; literals = [] }

abbrev pub enumeration_at : Metamodels → ℕ → ℕ → EnumInfo
enumeration_at m k e = slice_index_or (metamodel_at m k).enums e nowhere_enumeration

abbrev pub literal_at : Metamodels → ℕ → ℕ → ℕ → List ℕ
literal_at m k e l = slice_index_or (enumeration_at m k e).literals l []

abbrev pub is_text : Option (List ℕ) → List ℕ → Bool
is_text None name = false
is_text (Some text) name = bytes_eq name text

-- the first metamodel whose name or uri this is
abbrev pub metamodel_named : Metamodels → List ℕ → Option ℕ
metamodel_named m name = position (λ i. bytes_eq name i.name || is_text i.uri name) m.metamodels

-- a metamodel has this name
abbrev pub has_metamodel : Metamodels → List ℕ → Bool
has_metamodel m name = list_any (λ i. bytes_eq name i.name) m.metamodels

-- the class of a metamodel that has this name
abbrev pub class_named : Metamodels → ℕ → List ℕ → Option ℕ
class_named m k name = position (λ c. (c.metamodel == k) && bytes_eq name c.name) m.classes

-- the feature of this name that objects of the class have
abbrev pub feature_named : Metamodels → ℕ → List ℕ → Option FeatureNo
feature_named m c name = find (λ f. bytes_eq name (feature_at m f.0).name) (features_of m c)

abbrev pub enumeration_named : Metamodels → ℕ → List ℕ → Option ℕ
enumeration_named m k name = position (λ e. bytes_eq name e.name) (metamodel_at m k).enums

abbrev pub literal_named : Metamodels → ℕ → ℕ → List ℕ → Option ℕ
literal_named m k e name = position (bytes_eq name) (enumeration_at m k e).literals
