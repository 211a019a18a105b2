-- Single names in expressions that are no variables (OCL 2.4, 7.5.9 and 9.4.1; QVT 1.3, 8.2.2): a model parameter, else a property
-- of the nearest implicit source that has it.
use Rattle.std.specs.Prelude.{ℕ, Bool, true, false, List, [], ◌∷◌, Option, Some, None, if◌then◌else◌}
use Rattle.qvt_base.specs.declared.numbers.FeatureNo.{FeatureNo}
use Rattle.qvt_metamodel.specs.Metamodels.{Metamodels, shape_of}
use Rattle.qvt_metamodel.specs.Named.{feature_named}
use Rattle.qvt_types_data.specs.declared.ty.Ty.{Ty, out-Ty}
use Rattle.qvt_types_data.specs.declared.ty.Ty.TheOpen.{Ty-F}
use Rattle.qvt_types_data.specs.Notes.{plain}
use Rattle.qvt_types_data.specs.declared.note.Reading.TheVariants as reading
use Rattle.qvt_types_data.specs.declared.refusal.RefusalKind.TheVariants.{UnknownName, ModelUse}
use Rattle.qvt_types_data.specs.declared.ruling.Ruling.{Ruling}
use Rattle.qvt_types_data.specs.declared.ruling.Ruling.TheVariants.{Holds, Fails, Silent}
use Rattle.qvt_types_data.specs.declared.variable.Variable.{Variable}
use Rattle.qvt_types_data.specs.declared.variable.VariableSort.{VariableSort}
use Rattle.qvt_types_data.specs.declared.variable.VariableSort.TheVariants as sort
use Rattle.qvt_types_words.specs.Types.{feature_type}
use Rattle.qvt_types_classes.specs.Classes.{is_typed}

abbrev pub is_implicit : VariableSort → Bool
is_implicit sort.Implicit = true
is_implicit _ = false

-- the feature of the name that values of a type have
abbrev pub feature_in : Metamodels → List ℕ → Ty-F Ty → Option FeatureNo
feature_in m name (Ty-F.Class c) = feature_named m c.0 name
feature_in m name _ = None

-- the type of a feature, where it is known: those of intermediate classes have the numbers from `first` on
abbrev pub property_type : Metamodels → ℕ → List Bool → FeatureNo → Option Ty
property_type m first typed f = if is_typed first typed f.0 then Some (feature_type (shape_of m f.0)) else None

abbrev pub property_of : Metamodels → ℕ → List Bool → List ℕ → FeatureNo → Ruling
property_of m first typed source f = Holds (record { reading = reading.Feature f; source = Some source; wrap = false; collect = false; answer = property_type m first typed f })

abbrev pub or_property : Metamodels → ℕ → List Bool → List ℕ → Option FeatureNo → Ruling → Ruling
or_property m first typed source None otherwise = otherwise
or_property m first typed source (Some f) otherwise = property_of m first typed source f

-- a source without a type leaves the name without one
abbrev pub on_source : Metamodels → ℕ → List Bool → List ℕ → List ℕ → Option Ty → Ruling → Ruling
on_source m first typed name source None otherwise = Silent
on_source m first typed name source (Some T) otherwise = or_property m first typed source (feature_in m name (out-Ty T)) otherwise

unfoldable pub by_source : Metamodels → ℕ → List Bool → List ℕ → Variable → Ruling → Ruling
by_source m first typed name v otherwise = if is_implicit v.sort then on_source m first typed name v.name v.ty otherwise else otherwise

-- a property of the nearest implicit source that has it
abbrev pub by_sources : Metamodels → ℕ → List Bool → List ℕ → Ruling → List Variable → Ruling
by_sources m first typed name otherwise [] = otherwise
by_sources m first typed name otherwise (v ∷ vs) = by_sources m first typed name (by_source m first typed name v otherwise) vs

-- a model parameter stands before `objects`, `objectsOfType` and `rootObjects` alone, and has no type itself
abbrev pub model_ruled : Bool → ℕ → Ruling
model_ruled true i = Holds (plain (reading.Model i) None)
model_ruled false i = Fails ModelUse

abbrev pub model_or : Metamodels → ℕ → List Bool → Bool → List Variable → List ℕ → Option ℕ → Ruling
model_or m first typed is_source vs name (Some i) = model_ruled is_source i
model_or m first typed is_source vs name None = by_sources m first typed name (Fails UnknownName) vs
