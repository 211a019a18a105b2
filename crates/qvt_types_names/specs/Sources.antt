-- What one implicit source makes of a name, if it decides it (OCL 2.4, 7.6.1).
use Rattle.std.specs.Prelude.{ℕ, Bool, List, Option, Some, None, option_map, if◌then◌else◌}
use Rattle.qvt_metamodel.specs.Metamodels.{Metamodels}
use Rattle.qvt_types_data.specs.declared.ruling.Ruling.{Ruling}
use Rattle.qvt_types_data.specs.declared.ruling.Ruling.TheVariants.{Silent}
use Rattle.qvt_types_data.specs.declared.ty.Ty.{Ty, out-Ty}
use Rattle.qvt_types_data.specs.declared.variable.Variable.{Variable}
use Rattle.qvt_types_names.specs.Names.{is_implicit, feature_in, property_of}

abbrev pub typed_source : Metamodels → ℕ → List Bool → List ℕ → List ℕ → Option Ty → Option Ruling
typed_source m first typed name source None = Some Silent
typed_source m first typed name source (Some T) = option_map (property_of m first typed source) (feature_in m name (out-Ty T))

-- a variable that is no implicit source, or whose values have no such property, leaves the name to the others
abbrev pub source_ruled : Metamodels → ℕ → List Bool → List ℕ → Variable → Option Ruling
source_ruled m first typed name v = if is_implicit v.sort then typed_source m first typed name v.name v.ty else None
