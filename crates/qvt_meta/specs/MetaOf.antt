-- The metamodel of a file: what it declares, or the first refusal.
use Rattle.std.specs.Prelude.{ℕ, List, option_map, Result, Ok}
use Rattle.qvt_json.specs.Json.{json}
use Rattle.qvt_json.specs.Shape.{shown}
use Rattle.qvt_results.specs.Bind.{◌>>=◌}
use Rattle.qvt_json.specs.Steps.{or_fault, none_of}
use Rattle.qvt_metamodel.specs.declared.fault.MetaFault.{MetaFault}
use Rattle.qvt_metamodel.specs.declared.fault.MetaFault.TheVariants.{Json, Shape, SameName, UnknownType, InheritanceCycle, BadBounds, BadOpposite, SameFeature}
use Rattle.qvt_metamodel.specs.declared.declared.MetaData.{MetaData}
use Rattle.qvt_meta_read.specs.MetaForm.{meta_form}
use Rattle.qvt_meta_read.specs.DataOf.{meta_data}
use Rattle.qvt_metamodel.specs.Checks.{ClassAndName, same_name, unknown_type, inheritance_cycle, bad_bounds, bad_opposite, same_feature}

abbrev pub tell : (List ℕ → List ℕ → MetaFault) → ClassAndName → MetaFault
tell fault t = fault t.0 t.1

-- the data, or the first of these checks that fails
unfoldable pub checked : MetaData → Result MetaData MetaFault
checked d = do
  _ ← none_of (option_map SameName (same_name d))
  _ ← none_of (option_map (tell UnknownType) (unknown_type d))
  _ ← none_of (option_map InheritanceCycle (inheritance_cycle d))
  _ ← none_of (option_map (tell BadBounds) (bad_bounds d))
  _ ← none_of (option_map (tell BadOpposite) (bad_opposite d))
  _ ← none_of (option_map (tell SameFeature) (same_feature d))
  Ok d

unfoldable pub meta_of : List ℕ → Result MetaData MetaFault
meta_of bytes = do
  d ← or_fault Json (json bytes)
  _ ← none_of (option_map (λ path. Shape (shown path)) (meta_form d))
  checked (meta_data d)
