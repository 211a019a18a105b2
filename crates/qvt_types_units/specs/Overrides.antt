-- Units that override others (QVT 1.3, 8.2.1.10): the context class is below that of another unit of the name.
use Rattle.std.specs.Prelude.{◌==◌, ◌&&◌, ◌||◌, not, Bool, true, false, List, [], ◌∷◌, length, Option, Some, None}
use Rattle.std.specs.List.{list_any}
use Rattle.std.specs.Str.{bytes_eq}
use Rattle.qvt_metamodel.specs.Metamodels.{Metamodels}
use Rattle.qvt_metamodel.specs.Descends.{descends}
use Rattle.qvt_types_data.specs.Term.{same_type, ty_view}
use Rattle.qvt_types_data.specs.declared.ty.Ty.{Ty}
use Rattle.qvt_types_words.specs.Types.{conforms}
use Rattle.qvt_types_units.specs.declared.signature.UnitSort.{UnitSort}
use Rattle.qvt_types_units.specs.declared.signature.UnitSort.TheVariants as sort
use Rattle.qvt_types_units.specs.declared.signature.HeadClass.{HeadClass}
use Rattle.qvt_types_units.specs.declared.signature.HeadClass.TheVariants.{Missing, Unknown, Known}
use Rattle.qvt_types_units.specs.declared.signature.Signature.{Signature}
use Rattle.qvt_types_units.specs.Numbers.{is_mapping, is_helper}

-- two types differ where both are known
abbrev pub differ : Option Ty → Option Ty → Bool
differ (Some T) (Some U) = not (same_type (ty_view T) (ty_view U))
differ None _ = false
differ (Some T) None = false

abbrev pub any_differ : List (Option Ty) → List (Option Ty) → Bool
any_differ [] Us = false
any_differ (T ∷ Ts) [] = false
any_differ (T ∷ Ts) (U ∷ Us) = differ T U || any_differ Ts Us

-- the types of parameters differ, or their number does
abbrev pub params_differ : List (Option Ty) → List (Option Ty) → Bool
params_differ Ts Us = not (length Ts == length Us) || any_differ Ts Us

abbrev pub is_wider : Metamodels → Option Ty → Option Ty → Bool
is_wider m (Some T) (Some U) = not (conforms m T U)
is_wider m None _ = false
is_wider m (Some T) None = false

-- a helper beside a query
abbrev pub are_unlike : UnitSort → UnitSort → Bool
are_unlike sort.Helper sort.Query = true
are_unlike sort.Query sort.Helper = true
are_unlike _ _ = false

-- mappings are overridden by mappings, helpers and queries by helpers and queries
abbrev pub are_alike : UnitSort → UnitSort → Bool
are_alike s r = (is_mapping s && is_mapping r) || (is_helper s && is_helper r)

abbrev pub is_strictly_below : Metamodels → HeadClass → HeadClass → Bool
is_strictly_below m (Known c) (Known d) = not (c.0 == d.0) && descends m c.0 d.0
is_strictly_below m (Known c) Missing = false
is_strictly_below m (Known c) Unknown = false
is_strictly_below m Missing _ = false
is_strictly_below m Unknown _ = false

unfoldable pub overrides : Metamodels → Signature → Signature → Bool
overrides m u v = are_alike u.sort v.sort && (bytes_eq u.name v.name && is_strictly_below m u.context v.context)

-- a unit takes and answers what the one does that it overrides, and is a query where that is one
unfoldable pub is_misfit : Metamodels → Signature → Signature → Bool
is_misfit m u v = params_differ u.params v.params || (is_wider m u.answer v.answer || are_unlike u.sort v.sort)

-- BadOverride
abbrev pub is_bad_override : Metamodels → List Signature → Signature → Bool
is_bad_override m us u = list_any (λ v. overrides m u v && is_misfit m u v) us
