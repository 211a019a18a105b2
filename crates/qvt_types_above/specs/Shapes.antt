-- Units that take and answer the same: their parameters and answers are, and both are helpers, queries or mappings.
use Rattle.std.specs.Prelude.{◌==◌, ◌&&◌, Bool, true, false, List, [], ◌∷◌, length, Option, Some, None}
use Rattle.qvt_types_data.specs.Term.{same_type, ty_view}
use Rattle.qvt_types_data.specs.declared.ty.Ty.{Ty}
use Rattle.qvt_types_groups.specs.declared.signature.UnitSort.{UnitSort}
use Rattle.qvt_types_groups.specs.declared.signature.UnitSort.TheVariants as sort
use Rattle.qvt_types_groups.specs.declared.signature.Signature.{Signature}

abbrev pub same_sort : UnitSort → UnitSort → Bool
same_sort sort.Helper sort.Helper = true
same_sort sort.Query sort.Query = true
same_sort (sort.Mapping n) (sort.Mapping k) = true
same_sort _ _ = false

abbrev pub same_answer : Option Ty → Option Ty → Bool
same_answer None None = true
same_answer (Some T) (Some U) = same_type (ty_view T) (ty_view U)
same_answer _ _ = false

abbrev pub all_same : List (Option Ty) → List (Option Ty) → Bool
all_same [] Us = true
all_same (T ∷ Ts) [] = true
all_same (T ∷ Ts) (U ∷ Us) = same_answer T U && all_same Ts Us

abbrev pub same_types : List (Option Ty) → List (Option Ty) → Bool
same_types Ts Us = (length Ts == length Us) && all_same Ts Us

unfoldable pub same_shape : Signature → Signature → Bool
same_shape u v = same_sort u.sort v.sort && (same_types u.params v.params && same_answer u.answer v.answer)
