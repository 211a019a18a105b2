-- Units of which one asks of those that override it all that another asks of them.
use Rattle.std.specs.Prelude.{ℕ, ◌==◌, ◌&&◌, not, Bool, true, false, List, [], ◌∷◌, length, nat_lt, Option, Some, None}
use Rattle.qvt_metas.specs.Metamodels.{Metamodels}
use Rattle.qvt_types_data.specs.declared.ty.Ty.{Ty}
use Rattle.qvt_types_groups.specs.declared.signature.Signature.{Signature}
use Rattle.qvt_types_groups.specs.Numbers.{unit_at}
use Rattle.qvt_types_groups.specs.Overrides.{is_misfit}
use Rattle.qvt_types_above.specs.Shapes.{same_sort}

-- the first type is known where the second is
abbrev pub knows : Option Ty → Option Ty → Bool
knows (Some T) o = true
knows None None = true
knows None (Some U) = false

abbrev pub all_known : List (Option Ty) → List (Option Ty) → Bool
all_known [] Us = true
all_known (T ∷ Ts) [] = true
all_known (T ∷ Ts) (U ∷ Us) = knows T U && all_known Ts Us

abbrev pub know_all : List (Option Ty) → List (Option Ty) → Bool
know_all Ts Us = (length Ts == length Us) && all_known Ts Us

-- the first unit fits the second, and its types are known where those of the second are
unfoldable pub covers : Metamodels → Signature → Signature → Bool
covers m v w = same_sort v.sort w.sort && (not (is_misfit m v w) && (know_all v.params w.params && knows v.answer w.answer))

abbrev pub covers_at : Metamodels → List Signature → ℕ → ℕ → Bool
covers_at m us n k = nat_lt n (length us) && (nat_lt k (length us) && covers m (unit_at us n) (unit_at us k))
