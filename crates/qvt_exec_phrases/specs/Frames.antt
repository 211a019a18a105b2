-- The parameters of a unit after other variables, and what it gives back (QVT 1.3, 8.2.1.10 to 8.2.1.15).
use Rattle.std.specs.Prelude.{List, [], ◌∷◌, ◌++◌, Option, None, Some}
use Rattle.qvt_base.specs.declared.numbers.Place.{Place}
use Rattle.qvt_value.specs.declared.value.Value.{Value, Null}
use Rattle.qvt_types_data.specs.declared.ty.Ty.{Ty}
use Rattle.qvt_run_data.specs.declared.late.LateWrite.{LateWrite}
use Rattle.qvt_run_data.specs.declared.local.Local.{Local}
use Rattle.qvt_run_rules.specs.State.{Does, ◌>>=◌, pure, misfit}
use Rattle.qvt_run_rules.specs.Typed.{asked}
use Rattle.qvt_run_rules.specs.Locals.{fixed}
use Rattle.qvt_run_rules.specs.Calls.{UnitParam}

abbrev pub bound_after : List Local → List UnitParam → List Value → Place → Does LateWrite (List Local)
bound_after ls [] [] at = pure ls
bound_after ls (p ∷ ps) (v ∷ vs) at = asked p.type at v >>= (λ w. bound_after (ls ++ fixed p.name w ∷ []) ps vs at)
bound_after ls ps vs at = misfit at

-- the type of the first parameter, and those of the others
abbrev pub first_type : List (Option Ty) → Option Ty
first_type [] = None
first_type (t ∷ ts) = t

abbrev pub other_types : List (Option Ty) → List (Option Ty)
other_types [] = []
other_types (t ∷ ts) = ts

-- the value of a `return`: null, where it has none
abbrev pub or_null : Option Value → Value
or_null None = Null
or_null (Some v) = v
