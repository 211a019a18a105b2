-- What statements do once their phrases have their values (QVT 1.3, 8.1.10, 8.2.2.10 VariableInitExp and 8.2.2.11 AssignExp).
use Rattle.std.specs.Prelude.{ℕ, List, [], ◌∷◌, ◌++◌, slice_get, slice_set, Option, Some}
use Rattle.qvt_base.specs.declared.numbers.Oid.{Oid}
use Rattle.qvt_base.specs.declared.numbers.Place.{Place}
use Rattle.qvt_types_data.specs.declared.ty.Ty.{Ty}
use Rattle.qvt_value.specs.declared.value.Value.{Value}
use Rattle.qvt_run_data.specs.declared.exit.Exit.TheVariants.{Returned}
use Rattle.qvt_run_data.specs.declared.late.LateWrite.{LateWrite}
use Rattle.qvt_run_rules.specs.State.{Does, ◌>>=◌, exits, look, turn_to}
use Rattle.qvt_run_rules.specs.Typed.{asked, object_of, taken, valid}
use Rattle.qvt_run_rules.specs.Locals.{local, push, read_local, set}
use Rattle.qvt_run_rules.specs.Statements.{added, object_or_new, with_slot}

-- a `return` with a value of the type that the unit answers
abbrev pub given_back : Option Ty → Place → Value → Does LateWrite (Unit {0})
given_back t at v = taken t at v >>= (λ w. exits (Returned (Some w)))

-- a variable with its first value
abbrev pub declared : List ℕ → Option Ty → Place → Value → Does LateWrite (Unit {0})
declared name t at v = taken t at v >>= (λ w. push (local name t w))

-- the variable at this place keeps its type, which the value has to have
abbrev pub set_there : ℕ → Value → Place → Does LateWrite (Unit {0})
set_there k v at = look (λ s. slice_get s.locals k) at
    >>= (λ old. asked old.asked at v >>= (λ w. turn_to (λ s. record s { locals = slice_set s.locals k (local old.name old.asked w) })))

-- `+=` of a value with this type to a variable
abbrev pub added_on : List ℕ → Option Ty → Value → Place → Does LateWrite (Unit {0})
added_on name t v at = read_local name at >>= (λ old. added old t v at >>= valid >>= (λ w. set name w at))

-- the object that a value is, which has the property
abbrev pub member_of : ℕ → Place → Value → Does LateWrite Oid
member_of f at v = object_of at v >>= with_slot f at

-- the value of a variable, which a phrase takes
abbrev pub taken_from : List ℕ → Ty → Place → Does LateWrite Value
taken_from name t at = read_local name at >>= (λ v. taken (Some t) at v.value)

-- the object of an object expression on a variable
abbrev pub variable_object : List ℕ → Ty → ℕ → ℕ → Place → Does LateWrite Oid
variable_object name t c e at = taken_from name t at >>= object_or_new name c e at

-- what a late assignment keeps, the latest
abbrev pub enters : LateWrite → Does LateWrite (Unit {0})
enters w = turn_to (λ s. record s { entries = s.entries ++ w ∷ [] })

-- what the variable at this place holds once a value with this type is added to it
abbrev pub sum_there : ℕ → Option Ty → Value → Place → Does LateWrite Value
sum_there k t v at = look (λ s. slice_get s.locals k) at >>= (λ old. added old t v at >>= valid)

-- `+=` of a value with this type to the variable at this place
abbrev pub add_there : ℕ → Option Ty → Value → Place → Does LateWrite (Unit {0})
add_there k t v at = sum_there k t v at >>= (λ w. set_there k w at)
