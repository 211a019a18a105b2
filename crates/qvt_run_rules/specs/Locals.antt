-- The variables of a run and their scopes (QVT 1.3, 8.2.2.10 VariableInitExp and 8.2.2.2 BlockExp). A scope ends in every outcome.
use Rattle.std.specs.Prelude.{ℕ, ◌==◌, Bool, false, not, ◌&&◌, if◌then◌else◌, List, [], ◌∷◌, ◌++◌, length, take, position, slice_set, Option, Some, None, Result, Ok, Err, codes, decimal}
use Rattle.std.specs.List.{count_by}
use Rattle.std.specs.Str.{bytes_eq}
use Rattle.qvt_base.specs.declared.numbers.Oid.{Oid}
use Rattle.qvt_base.specs.declared.numbers.Place.{Place}
use Rattle.qvt_value.specs.declared.value.Value.{Value}
use Rattle.qvt_value.specs.declared.value.Var.{Var}
use Rattle.qvt_types_data.specs.declared.ty.Ty.{Ty}
use Rattle.qvt_run_data.specs.declared.local.Local.{Local}
use Rattle.qvt_run_data.specs.declared.exit.Exit.{Exit}
use Rattle.qvt_run_rules.specs.State.{State, Done, Does, ◌>>=◌, look, turn_to}
use Rattle.qvt_run_rules.specs.Typed.{asked}

-- The names of what has none in a text.

abbrev pub self_name : List ℕ
self_name = codes "#self"

abbrev pub result_name : List ℕ
result_name = codes "#result"

-- an iterator or a filter without a name
abbrev pub begins_with_sign : List ℕ → Bool
begins_with_sign [] = false
begins_with_sign (c ∷ cs) = c == 35

abbrev pub is_unnamed : Local → Bool
is_unnamed v = begins_with_sign v.name && (not (bytes_eq self_name v.name) && not (bytes_eq result_name v.name))

-- it is known by how many of them stand around it
unfoldable pub unnamed : List Local → List ℕ
unnamed vs = codes "#" ++ decimal (count_by is_unnamed vs)

abbrev pub name_in : List Local → Option (List ℕ) → List ℕ
name_in vs None = unnamed vs
name_in vs (Some name) = name

abbrev pub local : List ℕ → Option Ty → Value → Local
local name t v = record { name = name; asked = t; value = v }

-- a variable that nothing is assigned to
abbrev pub fixed : List ℕ → Value → Local
fixed name v = local name None v

-- The variables as they are kept and handed in.

abbrev pub var_of : Local → Var
var_of v = record { name = v.name; value = v.value }

abbrev pub local_of : Var → Local
local_of v = fixed v.name v.value

-- Reading and assigning.

abbrev pub local_named : List ℕ → List Local → Option Local
local_named name [] = None
local_named name (v ∷ vs) = if bytes_eq name v.name then Some v else local_named name vs

abbrev pub value_in : Option Local → Option Value
value_in None = None
value_in (Some v) = Some v.value

abbrev pub place_in : List ℕ → List Local → Option ℕ
place_in name vs = position (λ (v : Local). bytes_eq name v.name) vs

abbrev pub set_place : Option ℕ → Local → List Local → List Local
set_place None v vs = vs
set_place (Some k) v vs = slice_set vs k v

-- the variable of that name is this one
unfoldable pub set_local : Local → List Local → List Local
set_local v vs = set_place (place_in v.name vs) v vs

module _ {E : Type 0} where
  unfoldable pub read_local : List ℕ → Place → Does E Local
  read_local name at = look (λ s. local_named name s.locals) at

  unfoldable pub read : List ℕ → Place → Does E Value
  read name at = look (λ s. value_in (local_named name s.locals)) at

  -- the latest
  unfoldable pub push : Local → Does E (Unit {0})
  push v = turn_to (λ s. record s { locals = s.locals ++ v ∷ [] })

  abbrev pub replace : Local → Does E (Unit {0})
  replace v = turn_to (λ s. record s { locals = set_local v s.locals })

  -- the variable keeps its type, which the value has to have
  abbrev pub set_as : Local → Value → Place → Does E (Unit {0})
  set_as old v at = asked old.asked at v >>= (λ w. replace (local old.name old.asked w))

  unfoldable pub set : List ℕ → Value → Place → Does E (Unit {0})
  set name v at = read_local name at >>= (λ old. set_as old v at)

  -- Scopes.

  -- the first n variables alone
  abbrev pub cut : {A : Type 0} → ℕ → Done E A → Done E A
  cut n d = (d.0, record d.1 { locals = take n d.1.locals })

  -- what is declared inside is out of scope after it
  unfoldable pub scoped : {A : Type 0} → Does E A → Does E A
  scoped p = λ s. cut (length s.locals) (p s)

  -- with these variables in scope
  unfoldable pub with_locals : {A : Type 0} → List Local → Does E A → Does E A
  with_locals vs p = λ s. cut (length s.locals) (p (record s { locals = s.locals ++ vs }))

  -- the object of an object expression while its body runs
  abbrev pub out_of : {A : Type 0} → Option Oid → Done E A → Done E A
  out_of outer d = (d.0, record d.1 { inner = outer })

  unfoldable pub inside : {A : Type 0} → Oid → Does E A → Does E A
  inside o p = λ s. out_of s.inner (p (record s { inner = Some o }))

  -- variables of its own, outside all object expressions; those from before come back
  abbrev pub begun : List Local → State E → State E
  begun vs s = record s { locals = vs; inner = None }

  abbrev pub under : {A : Type 0} → State E → Done E A → Done E A
  under outer d = (d.0, record d.1 { locals = outer.locals; inner = outer.inner })

  unfoldable pub in_frame : {A : Type 0} → List Local → Does E A → Does E A
  in_frame vs p = λ s. under s (p (begun vs s))

  -- the same, with the variables at its end
  abbrev pub own_in : {A : Type 0} → Result A Exit → State E → State E → Done E (A × List Local)
  own_in (Ok a) t outer = (Ok (a, t.locals), record t { locals = outer.locals; inner = outer.inner })
  own_in (Err e) t outer = (Err e, record t { locals = outer.locals; inner = outer.inner })

  unfoldable pub in_own : {A : Type 0} → List Local → Does E A → Does E (A × List Local)
  in_own vs p = λ s. own_in (p (begun vs s)).0 (p (begun vs s)).1 s
