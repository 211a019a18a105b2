-- The state of a run, and what a phrase does with it (QVT 1.3, 8.1 and 8.2): it gives a value or ends what is around it, and leaves
-- a state. What an entry of a late assignment is stays open: E.
use Rattle.std.specs.Prelude.{ℕ, Bool, true, false, List, Option, Some, None, Result, Ok, Err}
use Rattle.qvt_base.specs.declared.numbers.Oid.{Oid}
use Rattle.qvt_base.specs.declared.numbers.Place.{Place}
use Rattle.qvt_slots.specs.Contents.{Contents}
use Rattle.qvt_run_data.specs.declared.exit.End.{End}
use Rattle.qvt_run_data.specs.declared.exit.End.TheVariants.{Fault}
use Rattle.qvt_run_data.specs.declared.exit.Exit.{Exit}
use Rattle.qvt_run_data.specs.declared.exit.Exit.TheVariants.{Returned, Ends}
use Rattle.qvt_run_data.specs.declared.fault.RunFault.TheVariants as fault
use Rattle.qvt_run_data.specs.declared.local.Local.{Local}
use Rattle.qvt_run_data.specs.declared.record.Key.{Key}
use Rattle.qvt_run_data.specs.declared.record.Record.{Record}

-- the variables in scope, the object of the innermost object expression, the store, the trace, the keys that are open, the entries,
-- and the cost so far
pub record State (E : Type 0) : Type 0 where
  pub locals : List Local
  pub inner : Option Oid
  pub store : Contents
  pub trace : List Record
  pub keys : List Key
  pub entries : List E
  pub cost : ℕ

-- an outcome and a state
abbrev pub Done : Type 0 → Type 0 → Type 0
Done E A = Result A Exit × State E

abbrev pub Does : Type 0 → Type 0 → Type 0
Does E A = State E → Done E A

-- what follows, unless the phrases around it end
abbrev pub on_outcome : {E A B : Type 0} → Result A Exit → State E → (A → Does E B) → Done E B
on_outcome (Ok a) s f = f a s
on_outcome (Err e) s f = (Err e, s)

infixl 10 ◌>>=◌
abbrev pub ◌>>=◌ : {E A B : Type 0} → Does E A → (A → Does E B) → Does E B
p >>= f = λ s. on_outcome (p s).0 (p s).1 f

infixl 10 ◌>>◌
abbrev pub ◌>>◌ : {E A B : Type 0} → Does E A → Does E B → Does E B
p >> q = p >>= (λ _. q)

abbrev pub pure : {E A : Type 0} → A → Does E A
pure a = λ s. (Ok a, s)

abbrev pub exits : {E A : Type 0} → Exit → Does E A
exits e = λ s. (Err e, s)

abbrev pub stop : {E A : Type 0} → End → Does E A
stop e = exits (Ends e)

-- a value meets what is not defined for it, or is not of the type that is asked
abbrev pub misfit : {E A : Type 0} → Place → Does E A
misfit at = stop (Fault fault.TypeFault at)

-- what is there, else a misfit
abbrev pub found : {E A : Type 0} → Option A → Place → Does E A
found (Some a) at = pure a
found None at = misfit at

-- what a function of the state finds, else a misfit
abbrev pub look : {E A : Type 0} → (State E → Option A) → Place → Does E A
look f at = λ s. found (f s) at s

-- a function of the state
abbrev pub ask : {E A : Type 0} → (State E → A) → Does E A
ask f = λ s. (Ok (f s), s)

-- the state changes
abbrev pub turn_to : {E : Type 0} → (State E → State E) → Does E (Unit {0})
turn_to f = λ s. (Ok tt, f s)

-- whether a `return` ended it
abbrev pub caught_in : {E : Type 0} → Result (Unit {0}) Exit → State E → Done E Bool
caught_in (Ok u) s = (Ok false, s)
caught_in (Err (Returned v)) s = (Ok true, s)
caught_in (Err (Ends e)) s = (Err (Ends e), s)

unfoldable pub caught : {E : Type 0} → Does E (Unit {0}) → Does E Bool
caught p = λ s. caught_in (p s).0 (p s).1
