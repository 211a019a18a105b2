-- What some small programs come to, by the definitions: objects, costs, faults with their places, the end of the fuel.
use Rattle.std.specs.Prelude.{◌≡◌, ℕ, pos, true, false, List, [], ◌∷◌, Some, None, Result, Ok, Err}
use Rattle.qvt_tree_types.specs.declared.words.BinaryOp.TheVariants as op
use Rattle.qvt_slots.specs.Contents.{Contents, Instance}
use Rattle.qvt_types_data.specs.declared.ty.Ty.TheVariants as ty
use Rattle.qvt_value.specs.declared.value.Reason.TheVariants as reason
use Rattle.qvt_run_data.specs.declared.fault.RunFault.TheVariants as fault
use Rattle.qvt_value.specs.declared.value.Value.{Value, Null, Invalid}
use Rattle.qvt_run_rules.specs.Sources.{dotted}
use Rattle.qvt_run_data.specs.declared.exit.End.{End}
use Rattle.qvt_run_data.specs.declared.exit.End.TheVariants.{Fault, OutOfFuel}
use Rattle.qvt_run_rules.specs.State.{State, Does}
use Rattle.qvt_typing.specs.Accepts.{ProgramTerm}
use Rattle.qvt_meaning.specs.Run.{FinishedRun, finished}
use Rattle.qvt_meaning_tries.specs.Small.{at, store, object_with, object_to, int, truth, chain, divided, conditional, one_object, looping, mapped, resolved_late}

-- a run that leaves these objects, no record and no entry
abbrev pub leaves : List Instance → ℕ → Result FinishedRun End
leaves os cost = Ok (record { finish = record { trace = []; store = store os }; after = store os; entries = []; cost = cost })

abbrev pub FinishesAs : ProgramTerm → ℕ → Result FinishedRun End → Type 0
FinishesAs p fuel told = finished p (store []) fuel ≡ told

-- one statement, one object, one assignment, one literal
abbrev pub AnObject : Type 0
AnObject = FinishesAs (one_object (int (pos 7) 26)) 100 (leaves (object_with (pos 7) ∷ []) 4)

abbrev pub EnoughFuel : Type 0
EnoughFuel = FinishesAs (one_object (int (pos 7) 26)) 4 (leaves (object_with (pos 7) ∷ []) 4)

abbrev pub TooLittleFuel : Type 0
TooLittleFuel = FinishesAs (one_object (int (pos 7) 26)) 3 (Err OutOfFuel)

-- an operator that overflows, at its sign
abbrev pub Overflows : Type 0
Overflows = FinishesAs (one_object (chain (int (pos 9223372036854775807) 26) op.Plus 46 (int (pos 1) 48) ty.Integer)) 100 (Err (Fault (fault.InvalidValue reason.Overflow) (at 46)))

abbrev pub DividesByZero : Type 0
DividesByZero = FinishesAs (one_object (divided (int (pos 1) 26) 28 (int (pos 0) 32))) 100 (Err (Fault (fault.InvalidValue reason.ZeroDivide) (at 28)))

-- the right side of `and` is not evaluated after false
abbrev pub StopsAtFalse : Type 0
StopsAtFalse = FinishesAs (one_object (conditional (chain (truth false 29) op.And 35 (chain (divided (int (pos 1) 39) 41 (int (pos 0) 45)) op.Equal 48 (int (pos 1) 50) ty.Boolean) ty.Boolean) (int (pos 1) 57) (int (pos 2) 64))) 100
    (leaves (object_with (pos 2) ∷ []) 7)

-- a loop costs its statement and each test; one without an end ends with the fuel
abbrev pub NoTurn : Type 0
NoTurn = FinishesAs (looping false) 100 (leaves [] 2)

abbrev pub NoEnd : Type 0
NoEnd = FinishesAs (looping true) 3 (Err OutOfFuel)

-- a mapping without a result: its record, and what its population assigns
abbrev pub AMapping : Type 0
AMapping = FinishesAs mapped 100 (Ok (record {
  finish = record { trace = record { mapping = record { 0 = 0 }; context = Some (record { 0 = 0 }); args = []; result = None } ∷ []; store = store (object_with (pos 5) ∷ []) };
  after = store (object_with (pos 5) ∷ []);
  entries = [];
  cost = 6;
}))

-- a late resolve reads the record that a later statement writes: the slot is filled when all has run, for one unit more
abbrev pub at_the_end : Result FinishedRun End → Result Contents End
at_the_end (Ok f) = Ok f.after
at_the_end (Err e) = Err e

abbrev pub cost_of : Result FinishedRun End → Result ℕ End
cost_of (Ok f) = Ok f.cost
cost_of (Err e) = Err e

abbrev pub ALateResolve : Type 0
ALateResolve = at_the_end (finished resolved_late (store []) 100) ≡ Ok (store (object_to 1 ∷ object_with (pos 5) ∷ []))

abbrev pub ALateCost : Type 0
ALateCost = cost_of (finished resolved_late (store []) 100) ≡ Ok 11

-- an invalid argument decides before a null collection
abbrev pub ADotOnNull : Type 0
ADotOnNull = (s : State (Unit {0})) (f : Value → Does (Unit {0}) Value) → dotted true (at 40) (Invalid reason.ZeroDivide (at 50) ∷ []) f Null s ≡ (Ok (Invalid reason.ZeroDivide (at 50)), s)
