-- What is to hold of every run: that no answer of a late resolve reaches a statement, that its cost is exact and each key has one record at
-- most, that one run which keeps requests alone comes to the same, and what the entries leave in one slot.
use Rattle.std.specs.Prelude.{◌≡◌, ℕ, suc, ◌==◌, ◌&&◌, ◌++◌, Bool, not, List, [], ◌∷◌, filter, map, Option, None, Result, Ok, Err, IsTrue, IsFalse}
use Rattle.std.specs.List.{fold}
use Rattle.qvt_repeats.specs.Repeats.{repeats_by}
use Rattle.qvt_base.specs.declared.numbers.Place.{Place}
use Rattle.qvt_metamodel.specs.Metamodels.{opposite, is_containment}
use Rattle.qvt_metamodel.specs.WellFormed.{IsWellFormed}
use Rattle.qvt_slots.specs.Contents.{Contents, is_slot, slot_of}
use Rattle.qvt_slots.specs.Repeats.{new_list}
use Rattle.qvt_slots.specs.declared.op.SetOp.{SetOp}
use Rattle.qvt_slots.specs.declared.op.SetOp.TheVariants.{Put, Add}
use Rattle.qvt_typing.specs.Accepts.{ProgramTerm}
use Rattle.qvt_value.specs.declared.value.Value.{Value, Obj}
use Rattle.qvt_run_data.specs.declared.late.LateWrite.{LateWrite}
use Rattle.qvt_run_data.specs.declared.late.LateValue.{LateValue}
use Rattle.qvt_run_data.specs.declared.record.Record.{Record}
use Rattle.qvt_run_data.specs.declared.exit.End.{End}
use Rattle.qvt_run_data.specs.declared.exit.Exit.{Exit}
use Rattle.qvt_run_data.specs.declared.exit.End.TheVariants.{OutOfFuel}
use Rattle.qvt_run_data.specs.declared.exit.Exit.TheVariants.{Returned, Ends}
use Rattle.qvt_run_rules.specs.State.{State, Done, Does}
use Rattle.qvt_run_data.specs.declared.callee.Callee.{Callee}
use Rattle.qvt_run_rules.specs.Statements.{in_order}
use Rattle.qvt_run_rules.specs.Trace.{same_key, key_of}
use Rattle.qvt_types_data.specs.declared.ty.Ty.{Ty}
use Rattle.qvt_types_nodes.specs.Tree.{TypedExprTerm, TypedStmtTerms}
use Rattle.qvt_meaning.specs.Phrases.{expr, stmts}
use Rattle.qvt_meaning.specs.Readings.{Setting}
use Rattle.qvt_meaning.specs.Units.{calls_to}
use Rattle.qvt_meaning.specs.Run.{Finish, AnsweredWrite, FinishedRun, empty_finish, answered, setting, main_run, finish_of, walk, carried_out, finished, patched}

-- an outcome and a state, without the answers of the entries
abbrev pub bare_state : State AnsweredWrite → State LateWrite
bare_state s = record { locals = s.locals; inner = s.inner; store = s.store; trace = s.trace; keys = s.keys; entries = map (λ (e : AnsweredWrite). e.write) s.entries; cost = s.cost }

abbrev pub bare : {A : Type 0} → Done AnsweredWrite A → Done LateWrite A
bare d = (d.0, bare_state d.1)

-- the finish changes nothing but the answers of the entries
abbrev pub Independent : Type 0
Independent = (p : ProgramTerm) (f g : Finish) (fuel : ℕ) (store : Contents) → bare (main_run (answered p f) p fuel store) ≡ bare (main_run (answered p g) p fuel store)

-- the rules with the answers over this finish
abbrev pub with_finish : ProgramTerm → Finish → ℕ → Setting AnsweredWrite
with_finish p f fuel = setting (answered p f) p fuel

-- the same of a call while so many more may be open, of an expression, and of statements, from states that differ in answers alone
abbrev pub CallsIndependent : Type 0
CallsIndependent = (p : ProgramTerm) (f g : Finish) (fuel left : ℕ) (c : Callee) (vs : List Value) (at : Place) (s t : State AnsweredWrite) → bare_state s ≡ bare_state t →
    bare (calls_to (with_finish p f fuel) left c vs at s) ≡ bare (calls_to (with_finish p g fuel) left c vs at t)

abbrev pub expr_with : ProgramTerm → Finish → ℕ → ℕ → Option Ty → TypedExprTerm → Does AnsweredWrite Value
expr_with p f fuel left answer e = expr (with_finish p f fuel) (calls_to (with_finish p f fuel) left) answer e

abbrev pub ExpressionsIndependent : Type 0
ExpressionsIndependent = (p : ProgramTerm) (f g : Finish) (fuel left : ℕ) (answer : Option Ty) (e : TypedExprTerm) (s t : State AnsweredWrite) → bare_state s ≡ bare_state t →
    bare (expr_with p f fuel left answer e s) ≡ bare (expr_with p g fuel left answer e t)

abbrev pub stmts_with : ProgramTerm → Finish → ℕ → ℕ → Option Ty → TypedStmtTerms → Does AnsweredWrite (Unit {0})
stmts_with p f fuel left answer ss = in_order (stmts (with_finish p f fuel) (calls_to (with_finish p f fuel) left) answer ss)

abbrev pub StatementsIndependent : Type 0
StatementsIndependent = (p : ProgramTerm) (f g : Finish) (fuel left : ℕ) (answer : Option Ty) (ss : TypedStmtTerms) (s t : State AnsweredWrite) → bare_state s ≡ bare_state t →
    bare (stmts_with p f fuel left answer ss s) ≡ bare (stmts_with p g fuel left answer ss t)

-- what a run with this finish leaves
abbrev pub left_with : ProgramTerm → ℕ → Contents → Finish → Finish
left_with p fuel store f = finish_of (main_run (answered p f) p fuel store).1

-- so the second run leaves what the first one left, and no other finish is left by a run with it
abbrev pub SecondRun : Type 0
SecondRun = (p : ProgramTerm) (fuel : ℕ) (store : Contents) → left_with p fuel store (left_with p fuel store empty_finish) ≡ left_with p fuel store empty_finish

abbrev pub OnlyFinish : Type 0
OnlyFinish = (p : ProgramTerm) (fuel : ℕ) (store : Contents) (f : Finish) → left_with p fuel store f ≡ f → f ≡ left_with p fuel store empty_finish

-- The cost is exact: fuel for it is enough, and one unit less is not.
abbrev pub ExactCost : Type 0
ExactCost = (p : ProgramTerm) (store : Contents) (fuel : ℕ) (f : FinishedRun) → finished p store fuel ≡ Ok f →
    (finished p store f.cost ≡ Ok f) × ((n : ℕ) → f.cost ≡ suc n → finished p store n ≡ Err OutOfFuel)

-- Each key has one record at most.
abbrev pub keys_differ : List Record → Bool
keys_differ rs = not (repeats_by same_key (map key_of rs))

abbrev pub OneRecord : Type 0
OneRecord = (p : ProgramTerm) (store : Contents) (fuel : ℕ) (f : FinishedRun) → finished p store fuel ≡ Ok f → IsTrue (keys_differ f.finish.trace)

-- a run that keeps requests alone
abbrev pub request_run : ProgramTerm → ℕ → Contents → Done LateWrite (Unit {0})
request_run p fuel store = main_run (λ (w : LateWrite). w) p fuel store

-- the requests of a run, answered over what it left
abbrev pub answered_from : ProgramTerm → State LateWrite → List AnsweredWrite
answered_from p s = map (answered p (finish_of s)) s.entries

abbrev pub after_requests : ProgramTerm → ℕ → State LateWrite → Result FinishedRun End
after_requests p fuel s = carried_out (finish_of s) (answered_from p s) (walk fuel s.cost (answered_from p s))

abbrev pub from_requests : ProgramTerm → ℕ → Result (Unit {0}) Exit → State LateWrite → Result FinishedRun End
from_requests p fuel (Ok u) s = after_requests p fuel s
from_requests p fuel (Err (Returned v)) s = after_requests p fuel s
from_requests p fuel (Err (Ends e)) s = Err e

-- one run is enough
abbrev pub OnePass : Type 0
OnePass = (p : ProgramTerm) (fuel : ℕ) (store : Contents) → finished p store fuel ≡ from_requests p fuel (request_run p fuel store).0 (request_run p fuel store).1

-- The slots that entries leave.

abbrev pub is_for : ℕ → ℕ → LateValue → Bool
is_for o f v = (v.object.0 == o) && (v.feature.0 == f)

-- what an entry makes of the list of its slot
abbrev pub list_after : Contents → ℕ → List Value → LateValue → SetOp → List Value
list_after s f old v Put = new_list s.metas f (map Obj v.values)
list_after s f old v Add = new_list s.metas f (old ++ map Obj v.values)

abbrev pub put_in : Contents → ℕ → List Value → LateValue → List Value
put_in s f old v = list_after s f old v v.op

-- a feature without an opposite that is no containment
pub record StandsAlone (s : Contents) (f : ℕ) : Type 0 where
  pub opposite : opposite s.metas f ≡ None
  pub containment : IsFalse (is_containment s.metas f)

-- its slots hold what the entries for them leave, in order
abbrev pub PerSlot : Type 0
PerSlot = (s t : Contents) (vs : List LateValue) (o f : ℕ) → IsWellFormed s.metas → StandsAlone s f → IsTrue (is_slot s o f) → patched s vs ≡ Ok t → slot_of t o f ≡ fold (put_in s f) (slot_of s o f) (filter (is_for o f) vs)

-- where the last of them puts, exactly its values
abbrev pub LastPut : Type 0
LastPut = (s t : Contents) (vs us : List LateValue) (v : LateValue) (o f : ℕ) → IsWellFormed s.metas → StandsAlone s f → IsTrue (is_slot s o f) → patched s vs ≡ Ok t → filter (is_for o f) vs ≡ us ++ v ∷ [] → v.op ≡ Put
    → slot_of t o f ≡ new_list s.metas f (map Obj v.values)
