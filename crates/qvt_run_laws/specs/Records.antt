-- The records of a run by their keys (QVT 1.3, 8.1.12 for the trace, 8.2.1.15 for the call of a mapping). A key is a mapping, a context
-- object and a list of arguments, equal by value: it has one record at most, and exactly one where its call has come to the step that
-- writes it, where its init section returned with a result, and where the trace had it.
use Rattle.std.specs.Prelude.{◌≡◌, ℕ, List, [], ◌∷◌, ◌++◌, filter, map, Option, Some, None, Result, Ok, Err, IsTrue}
use Rattle.qvt_base.specs.declared.numbers.Oid.{Oid}
use Rattle.qvt_base.specs.declared.numbers.Place.{Place}
use Rattle.qvt_slots.specs.Contents.{Contents}
use Rattle.qvt_types_data.specs.declared.ty.Ty.{Ty}
use Rattle.qvt_types_nodes.specs.Tree.{TypedExprTerm, TypedStmtTerms}
use Rattle.qvt_typing.specs.Accepts.{ProgramTerm}
use Rattle.qvt_value.specs.declared.value.Value.{Value}
use Rattle.qvt_run_data.specs.declared.callee.Callee.{Callee}
use Rattle.qvt_run_data.specs.declared.exit.Exit.{Exit}
use Rattle.qvt_run_data.specs.declared.late.LateWrite.{LateWrite}
use Rattle.qvt_run_data.specs.declared.local.Local.{Local}
use Rattle.qvt_run_data.specs.declared.record.Key.{Key}
use Rattle.qvt_run_data.specs.declared.record.Record.{Record}
use Rattle.qvt_run_rules.specs.State.{State, Does}
use Rattle.qvt_run_rules.specs.Calls.{CallRule}
use Rattle.qvt_run_rules.specs.Mappings.{MappingRule, MadeResult, Known, Ended, New, BegunCall, key, once, first}
use Rattle.qvt_run_rules.specs.Statements.{in_order}
use Rattle.qvt_run_rules.specs.Trace.{same_key, key_of, result_for, has_key}
use Rattle.qvt_meaning.specs.Laws.{keys_differ, request_run}
use Rattle.qvt_meaning.specs.Phrases.{expr, stmts}
use Rattle.qvt_meaning.specs.Readings.{Setting}
use Rattle.qvt_meaning.specs.Run.{FinishedRun, finished, setting}
use Rattle.qvt_meaning.specs.Units.{calls_to, mapping_at}

-- the records of a key
abbrev pub records_of : Key → List Record → List Record
records_of k rs = filter (λ r. same_key (key_of r) k) rs

module _ {E : Type 0} where
  -- no two records have one key, and no key that is open has a record
  pub record IsKeyed (s : State E) : Type 0 where
    pub differ : IsTrue (keys_differ s.trace)
    pub free : (k : Key) → IsTrue (has_key s.keys k) → result_for k s.trace ≡ None

  -- from a state to a later one: the records stay, others may follow them, and the same keys are open
  pub record Keeps (s t : State E) : Type 0 where
    pub keyed : IsKeyed t
    pub keys : t.keys ≡ s.keys
    pub records : (more : List Record) × (t.trace ≡ s.trace ++ more)

-- the rules of a run that keeps requests
abbrev pub rules : ProgramTerm → ℕ → Setting LateWrite
rules p fuel = setting (λ (w : LateWrite). w) p fuel

abbrev pub calls : ProgramTerm → ℕ → ℕ → CallRule LateWrite
calls p fuel left = calls_to (rules p fuel) left

-- Calls keep the records however they end, while so many may be open; so do expressions, and statements in order.
abbrev pub CallsKeepRecords : Type 0
CallsKeepRecords = (p : ProgramTerm) (fuel left : ℕ) (c : Callee) (vs : List Value) (at : Place) (s : State LateWrite) → IsKeyed s → Keeps s (calls p fuel left c vs at s).1

abbrev pub ExpressionsKeepRecords : Type 0
ExpressionsKeepRecords = (p : ProgramTerm) (fuel left : ℕ) (answer : Option Ty) (e : TypedExprTerm) (s : State LateWrite) → IsKeyed s → Keeps s (expr (rules p fuel) (calls p fuel left) answer e s).1

abbrev pub StatementsKeepRecords : Type 0
StatementsKeepRecords = (p : ProgramTerm) (fuel left : ℕ) (answer : Option Ty) (ss : TypedStmtTerms) (s : State LateWrite) → IsKeyed s →
    Keeps s (in_order (stmts (rules p fuel) (calls p fuel left) answer ss) s).1

-- in whatever state `main` ends, and for whatever reason, each key has one record at most, and no key is open
abbrev pub RunsAreKeyed : Type 0
RunsAreKeyed = (p : ProgramTerm) (fuel : ℕ) (store : Contents) → IsKeyed (request_run p fuel store).1 × ((request_run p fuel store).1.keys ≡ [])

-- The record of a call.

-- the results of the records that the key of a call has: of one, but of none where the init section returned without a result
abbrev pub recorded : MadeResult → List (Option Oid)
recorded (Known r) = r ∷ []
recorded (Ended None) = []
recorded (Ended (Some o)) = Some o ∷ []
recorded (New r) = r ∷ []

-- where the call goes on or is answered; a call that ends the run is open
abbrev pub IsRecorded : Key → Result BegunCall Exit → List Record → Type 0
IsRecorded k (Ok x) rs = map (λ (r : Record). r.result) (records_of k rs) ≡ recorded x.0
IsRecorded k (Err e) rs = Unit {0}

-- the steps of a call of a mapping up to the record: its look-up, the init section while the key is open, the result, and the record
abbrev pub begun : MappingRule LateWrite → Option Oid → List Value → List Local → Place → Does LateWrite BegunCall
begun m o vs ls at = once (key m.number o vs) at (first m ls)

-- with the variables of the mapping before its init section
abbrev pub OneIsWritten : Type 0
OneIsWritten = (p : ProgramTerm) (fuel left n : ℕ) (m : MappingRule LateWrite) → mapping_at (rules p fuel) (calls p fuel left) n ≡ Some m
    → (o : Option Oid) (vs : List Value) (ls : List Local) (at : Place) (s : State LateWrite) → IsKeyed s
    → IsRecorded (key m.number o vs) (begun m o vs ls at s).0 (begun m o vs ls at s).1.trace

-- a key that has one record has it, and no other, in every later trace
abbrev pub OneStays : Type 0
OneStays = (rs more : List Record) (k : Key) (r : Record) → IsTrue (keys_differ (rs ++ more)) → records_of k rs ≡ r ∷ [] → records_of k (rs ++ more) ≡ r ∷ []

-- where a call has a record: with this result
abbrev pub IsRecordedWith : Option Oid → Result BegunCall Exit → Type 0
IsRecordedWith r (Ok x) = recorded x.0 ≡ r ∷ []
IsRecordedWith r (Err e) = ⊥

-- a trace that goes on behind such a call has exactly one record of its key, with its result
abbrev pub HasOneForEach : ProgramTerm → ℕ → List Record → Type 0
HasOneForEach p fuel trace = (left n : ℕ) (m : MappingRule LateWrite) → mapping_at (rules p fuel) (calls p fuel left) n ≡ Some m
    → (o : Option Oid) (vs : List Value) (ls : List Local) (at : Place) (s : State LateWrite) → IsKeyed s
    → (result : Option Oid) → IsRecordedWith result (begun m o vs ls at s).0 → (more : List Record) → trace ≡ (begun m o vs ls at s).1.trace ++ more
    → map (λ (r : Record). r.result) (records_of (key m.number o vs) trace) ≡ result ∷ []

-- so does the trace of a run that has ended well
abbrev pub OneIsLeft : Type 0
OneIsLeft = (p : ProgramTerm) (store : Contents) (fuel : ℕ) (f : FinishedRun) → finished p store fuel ≡ Ok f → HasOneForEach p fuel f.finish.trace
