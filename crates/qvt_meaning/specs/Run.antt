-- A whole run (QVT 1.3, 8.1.10 for late resolution): `main` runs with an empty finish, then again with the trace and the store that it left;
-- the answers of the late entries of the second run are walked; the entries are carried out.
use Rattle.std.specs.Prelude.{ℕ, ◌+◌, nat_lt, if◌then◌else◌, List, [], ◌∷◌, ◌++◌, map, Option, Some, None, Result, Ok, Err}
use Rattle.qvt_base.specs.declared.numbers.ExprNo.{ExprNo}
use Rattle.qvt_base.specs.declared.numbers.Oid.{Oid}
use Rattle.qvt_base.specs.declared.numbers.Place.{Place}
use Rattle.qvt_slots.specs.Contents.{Contents}
use Rattle.qvt_slots.specs.Assign.{write}
use Rattle.qvt_slots.specs.declared.fault.StoreFault.{StoreFault}
use Rattle.qvt_types_nodes.specs.Module.{TypedUnitTerm, TypedClassOf, TypedMainOf, TypedHelperOf, TypedConstructorOf, TypedMappingOf}
use Rattle.qvt_types_nodes.specs.Tree.{TypedExprTerm, TypedStmtTerms, TypedNoStmts}
use Rattle.qvt_typing.specs.Accepts.{ProgramTerm}
use Rattle.qvt_value.specs.declared.value.Value.{Value, Obj}
use Rattle.qvt_value.specs.declared.value.Var.{Var}
use Rattle.qvt_run_data.specs.declared.fault.RunFault.TheVariants as fault
use Rattle.qvt_run_data.specs.declared.late.LateWrite.{LateWrite}
use Rattle.qvt_run_data.specs.declared.late.LateValue.{LateValue}
use Rattle.qvt_run_data.specs.declared.record.Record.{Record}
use Rattle.qvt_run_data.specs.declared.exit.End.{End}
use Rattle.qvt_run_data.specs.declared.exit.Exit.{Exit}
use Rattle.qvt_run_data.specs.declared.exit.End.TheVariants.{Fault, OutOfFuel}
use Rattle.qvt_run_data.specs.declared.exit.Exit.TheVariants.{Returned, Ends}
use Rattle.qvt_run_rules.specs.State.{State, Done, Does, turn_to}
use Rattle.qvt_run_rules.specs.Cost.{charge}
use Rattle.qvt_run_rules.specs.Locals.{local_of}
use Rattle.qvt_run_rules.specs.Statements as statement
use Rattle.qvt_run_rules.specs.Store.{fault_of}
use Rattle.qvt_run_data.specs.declared.request.Query.{Query}
use Rattle.qvt_run_rules.specs.Resolve.{ResolveAnswer, FoundOrEnded, Objects, Undefined, Stopped, answered_now}
use Rattle.qvt_meaning.specs.Numbered.{expr_at}
use Rattle.qvt_meaning.specs.Phrases.{expr, stmts}
use Rattle.qvt_meaning.specs.Plain.{Evaluated, state_of, evaluated, no_expression, answer}
use Rattle.qvt_meaning.specs.Readings.{Setting}
use Rattle.qvt_meaning.specs.Units.{all_calls}

-- the trace and the store that late resolves read
pub record Finish : Type 0 where
  pub trace : List Record
  pub store : Contents

abbrev pub empty_store : Contents
empty_store = record { metas = record { metamodels = []; classes = []; features = []; element = None }; extents = []; objects = [] }

abbrev pub empty_finish : Finish
empty_finish = record { trace = []; store = empty_store }

-- an entry: a late write with its answer
pub record AnsweredWrite : Type 0 where
  pub write : LateWrite
  pub answer : ResolveAnswer

abbrev pub late_query : LateWrite → Query
late_query w = record { request = w.request; one = w.one; condition = w.condition }

-- a late write with its answer over a finish
abbrev pub answered : ProgramTerm → Finish → LateWrite → AnsweredWrite
answered p f w = record { write = w; answer = answer p f.trace f.store (map local_of w.vars) w.place (late_query w) }

-- the body of `main`
abbrev pub main_in : List TypedUnitTerm → TypedStmtTerms
main_in [] = TypedNoStmts
main_in (TypedMainOf ss at n ∷ us) = ss
main_in (TypedClassOf c ∷ us) = main_in us
main_in (TypedHelperOf h ∷ us) = main_in us
main_in (TypedConstructorOf h ∷ us) = main_in us
main_in (TypedMappingOf m ∷ us) = main_in us

module _ {E : Type 0} (keep : LateWrite → E) (p : ProgramTerm) (fuel : ℕ) where
  -- a resolve that is not late is answered over the state's own trace and store
  abbrev pub resolved : Place → Query → Does E Value
  resolved at q = λ s. answered_now (charge fuel) q.one (answer p s.trace s.store s.locals at q) s

  abbrev pub entered : LateWrite → Does E (Unit {0})
  entered w = turn_to (λ s. record s { entries = s.entries ++ keep w ∷ [] })

  abbrev pub nothing_barred : Place → Does E Value → Does E Value
  nothing_barred at q = q

  -- with this fuel; what is kept of a late write is told by `keep`
  unfoldable pub setting : Setting E
  setting = record { program = p; spend = charge fuel; turns = fuel; resolve = resolved; enter = entered; beyond = nothing_barred }

  -- `main`, outside all objects
  abbrev pub main_does : Does E (Unit {0})
  main_does = statement.block (stmts setting (all_calls setting) None (main_in p.module_.units))

  -- over a loaded store, an empty trace, no open key, no entry and cost 0
  unfoldable pub main_run : Contents → Done E (Unit {0})
  main_run store = main_does (state_of store [] [])

  -- a pure expression, with no open key and no open call
  abbrev pub evaluated_in : Contents → List Record → List Var → Option TypedExprTerm → Evaluated
  evaluated_in store trace vs None = no_expression
  evaluated_in store trace vs (Some e) = evaluated (expr setting (all_calls setting) None e (state_of store trace (map local_of vs)))

  unfoldable pub pure_at : Contents → List Record → List Var → ExprNo → Evaluated
  pure_at store trace vs n = evaluated_in store trace vs (expr_at p n)

-- what `main` left
abbrev pub finish_of : {E : Type 0} → State E → Finish
finish_of s = record { trace = s.trace; store = s.store }

-- The answers of the entries in order, the cost going on: an entry costs one and its answer. The first that passes the fuel, is invalid, or
-- is a fault of types ends the run.
abbrev pub walk_on : FoundOrEnded → Result ℕ End → Result ℕ End
walk_on (Objects os) rest = rest
walk_on (Undefined r at) rest = Err (Fault (fault.InvalidValue r) at)
walk_on (Stopped e) rest = Err e

abbrev pub walk : ℕ → ℕ → List AnsweredWrite → Result ℕ End
walk fuel cost [] = Ok cost
walk fuel cost (e ∷ es) =
    if nat_lt fuel (cost + (1 + e.answer.cost)) then Err OutOfFuel
    else walk_on e.answer.found (walk fuel (cost + (1 + e.answer.cost)) es)

abbrev pub objects_in : FoundOrEnded → List Oid
objects_in (Objects os) = os
objects_in (Undefined r at) = []
objects_in (Stopped e) = []

-- what an entry writes into its slot
abbrev pub late_value : AnsweredWrite → LateValue
late_value e = record { object = e.write.object; feature = e.write.feature; op = e.write.op; values = objects_in e.answer.found; place = e.write.place }

abbrev pub written : Contents → LateValue → Result Contents StoreFault
written s v = write s v.object.0 v.feature.0 v.op (map Obj v.values)

-- the entries carried out in order, each at its sign
abbrev pub patch_on : Result Contents StoreFault → Place → (Contents → Result Contents End) → Result Contents End
patch_on (Ok s) at f = f s
patch_on (Err e) at f = Err (Fault (fault_of e) at)

abbrev pub patched : Contents → List LateValue → Result Contents End
patched s [] = Ok s
patched s (v ∷ vs) = patch_on (written s v) v.place (λ t. patched t vs)

-- a run that has ended well: the store as the last statement left it, the store with the entries carried out, the trace, the entries, and
-- the cost
pub record FinishedRun : Type 0 where
  pub finish : Finish
  pub after : Contents
  pub entries : List AnsweredWrite
  pub cost : ℕ

abbrev pub finished_as : Finish → List AnsweredWrite → ℕ → Result Contents End → Result FinishedRun End
finished_as f es cost (Ok store) = Ok (record { finish = f; after = store; entries = es; cost = cost })
finished_as f es cost (Err e) = Err e

abbrev pub carried_out : Finish → List AnsweredWrite → Result ℕ End → Result FinishedRun End
carried_out f es (Ok cost) = finished_as f es cost (patched f.store (map late_value es))
carried_out f es (Err e) = Err e

-- the entries of the run with the finish that the first run left
abbrev pub second_entries : ProgramTerm → ℕ → Contents → Finish → List AnsweredWrite
second_entries p fuel store f = (main_run (answered p f) p fuel store).1.entries

abbrev pub after_main : ProgramTerm → ℕ → Contents → State AnsweredWrite → Result FinishedRun End
after_main p fuel store s = let es : List AnsweredWrite = second_entries p fuel store (finish_of s) in carried_out (finish_of s) es (walk fuel s.cost es)

-- a `return` ends `main` as its last statement does
abbrev pub after_first : ProgramTerm → ℕ → Contents → Result (Unit {0}) Exit → State AnsweredWrite → Result FinishedRun End
after_first p fuel store (Ok u) s = after_main p fuel store s
after_first p fuel store (Err (Returned v)) s = after_main p fuel store s
after_first p fuel store (Err (Ends e)) s = Err e

-- a run of a program over a loaded store
unfoldable pub finished : ProgramTerm → Contents → ℕ → Result FinishedRun End
finished p store fuel = let first : Done AnsweredWrite (Unit {0}) = main_run (answered p empty_finish) p fuel store in after_first p fuel store first.0 first.1
