-- Plain expressions and their cost (OCL 2.4, 7 and 11): the rules, with a cost that is counted without an end. And the answer of a request:
-- its candidates for which the condition is true, which is a plain expression.
use Rattle.std.specs.Prelude.{ℕ, List, [], ◌∷◌, ◌++◌, map, Option, Some, None, Result, Ok, Err}
use Rattle.qvt_base.specs.declared.numbers.ExprNo.{ExprNo}
use Rattle.qvt_base.specs.declared.numbers.Oid.{Oid}
use Rattle.qvt_base.specs.declared.numbers.Place.{Place}
use Rattle.qvt_slots.specs.Contents.{Contents}
use Rattle.qvt_types_nodes.specs.Tree.{TypedExprTerm}
use Rattle.qvt_typing.specs.Accepts.{ProgramTerm}
use Rattle.qvt_value.specs.declared.value.Value.{Value, Null, Obj}
use Rattle.qvt_value.specs.declared.value.Var.{Var}
use Rattle.qvt_run_data.specs.declared.fault.RunFault.TheVariants as fault
use Rattle.qvt_run_data.specs.declared.late.LateWrite.{LateWrite}
use Rattle.qvt_run_data.specs.declared.record.Record.{Record}
use Rattle.qvt_run_data.specs.declared.local.Local.{Local}
use Rattle.qvt_run_data.specs.declared.exit.End.{End}
use Rattle.qvt_run_data.specs.declared.exit.Exit.{Exit}
use Rattle.qvt_run_data.specs.declared.exit.End.TheVariants.{Fault}
use Rattle.qvt_run_data.specs.declared.exit.Exit.TheVariants.{Returned, Ends}
use Rattle.qvt_run_rules.specs.State.{State, Done, Does, misfit}
use Rattle.qvt_run_rules.specs.Cost.{count}
use Rattle.qvt_run_rules.specs.Locals.{fixed, local_of, name_in}
use Rattle.qvt_run_rules.specs.Trace.{candidates}
use Rattle.qvt_run_rules.specs.Calls.{CallRule}
use Rattle.qvt_run_data.specs.declared.request.Query.{Query}
use Rattle.qvt_run_rules.specs.Resolve.{ResolveAnswer, Weighed, Passes, Stops, verdict_of, sifted}
use Rattle.qvt_meaning.specs.Nodes.{place_of}
use Rattle.qvt_meaning.specs.Numbered.{ConditionTerm, condition_at, expr_at}
use Rattle.qvt_meaning.specs.Phrases.{expr}
use Rattle.qvt_meaning.specs.Readings.{Setting}

abbrev pub state_of : {E : Type 0} → Contents → List Record → List Local → State E
state_of store trace ls = record { locals = ls; inner = None; store = store; trace = trace; keys = []; entries = []; cost = 0 }

-- a body that a `return` ends gives its value
abbrev pub returned_value : Option Value → Value
returned_value None = Null
returned_value (Some v) = v

abbrev pub ended : Result Value Exit → Result Value End
ended (Ok v) = Ok v
ended (Err (Returned v)) = Ok (returned_value v)
ended (Err (Ends e)) = Err e

-- a value, or what ended the evaluation; and the cost of it
pub record Evaluated : Type 0 where
  pub outcome : Result Value End
  pub cost : ℕ

abbrev pub evaluated : {E : Type 0} → Done E Value → Evaluated
evaluated d = record { outcome = ended d.0; cost = d.1.cost }

-- a plain expression calls no unit, resolves nothing, and has nothing beyond it
abbrev pub no_calls : CallRule LateWrite
no_calls c vs at = misfit at

abbrev pub no_resolve : Place → Query → Does LateWrite Value
no_resolve at q = misfit at

abbrev pub no_entry : LateWrite → Does LateWrite (Unit {0})
no_entry w = misfit w.place

abbrev pub nothing_beyond : Place → Does LateWrite Value → Does LateWrite Value
nothing_beyond at p = misfit at

abbrev pub plain_setting : ProgramTerm → Setting LateWrite
plain_setting p = record { program = p; spend = count; turns = 0; resolve = no_resolve; enter = no_entry; beyond = nothing_beyond }

-- the value of a plain expression over a store and variables, and its cost
unfoldable pub plain : ProgramTerm → Contents → List Local → TypedExprTerm → Evaluated
plain p s ls e = evaluated (expr (plain_setting p) no_calls None e (state_of s [] ls))

-- The answer of a request.

-- the candidate is the value of the filter's variable
abbrev pub candidate : List Local → Option (List ℕ) → Oid → List Local
candidate ls name o = ls ++ fixed (name_in ls name) (Obj o) ∷ []

abbrev pub weighed_as : Place → Evaluated → Weighed
weighed_as at e = record { verdict = verdict_of at e.outcome; cost = e.cost }

abbrev pub weighed_by : ProgramTerm → Contents → List Local → Place → Option ConditionTerm → Oid → Weighed
weighed_by p s ls at None o = record { verdict = Stops (Fault fault.TypeFault at); cost = 0 }
weighed_by p s ls at (Some c) o = weighed_as (place_of c.expr) (plain p s (candidate ls c.variable o) c.expr)

-- without a condition each candidate passes
abbrev pub weighed : ProgramTerm → Contents → List Local → Place → Option ExprNo → Oid → Weighed
weighed p s ls at None o = record { verdict = Passes; cost = 0 }
weighed p s ls at (Some n) o = weighed_by p s ls at (condition_at p n) o

-- the answer of a request over a trace and a store, with the variables that are in scope in its condition
unfoldable pub answer : ProgramTerm → List Record → Contents → List Local → Place → Query → ResolveAnswer
answer p trace s ls at q = sifted (weighed p s ls at q.condition) q.one [] 0 (candidates trace s q.request)

-- Expressions by their numbers.

abbrev pub nowhere : Place
nowhere = record { line = 1; column = 1; offset = 0 }

abbrev pub no_expression : Evaluated
no_expression = record { outcome = Err (Fault fault.TypeFault nowhere); cost = 0 }

abbrev pub plain_in : ProgramTerm → Contents → List Var → Option TypedExprTerm → Evaluated
plain_in p s vs None = no_expression
plain_in p s vs (Some e) = plain p s (map local_of vs) e

-- a plain expression over variables that are handed in
unfoldable pub plain_at : ProgramTerm → Contents → List Var → ExprNo → Evaluated
plain_at p s vs n = plain_in p s vs (expr_at p n)
