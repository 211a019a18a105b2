-- A run with a finish is the run that keeps requests alone, with each request answered over the finish.
use Rattle.std.proofs.Common.{◌≡◌, ◌∙◌, ℕ, refl, sym, ap, List, map, Option, Result, Ok, Err}
use Rattle.qvt_base.specs.declared.numbers.Place.{Place}
use Rattle.qvt_slots.specs.Contents.{Contents}
use Rattle.qvt_types_data.specs.declared.ty.Ty.{Ty}
use Rattle.qvt_types_nodes.specs.Tree.{TypedExprTerm, TypedStmtTerms}
use Rattle.qvt_typing.specs.Accepts.{ProgramTerm}
use Rattle.qvt_value.specs.declared.value.Value.{Value}
use Rattle.qvt_run_data.specs.declared.callee.Callee.{Callee}
use Rattle.qvt_run_data.specs.declared.exit.Exit.{Exit}
use Rattle.qvt_run_data.specs.declared.exit.Exit.TheVariants.{Returned, Ends}
use Rattle.qvt_run_data.specs.declared.late.LateWrite.{LateWrite}
use Rattle.qvt_run_rules.specs.State.{State, Done}
use Rattle.qvt_run_rules.specs.Statements.{in_order}
use Rattle.qvt_meaning.specs.Laws.{bare_state, bare, Independent, with_finish, CallsIndependent, expr_with, ExpressionsIndependent, stmts_with, StatementsIndependent, left_with, SecondRun, OnlyFinish, request_run, from_requests, OnePass}
use Rattle.qvt_meaning.specs.Phrases as phrase
use Rattle.qvt_meaning.specs.Readings.{Setting}
use Rattle.qvt_meaning.specs.Units as unit
use Rattle.qvt_meaning.specs.Run.{Finish, AnsweredWrite, empty_finish, answered, setting, main_run, finish_of, walk, carried_out, after_first, finished}
use Rattle.qvt_meaning_laws.proofs.Closed.{Closed}
use Rattle.qvt_meaning_laws.proofs.Actions as action
use Rattle.qvt_meaning_laws.proofs.Phrasing.{of_expr, of_stmts}
use Rattle.qvt_meaning_laws.proofs.Calls as calls
use Rattle.qvt_meaning_laws.proofs.Alike.{image, image_of, Alike, alike, runs}

abbrev request : AnsweredWrite → LateWrite
request e = e.write

abbrev kept : LateWrite → LateWrite
kept w = w

-- Without answers, what is done with a finish is what is done without one.

module _ (p : ProgramTerm) (fuel : ℕ) where
  abbrev requests : Setting LateWrite
  requests = setting kept p fuel

  closed : (f : Finish) → Closed AnsweredWrite LateWrite (Alike request) (λ p q. Unit {0}) (with_finish p f fuel) requests
  closed f = alike request (answered p f) kept (λ w. refl) p fuel

  bare_run : (f : Finish) (store : Contents) → main_run kept p fuel store ≡ bare (main_run (answered p f) p fuel store)
  bare_run f store = runs request (answered p f) kept (λ w. refl) p fuel store

  -- nothing is asked of conditions of loops and bodies of closures
  free : (left : ℕ) (answer : Option Ty) (e : TypedExprTerm) → Unit {0}
  free left answer e = tt

  module _ (left : ℕ) where
    bare_call : (f : Finish) (c : Callee) (vs : List Value) (at : Place) (s : State AnsweredWrite) → unit.calls_to requests left c vs at (bare_state s) ≡ bare (unit.calls_to (with_finish p f fuel) left c vs at s)
    unfolding setting
    bare_call f c vs at s = calls.calls_to (closed f) p free left c vs at s

    bare_expr : (f : Finish) (answer : Option Ty) (e : TypedExprTerm) (s : State AnsweredWrite) → phrase.expr requests (unit.calls_to requests left) answer e (bare_state s) ≡ bare (expr_with p f fuel left answer e s)
    unfolding setting
    bare_expr f answer e s = of_expr (closed f) p (calls.calls_to (closed f) p free left) (free left) answer e s

    bare_stmts : (f : Finish) (answer : Option Ty) (ss : TypedStmtTerms) (s : State AnsweredWrite) → in_order (phrase.stmts requests (unit.calls_to requests left) answer ss) (bare_state s) ≡ bare (stmts_with p f fuel left answer ss s)
    unfolding setting
    bare_stmts f answer ss s = action.in_order (closed f) (of_stmts (closed f) p (calls.calls_to (closed f) p free left) (free left) answer ss) s

pub independent : Independent
independent p f g fuel store = sym (bare_run p fuel f store) ∙ bare_run p fuel g store

pub calls_independent : CallsIndependent
calls_independent p f g fuel left c vs at s t e = sym (bare_call p fuel left f c vs at s) ∙ ap (unit.calls_to (requests p fuel) left c vs at) e ∙ bare_call p fuel left g c vs at t

pub expressions_independent : ExpressionsIndependent
expressions_independent p f g fuel left answer x s t e = sym (bare_expr p fuel left f answer x s) ∙ ap (phrase.expr (requests p fuel) (unit.calls_to (requests p fuel) left) answer x) e ∙ bare_expr p fuel left g answer x t

pub statements_independent : StatementsIndependent
statements_independent p f g fuel left answer ss s t e =
    sym (bare_stmts p fuel left f answer ss s) ∙ ap (in_order (phrase.stmts (requests p fuel) (unit.calls_to (requests p fuel) left) answer ss)) e ∙ bare_stmts p fuel left g answer ss t

-- The requests of a run, answered.

module _ (p : ProgramTerm) (fuel : ℕ) (store : Contents) where
  answered_run : (f : Finish) → main_run (answered p f) p fuel store ≡ image_of (answered p f) (request_run p fuel store)
  answered_run f = runs (answered p f) kept (answered p f) (λ w. refl) p fuel store

  leaves : (f : Finish) → left_with p fuel store f ≡ finish_of (request_run p fuel store).1
  leaves f = ap (λ (d : Done AnsweredWrite (Unit {0})). finish_of d.1) (answered_run f)

  -- all runs with a finish have answers to these requests
  abbrev Answered : State LateWrite → Type 0
  Answered s = (f : Finish) → (main_run (answered p f) p fuel store).1.entries ≡ map (answered p f) s.entries

  after : (s : State LateWrite) → Answered s → after_first p fuel store (Ok tt) (image (answered p empty_finish) s) ≡ from_requests p fuel (Ok tt) s
  after s h = ap (λ (es : List AnsweredWrite). carried_out (finish_of s) es (walk fuel s.cost es)) (h (finish_of s))

  passes : (r : Result (Unit {0}) Exit) (s : State LateWrite) → Answered s → after_first p fuel store r (image (answered p empty_finish) s) ≡ from_requests p fuel r s
  passes (Ok u) s h = after s h
  passes (Err (Returned v)) s h = after s h
  passes (Err (Ends e)) s h = refl

pub second_run : SecondRun
second_run p fuel store = leaves p fuel store (left_with p fuel store empty_finish) ∙ sym (leaves p fuel store empty_finish)

pub only_finish : OnlyFinish
only_finish p fuel store f e = sym e ∙ leaves p fuel store f ∙ sym (leaves p fuel store empty_finish)

pub one_pass : OnePass
unfolding finished
one_pass p fuel store = ap (λ (d : Done AnsweredWrite (Unit {0})). after_first p fuel store d.0 d.1) (answered_run p fuel store empty_finish)
    ∙ passes p fuel store (request_run p fuel store).0 (request_run p fuel store).1 (λ f. ap (λ (d : Done AnsweredWrite (Unit {0})). d.1.entries) (answered_run p fuel store f))
