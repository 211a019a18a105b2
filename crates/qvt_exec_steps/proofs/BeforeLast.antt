-- A first part with its steps but the last.
use Rattle.std.proofs.Common.{◌≡◌, sym, ap, List, map, Option}
use Rattle.qvt_base.specs.declared.numbers.Place.{Place}
use Rattle.qvt_value.specs.declared.value.Value.{Value}
use Rattle.qvt_run_data.specs.declared.late.LateWrite.{LateWrite}
use Rattle.qvt_run_rules.specs.Calls.{CallRule}
use Rattle.qvt_run_rules.specs.State.{Does}
use Rattle.qvt_types_data.specs.declared.ty.Ty.{Ty}
use Rattle.qvt_types_nodes.specs.declared.tree.TypedExpr.{TypedExpr}
use Rattle.qvt_types_nodes.specs.declared.tree.TypedStep.{TypedStep}
use Rattle.qvt_types_nodes.specs.View.{typed_expr_view, typed_step_view, typed_steps_of}
use Rattle.qvt_exec_types.specs.Nodes as nodes
use Rattle.qvt_exec_types.specs.Phrases as phrase
use Rattle.qvt_exec_types.specs.Readings as by
use Rattle.qvt_exec_types.specs.Readings.{Setting}
use Rattle.qvt_exec_invocations.specs.Means.{Scene, all_steps, expr_of, setting_of, steps_of}

-- the steps before the last do what they do before it
abbrev AreBefore : List TypedStep → List TypedStep → Type 0
AreBefore ss all = (x : Setting LateWrite) (calls : CallRule LateWrite) (answer o : Option Ty) → phrase.steps x calls answer o (typed_steps_of (map typed_step_view ss)) ≡ phrase.but_last (phrase.steps x calls answer o (typed_steps_of (map typed_step_view all)))

before_is : (x : Scene) (o : Option Ty) (ss all : List TypedStep) → AreBefore ss all → steps_of x o ss ≡ phrase.but_last (steps_of x o all)
unfolding steps_of
before_is x o ss all does = does (setting_of x) x.1.calls x.0.answer.now o

-- what they give behind a first part
abbrev pub given_by : Scene → TypedExpr → List TypedStep → Place → List TypedStep → Does LateWrite Value
given_by x e all at ss = by.post_of (setting_of x) (nodes.model_named (typed_expr_view e)) at (expr_of x e) (all_steps all) (steps_of x (nodes.type_of (typed_expr_view e)) ss)

pub without_last : (x : Scene) (e : TypedExpr) (ss all : List TypedStep) (at : Place) → AreBefore ss all →
    phrase.some_value (by.post_of (setting_of x) (nodes.model_named (typed_expr_view e)) at (expr_of x e) (all_steps all) (phrase.but_last (steps_of x (nodes.type_of (typed_expr_view e)) all))) ≡ phrase.some_value (given_by x e all at ss)
without_last x e ss all at does =
    ap (λ (fs : List (Value → Does LateWrite Value)). phrase.some_value (by.post_of (setting_of x) (nodes.model_named (typed_expr_view e)) at (expr_of x e) (all_steps all) fs)) (sym (before_is x (nodes.type_of (typed_expr_view e)) ss all does))
