-- What stands before the late resolve that ends an expression.
use Rattle.std.proofs.Common.{◌≡◌, ◌∙◌, Box, Global, sym, ap, subst, map, List, Option, Result}
use Rattle.qvt_base.specs.declared.numbers.Place.{Place}
use Rattle.qvt_value.specs.declared.value.Value.{Value}
use Rattle.qvt_run_data.specs.declared.exit.Halt.{Halt}
use Rattle.qvt_run_data.specs.declared.late.LateWrite.{LateWrite}
use Rattle.qvt_run_rules.specs.State.{State, Does}
use Rattle.qvt_types_data.specs.declared.note.Note.{Note}
use Rattle.qvt_types_nodes.specs.declared.tree.TypedExpr.{TypedExpr}
use Rattle.qvt_types_nodes.specs.declared.tree.TypedStep.{TypedStep}
use Rattle.qvt_types_nodes.specs.declared.tree.TypedExpr.TheFolds as folds
use Rattle.qvt_types_nodes.specs.declared.tree.TypedExpr.TheOpen.{TypedExpr-F}
use Rattle.qvt_types_nodes.specs.declared.tree.TypedExpr.TheVariants as expressions
use Rattle.qvt_types_nodes.specs.Tree.{TypedExprTerm, TypedStepTerm, TypedStmtTerm, TypedTargetTerm, TypedAccumulatorTerm, TypedArmTerm, TypedFilterTerm, TypedHeadTerm, TypedItemTerm, TypedLinkTerm, TypedMapTerm, TypedRangeTerm, TypedResolveTerm, TypedPostExpr}
use Rattle.qvt_types_nodes.specs.View as view
use Rattle.qvt_exec_types.specs.Nodes as nodes
use Rattle.qvt_exec_types.specs.Phrases as phrase
use Rattle.qvt_exec_types.specs.Readings as by
use Rattle.qvt_exec_leaves.specs.Runs.{Runs}
use Rattle.qvt_exec_leaves.specs.declared.state.RunState.{RunState}
use Rattle.qvt_exec_invocations.specs.Means.{Scene, all_steps, expr_of, late_source_of, setting_of, steps_of}

post_view : (e : Box TypedExpr Global) (ss : List TypedStep) (at : Place) (n : Note) → view.typed_expr_view (expressions.Post e ss at n) ≡ TypedPostExpr (view.typed_expr_view e.value) (view.typed_steps_of (map view.typed_step_view ss)) at n
post_view e ss at n = ap view.typed_expr_view (sym (expressions.rolls-Post e ss at n)) ∙ folds.fold-roll-TypedExpr TypedExprTerm TypedStepTerm TypedStmtTerm TypedTargetTerm TypedAccumulatorTerm TypedArmTerm TypedFilterTerm TypedHeadTerm TypedItemTerm TypedLinkTerm TypedMapTerm TypedRangeTerm TypedResolveTerm view.typed_expr_step view.typed_step_step view.typed_stmt_step view.typed_target_step view.typed_accumulator_step view.typed_arm_step view.typed_filter_step view.typed_head_step view.typed_item_step view.typed_link_step view.typed_map_step view.typed_range_step view.typed_resolve_step (TypedExpr-F.Post e ss at n)

-- a first part with its steps but the last
abbrev before_all : Scene → TypedExpr → List TypedStep → Place → Does LateWrite (Option Value)
before_all x e ss at = phrase.some_value (by.post_of (setting_of x) (nodes.model_named (view.typed_expr_view e)) at (expr_of x e) (all_steps ss) (phrase.but_last (steps_of x (nodes.type_of (view.typed_expr_view e)) ss)))

of_post : (x : Scene) (e : Box TypedExpr Global) (ss : List TypedStep) (at : Place) (n : Note) → late_source_of x (expressions.Post e ss at n) ≡ before_all x e.value ss at
unfolding late_source_of expr_of steps_of phrase.late_source
of_post x e ss at n = ap (phrase.late_source (setting_of x) x.1.calls x.0.answer.now) (post_view e ss at n)

pub post_runs : (x : Scene) (node first : TypedExpr) (all : List TypedStep) (e : Box TypedExpr Global) (ss : List TypedStep) (at : Place) (n : Note) (s : State LateWrite) (r : Result (Option Value) Halt) (t : RunState) →
    node ≡ expressions.Post e ss at n → first ≡ e.value → all ≡ ss → Runs (before_all x first all at s) r t → Runs (late_source_of x node s) r t
post_runs x node first all e ss at n s r t is one steps runs =
    subst (λ (p : Does LateWrite (Option Value)). Runs (p s) r t)
    (ap (λ (j : TypedExpr). before_all x j all at) one ∙ ap (λ (l : List TypedStep). before_all x e.value l at) steps ∙ sym (of_post x e ss at n) ∙ ap (late_source_of x) (sym is)) runs
