-- An expression with steps does what it does with the source of an operation lent.
use Rattle.std.proofs.Common.{◌≡◌, ◌∙◌, sym, ap, List, Option}
use Rattle.qvt_types_data.specs.declared.ty.Ty.{Ty}
use Rattle.qvt_types_nodes.specs.View.{typed_expr_view}
use Rattle.qvt_types_nodes.specs.declared.tree.TypedExpr.{TypedExpr}
use Rattle.qvt_types_nodes.specs.declared.tree.TypedStep.{TypedStep}
use Rattle.qvt_run_data.specs.declared.late.LateWrite.{LateWrite}
use Rattle.qvt_run_rules.specs.Expressions as rule
use Rattle.qvt_run_rules.specs.State.{State}
use Rattle.qvt_exec_types.specs.Nodes.{type_of}
use Rattle.qvt_exec_quiet.specs.Lent.{lent_of}
use Rattle.qvt_exec_quiet.proofs.Leaving.{quiet_spend}
use Rattle.qvt_exec_quiet.proofs.Lending.{lends_first}
use Rattle.qvt_exec_invocations.specs.Means.{Scene, all_steps, expr_of, setting_of, steps_of}
use Rattle.qvt_exec_steps.specs.Lent.{lent_steps_in, begun_in, all_along}

as_begun : (x : Scene) (first : TypedExpr) (ss : List TypedStep) (s : State LateWrite) →
    rule.on_first (expr_of x first) (steps_of x (type_of (typed_expr_view first)) ss) s
    ≡ all_along x (type_of (typed_expr_view first)) (all_steps ss) (lent_of (typed_expr_view first) (all_steps ss)) (expr_of x first) (steps_of x (type_of (typed_expr_view first)) ss) s
unfolding expr_of steps_of lent_steps_in begun_in all_along
as_begun x first ss s = lends_first (setting_of x) x.1.calls x.0.answer.now (quiet_spend x.0.limit) (typed_expr_view first) (all_steps ss) s

-- by the type of the first part
pub by_type : (x : Scene) (first : TypedExpr) (ss : List TypedStep) (o : Option Ty) (s : State LateWrite) → o ≡ type_of (typed_expr_view first) →
    all_along x o (all_steps ss) (lent_of (typed_expr_view first) (all_steps ss)) (expr_of x first) (steps_of x o ss) s ≡ rule.on_first (expr_of x first) (steps_of x (type_of (typed_expr_view first)) ss) s
by_type x first ss o s typed =
    ap (λ (t : Option Ty). all_along x t (all_steps ss) (lent_of (typed_expr_view first) (all_steps ss)) (expr_of x first) (steps_of x t ss) s) typed
    ∙ sym (as_begun x first ss s)
