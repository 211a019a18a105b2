-- The place of a resolve.
use Rattle.std.proofs.Common.{◌≡◌, ap}
use Rattle.qvt_types_nodes.specs.View as view
use Rattle.qvt_types_nodes.specs.Tree.{TypedExprTerm, TypedStepTerm, TypedStmtTerm, TypedTargetTerm, TypedAccumulatorTerm, TypedArmTerm, TypedFilterTerm, TypedHeadTerm, TypedItemTerm, TypedLinkTerm, TypedMapTerm, TypedRangeTerm, TypedResolveTerm}
use Rattle.qvt_types_nodes.specs.declared.tree.TypedExpr.TheFolds as folds
use Rattle.qvt_types_nodes.specs.declared.tree.TypedResolveCall.{TypedResolveCall, out-TypedResolveCall}
use Rattle.qvt_exec_phrases.specs.Nodes as nodes

pub stands : (r : TypedResolveCall) → (nodes.resolve_mark (view.typed_resolve_view r)).place ≡ (out-TypedResolveCall r).place
stands r = ap (λ (t : TypedResolveTerm). (nodes.resolve_mark t).place) (folds.fold_out-TypedResolveCall TypedExprTerm TypedStepTerm TypedStmtTerm TypedTargetTerm TypedAccumulatorTerm TypedArmTerm TypedFilterTerm TypedHeadTerm TypedItemTerm TypedLinkTerm TypedMapTerm TypedRangeTerm TypedResolveTerm view.typed_expr_step view.typed_step_step view.typed_stmt_step view.typed_target_step view.typed_accumulator_step view.typed_arm_step view.typed_filter_step view.typed_head_step view.typed_item_step view.typed_link_step view.typed_map_step view.typed_range_step view.typed_resolve_step r)
