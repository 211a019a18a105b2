-- The plain data of nodes, by their parts.
use Rattle.std.proofs.Common.{◌≡◌, ◌∙◌, option_map, arith}
use Rattle.qvt_tree_types.specs.Tree.{ExprTerm, StepTerm, StmtTerm, TargetTerm, AccumulatorTerm, ArmTerm, FilterTerm, HeadTerm, ItemTerm, LinkTerm, MapTerm, RangeTerm, ResolveTerm, ResolveOf}
use Rattle.qvt_tree_types.specs.View as view
use Rattle.qvt_tree_types.specs.declared.tree.Expr.TheFolds as folds
use Rattle.qvt_tree_types.specs.declared.tree.ResolveCall.{ResolveCall, out-ResolveCall}

pub resolve_view_is : (m : ResolveCall) → view.resolve_view m ≡ ResolveOf (out-ResolveCall m).late (out-ResolveCall m).word (out-ResolveCall m).within (view.optional_filter (option_map view.filter_view (out-ResolveCall m).filter)) (out-ResolveCall m).place
resolve_view_is m = folds.fold_out-ResolveCall ExprTerm StepTerm StmtTerm TargetTerm AccumulatorTerm ArmTerm FilterTerm HeadTerm ItemTerm LinkTerm MapTerm RangeTerm ResolveTerm view.expr_step view.step_step view.stmt_step view.target_step view.accumulator_step view.arm_step view.filter_step view.head_step view.item_step view.link_step view.map_step view.range_step view.resolve_step m ∙ (grind arith)
