use Rattle.std.proofs.Common.{◌≡◌, drop, map}
use Rattle.qvt_tree_types.specs.View.{expr_view, link_view, item_view, step_view, stmt_view, arm_view}
use Rattle.qvt_types_nodes.specs.View.{typed_expr_view, typed_link_view, typed_item_view, typed_step_view, typed_stmt_view, typed_arm_view}
use Rattle.qvt_types_laws.specs.Join.{join_expr, join_link, join_item, join_step, join_stmt, join_arm}
use Rattle.qvt_types_laws.specs.JoinModule.{join_all}
use Rattle.qvt_types_leaves.proofs.Lists.{after}
use Rattle.qvt_types_nested.proofs.+join.Given as goal

abbrev pub invariant-exprs::exprs-loop-each : goal.invariant-exprs::exprs-loop-each
invariant-exprs::exprs-loop-each l = join_all join_expr (map expr_view l.of) l.initial.notes ≡ after (map typed_expr_view l.done) (join_all join_expr (map expr_view (drop l.each-index l.of)) l.notes)

abbrev pub invariant-exprs::links-loop-each : goal.invariant-exprs::links-loop-each
invariant-exprs::links-loop-each l = join_all join_link (map link_view l.of) l.initial.notes ≡ after (map typed_link_view l.done) (join_all join_link (map link_view (drop l.each-index l.of)) l.notes)

abbrev pub invariant-exprs::all_items-loop-each : goal.invariant-exprs::all_items-loop-each
invariant-exprs::all_items-loop-each l = join_all join_item (map item_view l.of) l.initial.notes ≡ after (map typed_item_view l.done) (join_all join_item (map item_view (drop l.each-index l.of)) l.notes)

abbrev pub invariant-exprs::steps-loop-each : goal.invariant-exprs::steps-loop-each
invariant-exprs::steps-loop-each l = join_all join_step (map step_view l.of) l.initial.notes ≡ after (map typed_step_view l.done) (join_all join_step (map step_view (drop l.each-index l.of)) l.notes)

abbrev pub invariant-stmts::stmts-loop-each : goal.invariant-stmts::stmts-loop-each
invariant-stmts::stmts-loop-each l = join_all join_stmt (map stmt_view l.of) l.initial.notes ≡ after (map typed_stmt_view l.done) (join_all join_stmt (map stmt_view (drop l.each-index l.of)) l.notes)

abbrev pub invariant-stmts::all_arms-loop-each : goal.invariant-stmts::all_arms-loop-each
invariant-stmts::all_arms-loop-each l = join_all join_arm (map arm_view l.of) l.initial.notes ≡ after (map typed_arm_view l.done) (join_all join_arm (map arm_view (drop l.each-index l.of)) l.notes)
