use Rattle.qvt_tree_types.specs.View.{expr_view, exprs_of, link_view, links_of, item_view, items_of, step_view, steps_of, stmt_view, stmts_of, arm_view, arms_of}
use Rattle.qvt_types_laws.specs.Join.{join_expr, join_exprs, join_link, join_links, join_item, join_items, join_step, join_steps, join_stmt, join_stmts, join_arm, join_arms}
use Rattle.qvt_types_leaves.proofs.Lists.{exprs_joined, links_joined, items_joined, steps_joined, stmts_joined, arms_joined}
use Rattle.qvt_types_nodes.specs.View.{typed_expr_view, typed_exprs_of, typed_link_view, typed_links_of, typed_item_view, typed_items_of, typed_step_view, typed_steps_of, typed_stmt_view, typed_stmts_of, typed_arm_view, typed_arms_of}
use Rattle.qvt_types_nested.proofs.Listed.{listed}
use Rattle.qvt_types_nested.proofs.+join.Goals as goal

pub exprs::exprs-returns : goal.exprs::exprs-returns
exprs::exprs-returns t c = listed join_expr expr_view typed_expr_view join_exprs exprs_of typed_exprs_of exprs_joined c.args.of.now c.loop-each.each-index c.loop-each.done c.args.notes.now c.loop-each.notes c.loop-each.invariant c.loop-each-test.false

pub exprs::links-returns : goal.exprs::links-returns
exprs::links-returns t c = listed join_link link_view typed_link_view join_links links_of typed_links_of links_joined c.args.of.now c.loop-each.each-index c.loop-each.done c.args.notes.now c.loop-each.notes c.loop-each.invariant c.loop-each-test.false

pub exprs::all_items-returns : goal.exprs::all_items-returns
exprs::all_items-returns t c = listed join_item item_view typed_item_view join_items items_of typed_items_of items_joined c.args.of.now c.loop-each.each-index c.loop-each.done c.args.notes.now c.loop-each.notes c.loop-each.invariant c.loop-each-test.false

pub exprs::steps-returns : goal.exprs::steps-returns
exprs::steps-returns t c = listed join_step step_view typed_step_view join_steps steps_of typed_steps_of steps_joined c.args.of.now c.loop-each.each-index c.loop-each.done c.args.notes.now c.loop-each.notes c.loop-each.invariant c.loop-each-test.false

pub stmts::stmts-returns : goal.stmts::stmts-returns
stmts::stmts-returns t c = listed join_stmt stmt_view typed_stmt_view join_stmts stmts_of typed_stmts_of stmts_joined c.args.of.now c.loop-each.each-index c.loop-each.done c.args.notes.now c.loop-each.notes c.loop-each.invariant c.loop-each-test.false

pub stmts::all_arms-returns : goal.stmts::all_arms-returns
stmts::all_arms-returns t c = listed join_arm arm_view typed_arm_view join_arms arms_of typed_arms_of arms_joined c.args.of.now c.loop-each.each-index c.loop-each.done c.args.notes.now c.loop-each.notes c.loop-each.invariant c.loop-each-test.false
