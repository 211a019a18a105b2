use Rattle.std.proofs.Common.{arith, sym, ◌∙◌, map}
use Rattle.qvt_tree_types.specs.View.{arm_view, expr_view, item_view, link_view, step_view, stmt_view}
use Rattle.qvt_tree.specs.Same.{same_arm, same_expr, same_item, same_link, same_step, same_stmt}
use Rattle.qvt_tree.proofs.Pairs.{each_lengths, arms_each, exprs_each, items_each, links_each, steps_each, stmts_each}
use Rattle.qvt_tree.proofs.equal.+same.Goals as goal

pub same_arms-returns-then-len : goal.same_arms-returns-then-len
same_arms-returns-then-len t c = sym (arms_each (map arm_view c.args.a.now) (map arm_view c.args.b.now) ∙ each_lengths same_arm arm_view c.args.a.now c.args.b.now (λ e. omega (arith, e)))

pub same_exprs-returns-then-len : goal.same_exprs-returns-then-len
same_exprs-returns-then-len t c = sym (exprs_each (map expr_view c.args.a.now) (map expr_view c.args.b.now) ∙ each_lengths same_expr expr_view c.args.a.now c.args.b.now (λ e. omega (arith, e)))

pub same_items-returns-then-len : goal.same_items-returns-then-len
same_items-returns-then-len t c = sym (items_each (map item_view c.args.a.now) (map item_view c.args.b.now) ∙ each_lengths same_item item_view c.args.a.now c.args.b.now (λ e. omega (arith, e)))

pub same_links-returns-then-len : goal.same_links-returns-then-len
same_links-returns-then-len t c = sym (links_each (map link_view c.args.a.now) (map link_view c.args.b.now) ∙ each_lengths same_link link_view c.args.a.now c.args.b.now (λ e. omega (arith, e)))

pub same_steps-returns-then-len : goal.same_steps-returns-then-len
same_steps-returns-then-len t c = sym (steps_each (map step_view c.args.a.now) (map step_view c.args.b.now) ∙ each_lengths same_step step_view c.args.a.now c.args.b.now (λ e. omega (arith, e)))

pub same_stmts-returns-then-len : goal.same_stmts-returns-then-len
same_stmts-returns-then-len t c = sym (stmts_each (map stmt_view c.args.a.now) (map stmt_view c.args.b.now) ∙ each_lengths same_stmt stmt_view c.args.a.now c.args.b.now (λ e. omega (arith, e)))
