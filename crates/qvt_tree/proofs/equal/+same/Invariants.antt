use Rattle.std.proofs.Common.{◌≡◌, map, drop}
use Rattle.qvt_tree_types.specs.View.{expr_view, link_view, item_view, step_view, stmt_view, arm_view, exprs_of, links_of, items_of, steps_of, stmts_of, arms_of}
use Rattle.qvt_tree.specs.Same.{same_exprs, same_links, same_items, same_steps, same_stmts, same_arms}
use Rattle.qvt_tree.proofs.equal.+same.Given as goal

abbrev pub invariant-same_exprs-loop-i : goal.invariant-same_exprs-loop-i
invariant-same_exprs-loop-i l =
    same_exprs (exprs_of (map expr_view l.xs)) (exprs_of (map expr_view l.ys)) ≡ same_exprs (exprs_of (map expr_view (drop l.i l.xs))) (exprs_of (map expr_view (drop l.i l.ys)))

abbrev pub invariant-same_links-loop-i : goal.invariant-same_links-loop-i
invariant-same_links-loop-i l =
    same_links (links_of (map link_view l.xs)) (links_of (map link_view l.ys)) ≡ same_links (links_of (map link_view (drop l.i l.xs))) (links_of (map link_view (drop l.i l.ys)))

abbrev pub invariant-same_items-loop-i : goal.invariant-same_items-loop-i
invariant-same_items-loop-i l =
    same_items (items_of (map item_view l.xs)) (items_of (map item_view l.ys)) ≡ same_items (items_of (map item_view (drop l.i l.xs))) (items_of (map item_view (drop l.i l.ys)))

abbrev pub invariant-same_steps-loop-i : goal.invariant-same_steps-loop-i
invariant-same_steps-loop-i l =
    same_steps (steps_of (map step_view l.xs)) (steps_of (map step_view l.ys)) ≡ same_steps (steps_of (map step_view (drop l.i l.xs))) (steps_of (map step_view (drop l.i l.ys)))

abbrev pub invariant-same_stmts-loop-i : goal.invariant-same_stmts-loop-i
invariant-same_stmts-loop-i l =
    same_stmts (stmts_of (map stmt_view l.xs)) (stmts_of (map stmt_view l.ys)) ≡ same_stmts (stmts_of (map stmt_view (drop l.i l.xs))) (stmts_of (map stmt_view (drop l.i l.ys)))

abbrev pub invariant-same_arms-loop-i : goal.invariant-same_arms-loop-i
invariant-same_arms-loop-i l =
    same_arms (arms_of (map arm_view l.xs)) (arms_of (map arm_view l.ys)) ≡ same_arms (arms_of (map arm_view (drop l.i l.xs))) (arms_of (map arm_view (drop l.i l.ys)))
