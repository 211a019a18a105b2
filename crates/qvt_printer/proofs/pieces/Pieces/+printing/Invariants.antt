use Rattle.std.proofs.Common.{◌≡◌, ◌++◌, map, drop, false}
use Rattle.qvt_tree_types.specs.View.{expr_view, link_view, item_view, step_view, stmt_view, arm_view, exprs_of, links_of, items_of, steps_of, stmts_of, arms_of}
use Rattle.qvt_printer.specs.Expressions as printed
use Rattle.qvt_printer.proofs.pieces.Pieces.+printing.Given as goal

abbrev pub invariant-exprs-loop-expr : goal.invariant-exprs-loop-expr
invariant-exprs-loop-expr l = l.self ++ printed.exprs l.started (exprs_of (map expr_view (drop l.expr-index l.exprs))) ≡ l.initial.self ++ printed.exprs false (exprs_of (map expr_view l.exprs))

abbrev pub invariant-all_items-loop-item : goal.invariant-all_items-loop-item
invariant-all_items-loop-item l = l.self ++ printed.all_items l.started (items_of (map item_view (drop l.item-index l.items))) ≡ l.initial.self ++ printed.all_items false (items_of (map item_view l.items))

abbrev pub invariant-links-loop-link : goal.invariant-links-loop-link
invariant-links-loop-link l = l.self ++ printed.links l.level (links_of (map link_view (drop l.link-index l.links))) ≡ l.initial.self ++ printed.links l.level (links_of (map link_view l.links))

abbrev pub invariant-steps-loop-step : goal.invariant-steps-loop-step
invariant-steps-loop-step l = l.self ++ printed.steps (steps_of (map step_view (drop l.step-index l.steps))) ≡ l.initial.self ++ printed.steps (steps_of (map step_view l.steps))

abbrev pub invariant-arms-loop-arm : goal.invariant-arms-loop-arm
invariant-arms-loop-arm l = l.self ++ printed.arms (arms_of (map arm_view (drop l.arm-index l.arms))) ≡ l.initial.self ++ printed.arms (arms_of (map arm_view l.arms))

abbrev pub invariant-stmts-loop-stmt : goal.invariant-stmts-loop-stmt
invariant-stmts-loop-stmt l = l.self ++ printed.stmts (stmts_of (map stmt_view (drop l.stmt-index l.body))) ≡ l.initial.self ++ printed.stmts (stmts_of (map stmt_view l.body))
