use Rattle.std.proofs.Common.{◌≡◌, ◌++◌, map, drop}
use Rattle.qvt_types_nodes.specs.View as view
use Rattle.qvt_meaning.specs.Numbered as numbered
use Rattle.qvt_program_exprs.specs.Listing.{listing}
use Rattle.qvt_program_exprs.proofs.+listing.Given as goal

abbrev pub invariant-expressions::exprs-loop-node : goal.invariant-expressions::exprs-loop-node
invariant-expressions::exprs-loop-node l =
    listing l.all ++ numbered.in_exprs (view.typed_exprs_of (map view.typed_expr_view (drop l.node-index l.nodes)))
    ≡ listing l.initial.all ++ numbered.in_exprs (view.typed_exprs_of (map view.typed_expr_view l.nodes))

abbrev pub invariant-expressions::links-loop-node : goal.invariant-expressions::links-loop-node
invariant-expressions::links-loop-node l =
    listing l.all ++ numbered.in_links (view.typed_links_of (map view.typed_link_view (drop l.node-index l.nodes)))
    ≡ listing l.initial.all ++ numbered.in_links (view.typed_links_of (map view.typed_link_view l.nodes))

abbrev pub invariant-expressions::all_items-loop-node : goal.invariant-expressions::all_items-loop-node
invariant-expressions::all_items-loop-node l =
    listing l.all ++ numbered.in_items (view.typed_items_of (map view.typed_item_view (drop l.node-index l.nodes)))
    ≡ listing l.initial.all ++ numbered.in_items (view.typed_items_of (map view.typed_item_view l.nodes))

abbrev pub invariant-expressions::all_steps-loop-node : goal.invariant-expressions::all_steps-loop-node
invariant-expressions::all_steps-loop-node l =
    listing l.all ++ numbered.in_steps (view.typed_steps_of (map view.typed_step_view (drop l.node-index l.nodes)))
    ≡ listing l.initial.all ++ numbered.in_steps (view.typed_steps_of (map view.typed_step_view l.nodes))

abbrev pub invariant-statements::stmts-loop-node : goal.invariant-statements::stmts-loop-node
invariant-statements::stmts-loop-node l =
    listing l.all ++ numbered.in_stmts (view.typed_stmts_of (map view.typed_stmt_view (drop l.node-index l.nodes)))
    ≡ listing l.initial.all ++ numbered.in_stmts (view.typed_stmts_of (map view.typed_stmt_view l.nodes))

abbrev pub invariant-statements::all_arms-loop-node : goal.invariant-statements::all_arms-loop-node
invariant-statements::all_arms-loop-node l =
    listing l.all ++ numbered.in_arms (view.typed_arms_of (map view.typed_arm_view (drop l.node-index l.nodes)))
    ≡ listing l.initial.all ++ numbered.in_arms (view.typed_arms_of (map view.typed_arm_view l.nodes))
