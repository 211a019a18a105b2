use Rattle.std.proofs.Common.{◌∙◌, sym, ap, subst, [], List}
use Rattle.qvt_value.specs.declared.value.Value.{Value}
use Rattle.qvt_run_data.specs.declared.late.LateWrite.{LateWrite}
use Rattle.qvt_run_rules.specs.State.{Does}
use Rattle.qvt_run_rules.specs.Sources.{as_flat, collected_kind, for_items, in_turn}
use Rattle.qvt_exec_state.specs.Runs.{Runs, seen}
use Rattle.qvt_exec_leaves.specs.Leaves.{for_list, leaf_does}
use Rattle.qvt_exec_leaves.proofs.Leaves.{for_coll}
use Rattle.qvt_exec_leaves.proofs.dotted.+dots.Goals as goal

pub on_items-returns-in-Coll : goal.on_items-returns-in-Coll
on_items-returns-in-Coll t c =
    subst (λ (p : Does LateWrite Value). Runs (p (seen c.args.state.now)) c.on_list.result c.args.state.now)
    (ap (λ (vs : List Value). in_turn (as_flat c.args.place (collected_kind c.in-Coll.kind)) [] (for_list c.args.place (leaf_does c.args.leaf.now c.args.place) vs)) c.as_slice.ensures
    ∙ sym (ap (for_items c.args.place (leaf_does c.args.leaf.now c.args.place)) c.in-Coll.is ∙ for_coll c.args.place (leaf_does c.args.leaf.now c.args.place) c.in-Coll.kind c.in-Coll.items))
    c.on_list.ensures
