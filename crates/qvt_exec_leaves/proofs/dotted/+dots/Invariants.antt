use Rattle.std.proofs.Common.{◌≡◌, drop, []}
use Rattle.qvt_run_rules.specs.Sources.{as_flat, collected_kind, in_turn}
use Rattle.qvt_exec_state.specs.Runs.{seen}
use Rattle.qvt_exec_leaves.specs.Leaves.{for_list, leaf_does}
use Rattle.qvt_exec_leaves.proofs.dotted.+dots.Given as goal

abbrev pub invariant-on_list-loop-item : goal.invariant-on_list-loop-item
invariant-on_list-loop-item l = in_turn (as_flat l.place (collected_kind l.kind)) l.done (for_list l.place (leaf_does l.leaf l.place) (drop l.item-index l.items)) (seen l.state) ≡ in_turn (as_flat l.place (collected_kind l.kind)) [] (for_list l.place (leaf_does l.leaf l.place) l.items) (seen l.state)
