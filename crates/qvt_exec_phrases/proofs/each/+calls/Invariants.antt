use Rattle.std.proofs.Common.{◌≡◌, ◌+◌, drop, length, []}
use Rattle.qvt_run_rules.specs.Sources.{as_flat, collected_kind, in_turn}
use Rattle.qvt_exec_state.specs.Runs.{seen}
use Rattle.qvt_exec_phrases.specs.Choice.{for_list, item_by}
use Rattle.qvt_exec_phrases.proofs.each.+calls.Given as goal

abbrev pub invariant-on_list-loop-item : goal.invariant-on_list-loop-item
invariant-on_list-loop-item g l =
    (l.left + l.item-index ≡ length l.items)
    × (in_turn (as_flat l.how.place (collected_kind l.kind)) l.done (for_list l.how.place (item_by (g.C.UnitCalls.means l.units).calls l.how l.args) (drop l.item-index l.items)) (seen l.state)
    ≡ in_turn (as_flat l.how.place (collected_kind l.kind)) [] (for_list l.how.place (item_by (g.C.UnitCalls.means l.units).calls l.how l.fn.args) l.items) (seen l.initial.state))
