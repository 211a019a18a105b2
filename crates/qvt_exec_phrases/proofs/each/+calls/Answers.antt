use Rattle.std.proofs.Common.{◌≡◌, ◌∙◌, ◌+◌, ◌-◌, sym, ap, subst, false, length, [], List, arith, rules}
use Rattle.qvt_value.specs.Make.{is_invalid}
use Rattle.qvt_value.specs.declared.value.Value.{Value}
use Rattle.qvt_run_data.specs.declared.late.LateWrite.{LateWrite}
use Rattle.qvt_run_rules.specs.State.{Does}
use Rattle.qvt_run_rules.specs.Sources.{as_flat, collected_kind, for_items, in_turn}
use Rattle.qvt_exec_state.specs.Runs.{Runs, seen}
use Rattle.qvt_exec_phrases.specs.Choice.{for_list, item_by, items_by}
use Rattle.qvt_exec_phrases.proofs.Items.{for_coll, item_ends, item_on}
use Rattle.qvt_exec_phrases.proofs.each.+calls.Goals as goal

pub on_items-returns-in-Coll : goal.on_items-returns-in-Coll
on_items-returns-in-Coll g t c =
    let f = item_by (g.C.UnitCalls.means c.args.units.now).calls c.args.how.now c.args.args in
    subst (λ (p : Does LateWrite Value). Runs (p (seen c.args.state.now)) c.on_list.result c.on_list.new.state)
    (ap (λ (vs : List Value). in_turn (as_flat c.args.how.now.place (collected_kind c.in-Coll.kind)) [] (for_list c.args.how.now.place f vs)) c.as_slice.ensures
    ∙ sym (ap (for_items c.args.how.now.place f) c.in-Coll.is ∙ for_coll c.args.how.now.place f c.in-Coll.kind c.in-Coll.items))
    c.on_list.ensures

pub on_list-returns-in_err-value : goal.on_list-returns-in_err-value
on_list-returns-in_err-value g t c =
    let f = λ (vs : List Value). item_by (g.C.UnitCalls.means c.args.units.now).calls c.args.how.now vs in
    item_ends c.args.how.now.place (as_flat c.args.how.now.place (collected_kind c.args.kind)) (f c.loop-item.args) (f c.in_ok-own.own) c.loop-item.done c.args.items.now c.loop-item.item-index c.item-item.result (seen c.loop-item.state)
    (items_by (g.C.UnitCalls.means c.args.units.now).calls c.args.how.now c.args.args c.args.kind c.args.items.now (seen c.args.state.now)) c.in_err-value.field-0.0 c.from_residual-in_err-value.result c.on_items.new.state
    c.loop-item-test.true c.item-item.is c.loop-item.invariant.1 (ap f c.in_ok-own.ensures.own) c.in_err-value.ensures c.from_residual-in_err-value.ensures.1

pub on_list-loop-item-preserved : goal.on_list-loop-item-preserved
on_list-loop-item-preserved g t c =
    let f = λ (vs : List Value). item_by (g.C.UnitCalls.means c.args.units.now).calls c.args.how.now vs in
    let all : c.loop-item.left - 1 + (c.loop-item.item-index + 1) ≡ length c.args.items.now = omega (arith, c.loop-item.invariant.0, c.loop-item-test.true) in
    let sure : is_invalid c.in_ok-value.value ≡ false = search rules in (
      all,
      item_on c.args.how.now.place (as_flat c.args.how.now.place (collected_kind c.args.kind)) (f c.loop-item.args) (f c.in_ok-own.own) (f c.args_for.new.args) c.loop-item.done c.push.new.self c.args.items.now c.loop-item.item-index (c.loop-item.left - 1) c.item-item.result c.in_ok-value.value (seen c.loop-item.state) (seen c.on_items.new.state)
          (items_by (g.C.UnitCalls.means c.args.units.now).calls c.args.how.now c.args.args c.args.kind c.args.items.now (seen c.args.state.now))
          c.loop-item-test.true c.item-item.is c.loop-item.invariant.1 (ap f c.in_ok-own.ensures.own) c.in_ok-value.ensures sure c.in_ok-push.ensures.ok all (λ more. ap f (c.in_ok-own.ensures.kept more)),
    )
