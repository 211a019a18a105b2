use Rattle.std.proofs.Common.{subst, List}
use Rattle.qvt_model.specs.declared.data.SlotData.{SlotData}
use Rattle.qvt_model.specs.Steps.{ArePutting}
use Rattle.qvt_model.proofs.Told.{drop_cons, drop_none, slots_more}
use Rattle.qvt_model.proofs.load.place_slots.Goals as goal

pub place_slot-requires : goal.place_slot-requires
place_slot-requires c =
    let more = subst (λ (l : List SlotData). ArePutting c.args.store.now c.loop-slot.store c.args.first c.args.object.0 c.args.slots.now l)
    (drop_cons c.args.slots.now c.loop-slot.slot-index c.slot-item.result c.loop-slot-test.true c.slot-item.is) c.loop-slot.invariant in
    more.can.0

pub loop-slot-preserved : goal.loop-slot-preserved
loop-slot-preserved c =
    let more = subst (λ (l : List SlotData). ArePutting c.args.store.now c.loop-slot.store c.args.first c.args.object.0 c.args.slots.now l)
    (drop_cons c.args.slots.now c.loop-slot.slot-index c.slot-item.result c.loop-slot-test.true c.slot-item.is) c.loop-slot.invariant in
    slots_more c.args.store.now c.loop-slot.store c.place_slot.new.store c.args.first c.args.object.0 c.args.slots.now _ c.slot-item.result c.in_ok-place_slot.ensures more

pub returns : goal.returns
returns c = (subst (λ (l : List SlotData). ArePutting c.args.store.now c.loop-slot.store c.args.first c.args.object.0 c.args.slots.now l)
    (drop_none c.args.slots.now c.loop-slot.slot-index c.loop-slot-test.false) c.loop-slot.invariant).same
