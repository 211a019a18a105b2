use Rattle.std.proofs.Common.{refl}
use Rattle.qvt_conform.specs.Links.{links_of_slot, links_of_slots}
use Rattle.qvt_conform.proofs.Joins.{goes_on}
use Rattle.qvt_conform.proofs.links.Links.add_slots.Goals as goal

pub loop-slot-preserved : goal.loop-slot-preserved
loop-slot-preserved c = goes_on (λ i. links_of_slots c.args.metas.now c.args.object) (λ i. links_of_slot c.args.metas.now c.args.object) (λ i x xs. refl)
    c.args.slots.now c.loop-slot.slot-index c.slot-item.result c.loop-slot-test.true c.slot-item.is c.args.self.now c.loop-slot.self c.add_slot.new.self
    c.loop-slot.invariant c.in_ok-add_slot.ensures
