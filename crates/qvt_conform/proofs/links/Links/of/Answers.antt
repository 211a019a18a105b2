use Rattle.std.proofs.Common.{refl, [], subst}
use Rattle.qvt_conform.specs.Joined.{Joined}
use Rattle.qvt_conform.specs.Links.{links_of_slots, links_from}
use Rattle.qvt_conform.proofs.Joins.{goes_on}
use Rattle.qvt_conform.proofs.links.Links.of.Goals as goal

pub loop-i-preserved : goal.loop-i-preserved
loop-i-preserved c = goes_on (links_from c.args.metas.now) (λ i o. links_of_slots c.args.metas.now i o.slots) (λ i x xs. refl)
    c.args.objects.now c.loop-i.i c.index-objects-i.result c.loop-i-test.true c.index-objects-i.is [] c.loop-i.links c.add_slots.new.self
    c.loop-i.invariant (subst (λ ss. Joined c.loop-i.links (links_of_slots c.args.metas.now c.loop-i.i ss) c.add_slots.new.self) c.as_slice.ensures c.in_ok-add_slots.ensures)
