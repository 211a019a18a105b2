use Rattle.std.proofs.Common.{refl}
use Rattle.qvt_conform.specs.Links.{links_of_item, links_of_items}
use Rattle.qvt_conform.proofs.Joins.{goes_on}
use Rattle.qvt_conform.proofs.links.Links.add_items.Goals as goal

pub loop-item-preserved : goal.loop-item-preserved
loop-item-preserved c = goes_on (λ i. links_of_items c.args.object c.args.feature.0) (λ i. links_of_item c.args.object c.args.feature.0) (λ i x xs. refl)
    c.args.items.now c.loop-item.item-index c.item-item.result c.loop-item-test.true c.item-item.is c.args.self.now c.loop-item.self c.add_item.new.self
    c.loop-item.invariant c.in_ok-add_item.ensures
