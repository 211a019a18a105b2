use Rattle.std.proofs.Common.{◌≡◌, ◌↔◌, subst, true}
use Rattle.qvt_store.proofs.CycleTests.{some_one}
use Rattle.qvt_slots.specs.Contents.{Contents, slot_of, slot_in}
use Rattle.qvt_slots.specs.Cells.{instances}
use Rattle.qvt_slots.specs.Walk.{IsOver}
use Rattle.qvt_store.proofs.store.Store.is_over.Goals as goal

pub returns : goal.returns
returns c = subst (λ (s : Contents). (c.is_under.result ≡ true) ↔ IsOver s.metas (slot_of s) c.args.object.0 c.args.item.0) c.self.view_is
    (let one = some_one c.self.inside.metas (slot_in c.self.inside.metas (instances c.self.inside.cells.items)) c.args.object c.args.item.0 in
    (λ t. one.0 (c.is_under.ensures.0 t), λ over. c.is_under.ensures.1 (one.1 over)))
