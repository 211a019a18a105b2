use Rattle.std.proofs.Common.{◌≡◌, ◌↔◌, subst, true}
use Rattle.qvt_slots.specs.Contents.{Contents, slot_of}
use Rattle.qvt_slots.specs.Walk.{SomeOver}
use Rattle.qvt_store.proofs.store.Store.is_some_over.Goals as goal

pub returns : goal.returns
returns c = subst (λ (s : Contents). (c.is_under.result ≡ true) ↔ SomeOver s.metas (slot_of s) c.args.objects.now c.args.item.0) c.self.view_is c.is_under.ensures
