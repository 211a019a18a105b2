use Rattle.std.proofs.Common.{take}
use Rattle.qvt_slots.specs.Contents.{slot_of}
use Rattle.qvt_slots.specs.Walk.{IsOverSome}
use Rattle.qvt_store.proofs.store.Store.is_over_some.Given as goal

abbrev pub invariant-loop-item : goal.invariant-loop-item
invariant-loop-item l = IsOverSome l.self.metas (slot_of l.self) l.object.0 (take l.item-index l.objects) → ⊥
