use Rattle.std.proofs.Common.{refl, sym, subst, List, false}
use Rattle.std.proofs.lemmas.List.{take_all}
use Rattle.qvt_base.specs.declared.numbers.Oid.{Oid}
use Rattle.qvt_relation.proofs.Bools.{clash}
use Rattle.qvt_slots.specs.Contents.{slot_of}
use Rattle.qvt_slots.specs.Walk.{IsOverSome}
use Rattle.qvt_slots.proofs.Holds.{in_among}
use Rattle.qvt_store.proofs.CycleTests.{over_more, over_found}
use Rattle.qvt_store.proofs.store.Store.is_over_some.Goals as goal

pub is_over-requires : goal.is_over-requires
is_over-requires c = c.requires _ (in_among c.args.objects.now c.loop-item.item-index (record { 0 = 0 }) c.loop-item-test.true)

pub loop-item-preserved : goal.loop-item-preserved
loop-item-preserved c = over_more c.args.self.now.metas (slot_of c.args.self.now) c.args.object.0 c.args.objects.now c.loop-item.item-index (record { 0 = 0 }) c.loop-item-test.true c.loop-item.invariant
    (λ over. clash c.is_over.result (c.is_over.ensures.1 over) c.if-is_over.false)

pub returns-then-is_over : goal.returns-then-is_over
returns-then-is_over c = (
  λ _. over_found c.args.self.now.metas (slot_of c.args.self.now) c.args.object.0 c.args.objects.now c.loop-item.item-index (record { 0 = 0 }) c.loop-item-test.true (c.is_over.ensures.0 c.if-is_over.true),
  λ _. refl,
)

pub returns : goal.returns
returns c = (λ t. clash false t refl, λ some. absurd (c.loop-item.invariant (subst (λ (l : List Oid). IsOverSome c.args.self.now.metas (slot_of c.args.self.now) c.args.object.0 l) (sym (take_all c.loop-item.item-index c.args.objects.now c.loop-item-test.false)) some)))
