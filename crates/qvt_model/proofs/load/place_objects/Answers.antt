use Rattle.std.proofs.Common.{◌≡◌, ◌∙◌, ℕ, ◌+◌, suc, sym, ap, subst, List, arith}
use Rattle.qvt_model.specs.declared.data.ObjectData.{ObjectData}
use Rattle.qvt_model.specs.declared.data.SlotData.{SlotData}
use Rattle.qvt_model.specs.Steps.{put_slots, with_objects, CanPutSlots, IsPutting}
use Rattle.qvt_model.proofs.Told.{drop_cons, drop_none, objects_more}
use Rattle.qvt_model.proofs.load.place_objects.Goals as goal

pub place_slots-requires : goal.place_slots-requires
place_slots-requires c =
    let more = subst (λ (l : List ObjectData). IsPutting c.args.store.now c.loop-i.store c.args.first (c.args.first + c.loop-i.i) c.args.objects.now l)
    (drop_cons c.args.objects.now c.loop-i.i c.index-objects-i.result c.loop-i-test.true c.index-objects-i.is) c.loop-i.invariant in
    subst (λ (ts : List SlotData). CanPutSlots c.loop-i.store.metas c.loop-i.store.extents c.args.first c.in_ok-number.number.0 c.loop-i.store.objects ts) (sym c.as_slice.ensures)
    (subst (λ x. CanPutSlots c.loop-i.store.metas c.loop-i.store.extents c.args.first x c.loop-i.store.objects c.index-objects-i.result.slots) (sym c.in_ok-number.ensures) more.can.0)

pub loop-i-preserved : goal.loop-i-preserved
loop-i-preserved c =
    let more = subst (λ (l : List ObjectData). IsPutting c.args.store.now c.loop-i.store c.args.first (c.args.first + c.loop-i.i) c.args.objects.now l)
    (drop_cons c.args.objects.now c.loop-i.i c.index-objects-i.result c.loop-i-test.true c.index-objects-i.is) c.loop-i.invariant in
    objects_more c.args.store.now c.loop-i.store c.place_slots.new.store c.args.first (c.args.first + c.loop-i.i) (c.args.first + (c.loop-i.i + 1)) c.args.objects.now _ c.index-objects-i.result (next c.args.first c.loop-i.i)
    (c.in_ok-place_slots.ensures ∙ ap (λ (ts : List SlotData). with_objects c.loop-i.store (put_slots c.loop-i.store.metas c.args.first c.in_ok-number.number.0 c.loop-i.store.objects ts)) c.as_slice.ensures
    ∙ ap (λ x. with_objects c.loop-i.store (put_slots c.loop-i.store.metas c.args.first x c.loop-i.store.objects c.index-objects-i.result.slots)) c.in_ok-number.ensures) more
  where
    next : (n i : ℕ) → n + (i + 1) ≡ suc (n + i)
    next n i = omega arith

pub returns : goal.returns
returns c = (subst (λ (l : List ObjectData). IsPutting c.args.store.now c.loop-i.store c.args.first (c.args.first + c.loop-i.i) c.args.objects.now l)
    (drop_none c.args.objects.now c.loop-i.i c.loop-i-test.false) c.loop-i.invariant).same
