use Rattle.std.proofs.Common.{◌≡◌, Bool, true, ◌||◌, not, ◌∙◌, sym, ap, cond, ◌==◌, ◌&&◌, subst, List, get_or}
use Rattle.qvt_value.specs.declared.value.Value.{Value}
use Rattle.qvt_slots.specs.Cells.{contents_of}
use Rattle.qvt_relation.proofs.Bools.{and_left, and_right}
use Rattle.qvt_slots.specs.Change.{is_linked}
use Rattle.qvt_slots.specs.Contents.{Contents, extent_of, is_model, with_slot}
use Rattle.qvt_slots.specs.Assign.{change_to, store_after}
use Rattle.qvt_store.specs.Ready.{Ready, StaysElsewhere}
use Rattle.qvt_store.proofs.Done.{writes_live, items_live, released_live, added_live, kept_whole, gives_store, gives_slot}
use Rattle.qvt_store.proofs.Moved.{slot_there, cells_live, moved_live, moved_write}
use Rattle.qvt_store.proofs.store.Store.carry_out.Goals as goal

pub put-requires : goal.put-requires
put-requires c =
    let ready = subst (λ (s : Contents). Ready s c.args.draft.now c.args.items c.args.writes.items c.args.released.now) (sym c.self.view_is) c.requires in
    record {
      live = cells_live c.self.inside.metas c.self.inside.extents c.self.inside.cells.items c.args.draft.now.object.0 c.args.draft.now.feature.0 ready.fit.slot;
      there = slot_there c.self.inside.metas c.self.inside.extents c.self.inside.cells.items c.args.draft.now.object.0 c.args.draft.now.feature.0 ready.fit.slot;
      have_slots = c.self.invariant.whole.have_slots;
    }

pub settle-requires : goal.settle-requires
settle-requires c =
    let ready = subst (λ (s : Contents). Ready s c.args.draft.now c.args.items c.args.writes.items c.args.released.now) (sym c.self.view_is) c.requires in
    let m = c.self.inside.metas in
    let e = c.self.inside.extents in
    let old = c.self.inside.cells.items in
    record {
      have_slots = c.put.ensures.objects.have_slots;
      writes = λ k w h. moved_write m old c.put.new.cells.items (get_or c.args.writes.items k w) c.put.ensures.objects (writes_live m e old c.args.draft.now c.args.items c.args.writes.items c.args.released.now c.self.invariant.whole ready k w h);
      items = λ k w h cont. moved_live m old c.put.new.cells.items _ c.put.ensures.objects (items_live m e old c.args.draft.now c.args.items c.args.writes.items c.args.released.now c.self.invariant.whole ready k w h cont);
      released = moved_live m old c.put.new.cells.items _ c.put.ensures.objects (released_live m e old c.args.draft.now c.args.items c.args.writes.items c.args.released.now c.self.invariant.whole ready);
      added = moved_live m old c.put.new.cells.items _ c.put.ensures.objects (added_live m e old c.args.draft.now c.args.items c.args.writes.items c.args.released.now c.self.invariant.whole ready);
    }

pub invariant_of-self : goal.invariant_of-self
invariant_of-self c =
    let ready = subst (λ (s : Contents). Ready s c.args.draft.now c.args.items c.args.writes.items c.args.released.now) (sym c.self.view_is) c.requires in
    kept_whole c.self.inside.metas c.self.inside.extents c.self.inside.cells.items c.args.draft.now c.args.items c.args.writes.items c.args.released.now c.self.invariant.whole ready
    c.put.new.cells.items c.settle.new.cells.items c.put.ensures c.settle.ensures c.self.inside.members.items c.self.inside.marks c.marks_changed-self-inside.result c.self.invariant c.marks_changed-self-inside.ensures.distinct
    (λ t. let h = sym c.marks_changed-self-inside.ensures.own ∙ t in (and_left _ _ h, subst (λ (b : Bool). (b || not (is_linked c.self.inside.metas c.args.draft.now.feature.0)) ≡ true) (c.is_in_model-in_model.ensures ∙ ap (λ (s : Contents). is_model s (extent_of s c.args.draft.now.object.0)) (sym c.self.view_is)) (and_right c.self.inside.marks.own _ h)))

pub returns-clause-after : goal.returns-clause-after
returns-clause-after c =
    let ready = subst (λ (s : Contents). Ready s c.args.draft.now c.args.items c.args.writes.items c.args.released.now) (sym c.self.view_is) c.requires in
    gives_store c.self.inside.metas c.self.inside.extents c.self.inside.cells.items c.args.draft.now c.args.items c.args.writes.items c.args.released.now c.self.invariant.whole ready
    c.put.new.cells.items c.settle.new.cells.items c.put.ensures c.settle.ensures
    ∙ ap (λ (s : Contents). store_after s (change_to s c.args.draft.now.object.0 c.args.draft.now.feature.0 c.args.items)) c.self.view_is

pub returns-clause-plain : goal.returns-clause-plain
returns-clause-plain c stays =
    let ready = subst (λ (s : Contents). Ready s c.args.draft.now c.args.items c.args.writes.items c.args.released.now) (sym c.self.view_is) c.requires in
    let s : Contents = contents_of c.self.inside.metas c.self.inside.extents c.self.inside.cells.items in
    let still : StaysElsewhere (change_to s c.args.draft.now.object.0 c.args.draft.now.feature.0 c.args.items) =
    subst (λ (t : Contents). StaysElsewhere (change_to t c.args.draft.now.object.0 c.args.draft.now.feature.0 c.args.items)) (sym c.self.view_is) stays in
    gives_slot c.self.inside.metas c.self.inside.extents c.self.inside.cells.items c.args.draft.now c.args.items c.args.writes.items c.args.released.now c.self.invariant.whole ready
    c.put.new.cells.items c.settle.new.cells.items c.put.ensures c.settle.ensures
    (λ x f. ap (λ (l : List Value). cond ((x == c.args.draft.now.object.0) && (f == c.args.draft.now.feature.0)) c.args.items l) (still.stays x f))
    ∙ ap (λ (s : Contents). with_slot s c.args.draft.now.object.0 c.args.draft.now.feature.0 c.args.items) c.self.view_is
