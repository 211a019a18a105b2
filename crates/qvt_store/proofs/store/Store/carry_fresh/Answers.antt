use Rattle.std.proofs.Common.{◌≡◌, Bool, true, ◌||◌, not, ◌∙◌, ◌++◌, sym, ap, subst, get_or}
use Rattle.qvt_relation.proofs.Bools.{and_left, and_right}
use Rattle.qvt_slots.specs.Change.{is_linked}
use Rattle.qvt_slots.specs.Contents.{Contents, extent_of, is_model, slot_in, slot_of}
use Rattle.qvt_slots.specs.Assign.{change_to, store_after}
use Rattle.qvt_slots.specs.Cells.{instances}
use Rattle.qvt_store.specs.Ready.{Ready}
use Rattle.qvt_store.proofs.Done.{writes_live, items_live, released_live, added_live, kept_whole, gives_store}
use Rattle.qvt_store.proofs.Moved.{moved_live, moved_write, slot_there, cells_live}
use Rattle.qvt_store.proofs.SameCells.{same_kept}
use Rattle.qvt_store.proofs.store.Store.carry_fresh.Goals as goal

pub push_values-requires : goal.push_values-requires
push_values-requires c =
    let ready = (subst (λ (s : Contents). Ready s c.args.draft.now (slot_of s c.args.draft.now.object.0 c.args.draft.now.feature.0 ++ c.args.fresh) c.args.writes.items c.args.released.now) (sym c.self.view_is) c.requires) in
    record {
      live = cells_live c.self.inside.metas c.self.inside.extents c.self.inside.cells.items c.args.draft.now.object.0 c.args.draft.now.feature.0 ready.fit.slot;
      there = slot_there c.self.inside.metas c.self.inside.extents c.self.inside.cells.items c.args.draft.now.object.0 c.args.draft.now.feature.0 ready.fit.slot;
      have_slots = c.self.invariant.whole.have_slots;
    }

pub invariant_of-self : goal.invariant_of-self
invariant_of-self c = same_kept c.self.inside.metas c.self.inside.extents c.self.inside.cells.items c.push_values.new.cells.items c.self.inside.members.items c.self.inside.marks c.in_err-push_values.ensures.err c.self.invariant

pub settle-requires : goal.settle-requires
settle-requires c =
    let ready = (subst (λ (s : Contents). Ready s c.args.draft.now (slot_of s c.args.draft.now.object.0 c.args.draft.now.feature.0 ++ c.args.fresh) c.args.writes.items c.args.released.now) (sym c.self.view_is) c.requires) in
    let put = c.in_ok-push_values.ensures.ok in
    record {
      have_slots = put.objects.have_slots;
      writes = λ k w h. moved_write c.self.inside.metas c.self.inside.cells.items c.push_values.new.cells.items (get_or c.args.writes.items k w) put.objects (writes_live c.self.inside.metas c.self.inside.extents c.self.inside.cells.items c.args.draft.now (slot_in c.self.inside.metas (instances c.self.inside.cells.items) c.args.draft.now.object.0 c.args.draft.now.feature.0 ++ c.args.fresh) c.args.writes.items c.args.released.now c.self.invariant.whole ready k w h);
      items = λ k w h cont. moved_live c.self.inside.metas c.self.inside.cells.items c.push_values.new.cells.items _ put.objects (items_live c.self.inside.metas c.self.inside.extents c.self.inside.cells.items c.args.draft.now (slot_in c.self.inside.metas (instances c.self.inside.cells.items) c.args.draft.now.object.0 c.args.draft.now.feature.0 ++ c.args.fresh) c.args.writes.items c.args.released.now c.self.invariant.whole ready k w h cont);
      released = moved_live c.self.inside.metas c.self.inside.cells.items c.push_values.new.cells.items _ put.objects (released_live c.self.inside.metas c.self.inside.extents c.self.inside.cells.items c.args.draft.now (slot_in c.self.inside.metas (instances c.self.inside.cells.items) c.args.draft.now.object.0 c.args.draft.now.feature.0 ++ c.args.fresh) c.args.writes.items c.args.released.now c.self.invariant.whole ready);
      added = moved_live c.self.inside.metas c.self.inside.cells.items c.push_values.new.cells.items _ put.objects (added_live c.self.inside.metas c.self.inside.extents c.self.inside.cells.items c.args.draft.now (slot_in c.self.inside.metas (instances c.self.inside.cells.items) c.args.draft.now.object.0 c.args.draft.now.feature.0 ++ c.args.fresh) c.args.writes.items c.args.released.now c.self.invariant.whole ready);
    }

pub invariant_of-self-2 : goal.invariant_of-self-2
invariant_of-self-2 c =
    let ready = (subst (λ (s : Contents). Ready s c.args.draft.now (slot_of s c.args.draft.now.object.0 c.args.draft.now.feature.0 ++ c.args.fresh) c.args.writes.items c.args.released.now) (sym c.self.view_is) c.requires) in
    kept_whole c.self.inside.metas c.self.inside.extents c.self.inside.cells.items c.args.draft.now (slot_in c.self.inside.metas (instances c.self.inside.cells.items) c.args.draft.now.object.0 c.args.draft.now.feature.0 ++ c.args.fresh) c.args.writes.items c.args.released.now c.self.invariant.whole ready
    c.push_values.new.cells.items c.settle.new.cells.items c.in_ok-push_values.ensures.ok c.settle.ensures c.self.inside.members.items c.self.inside.marks c.marks_changed-self-inside.result c.self.invariant c.marks_changed-self-inside.ensures.distinct
    (λ t. let h = sym c.marks_changed-self-inside.ensures.own ∙ t in (and_left _ _ h, subst (λ (b : Bool). (b || not (is_linked c.self.inside.metas c.args.draft.now.feature.0)) ≡ true) (c.is_in_model-in_model.ensures ∙ ap (λ (s : Contents). is_model s (extent_of s c.args.draft.now.object.0)) (sym c.self.view_is)) (and_right c.self.inside.marks.own _ h)))

pub returns-clause-ok : goal.returns-clause-ok
returns-clause-ok c =
    let ready = (subst (λ (s : Contents). Ready s c.args.draft.now (slot_of s c.args.draft.now.object.0 c.args.draft.now.feature.0 ++ c.args.fresh) c.args.writes.items c.args.released.now) (sym c.self.view_is) c.requires) in
    gives_store c.self.inside.metas c.self.inside.extents c.self.inside.cells.items c.args.draft.now (slot_in c.self.inside.metas (instances c.self.inside.cells.items) c.args.draft.now.object.0 c.args.draft.now.feature.0 ++ c.args.fresh) c.args.writes.items c.args.released.now c.self.invariant.whole ready
    c.push_values.new.cells.items c.settle.new.cells.items c.in_ok-push_values.ensures.ok c.settle.ensures
    ∙ ap (λ (s : Contents). store_after s (change_to s c.args.draft.now.object.0 c.args.draft.now.feature.0 (slot_of s c.args.draft.now.object.0 c.args.draft.now.feature.0 ++ c.args.fresh))) c.self.view_is
