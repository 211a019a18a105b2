use Rattle.std.proofs.Common.{◌∙◌, sym, ap, subst, Bool, ◌&&◌, not, List}
use Rattle.qvt_value.specs.declared.value.Value.{Value}
use Rattle.qvt_slots.specs.Contents.{Contents, with_slot}
use Rattle.qvt_slots.specs.Assign.{crosses}
use Rattle.qvt_slots.specs.Cells.{contents_of}
use Rattle.qvt_store_laws.specs.Place.{IsPlaceable, places_twice}
use Rattle.qvt_slots.proofs.Holds.{have_same}
use Rattle.qvt_store.proofs.Placed.{placed_kept, gives_placed, items_there, still_distinct, still_own, mid_live, mid_there}
use Rattle.qvt_store.proofs.store.Store.load.Goals as goal

pub hold_write-requires : goal.hold_write-requires
hold_write-requires c _ =
    let can = subst (λ (s : Contents). IsPlaceable s c.args.write.object.0 c.args.write.feature.0 c.args.write.items) (sym c.self.view_is) c.requires.placeable in
    items_there c.self.inside.metas c.self.inside.extents c.self.inside.cells.items c.args.write.object.0 c.args.write.feature.0 c.args.write.items can

pub put-requires : goal.put-requires
put-requires c =
    let can = subst (λ (s : Contents). IsPlaceable s c.args.write.object.0 c.args.write.feature.0 c.args.write.items) (sym c.self.view_is) c.requires.placeable in
    record {
      live = mid_live c.self.inside.metas c.self.inside.extents c.self.inside.cells.items c.hold_write.new.cells.items c.args.write.object.0 c.args.write.feature.0 c.args.write.items can c.hold_write.ensures.objects;
      there = mid_there c.self.inside.metas c.self.inside.extents c.self.inside.cells.items c.hold_write.new.cells.items c.args.write.object.0 c.args.write.feature.0 c.args.write.items can c.hold_write.ensures.objects;
      have_slots = have_same c.self.inside.metas c.self.inside.cells.items c.hold_write.new.cells.items c.hold_write.ensures.objects c.self.invariant.whole.have_slots;
    }

pub invariant_of-self : goal.invariant_of-self
invariant_of-self c =
    let can = subst (λ (s : Contents). IsPlaceable s c.args.write.object.0 c.args.write.feature.0 c.args.write.items) (sym c.self.view_is) c.requires.placeable in
    placed_kept c.self.inside.metas c.self.inside.extents c.self.inside.cells.items c.hold_write.new.cells.items c.put.new.cells.items c.args.write can c.hold_write.ensures c.put.ensures c.self.invariant.whole
    c.self.inside.members.items c.self.inside.marks c.marks_placed-self-inside.result c.self.invariant
    (still_distinct c.self.inside.metas c.args.write.feature.0 c.args.write.items c.self.inside.marks.distinct c.marks_placed-self-inside.result.distinct
    (c.marks_placed-self-inside.ensures.distinct ∙ ap (λ (b : Bool). c.self.inside.marks.distinct && not b) (c.requires.twice ∙ ap (λ (s : Contents). places_twice s.metas c.args.write.feature.0 c.args.write.items) (sym c.self.view_is))))
    (still_own c.self.inside.marks.own c.marks_placed-self-inside.result.own (crosses (contents_of c.self.inside.metas c.self.inside.extents c.self.inside.cells.items) c.args.write.object.0 c.args.write.items)
    (c.marks_placed-self-inside.ensures.own ∙ ap (λ (b : Bool). c.self.inside.marks.own && not b) (c.crosses-crosses.ensures ∙ ap (λ (l : List Value). crosses c.args.self.now c.args.write.object.0 l) c.as_slice.ensures ∙ ap (λ (s : Contents). crosses s c.args.write.object.0 c.args.write.items) (sym c.self.view_is))))

pub returns : goal.returns
returns c =
    let can = subst (λ (s : Contents). IsPlaceable s c.args.write.object.0 c.args.write.feature.0 c.args.write.items) (sym c.self.view_is) c.requires.placeable in
    gives_placed c.self.inside.metas c.self.inside.extents c.self.inside.cells.items c.hold_write.new.cells.items c.put.new.cells.items c.args.write can c.hold_write.ensures c.put.ensures
    ∙ ap (λ (s : Contents). with_slot s c.args.write.object.0 c.args.write.feature.0 c.args.write.items) c.self.view_is
