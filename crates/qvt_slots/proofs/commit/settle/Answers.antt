use Rattle.std.proofs.Common.{◌≡◌, ◌∙◌, ◌<◌, true, sym, subst, List, ℕ, length, get_or}
use Rattle.qvt_metas.specs.Metamodels.{is_containment}
use Rattle.qvt_slots.specs.declared.commit.Write.{Write}
use Rattle.qvt_slots.specs.Slots.{has}
use Rattle.qvt_slots.specs.Change.{among_objects}
use Rattle.qvt_slots.specs.Writes.{AllLive, AreHeldBy}
use Rattle.qvt_slots.proofs.Holds.{live_same, write_same, have_same, settled}
use Rattle.qvt_slots.proofs.commit.settle.Goals as goal

pub hold_added-requires : goal.hold_added-requires
hold_added-requires c = live_same c.args.cells.now.items c.hold_each.new.cells.items (among_objects c.args.draft.now.added) c.hold_each.ensures.objects c.requires.added

pub hold_all-requires : goal.hold_all-requires
hold_all-requires c = subst (λ (l : List Write). (k : ℕ) (d : Write) → k < length l → is_containment c.args.metas.now (get_or l k d).feature.0 ≡ true → AllLive c.hold_added.new.cells.items (has (get_or l k d).items)) (sym c.deref.ensures.value)
    (λ k d h cont. live_same c.args.cells.now.items c.hold_added.new.cells.items (has (get_or c.args.writes.items k d).items) (c.hold_added.ensures.objects ∙ c.hold_each.ensures.objects) (c.requires.items k d h cont))

pub put_all-requires : goal.put_all-requires
put_all-requires c =
    let e = c.hold_all.ensures.objects ∙ c.hold_added.ensures.objects ∙ c.hold_each.ensures.objects in
    record {
      have_slots = have_same c.args.metas.now c.args.cells.now.items c.hold_all.new.cells.items e c.requires.have_slots;
      writes = λ k d h. write_same c.args.metas.now c.args.cells.now.items c.hold_all.new.cells.items (get_or c.args.writes.items k d) e (c.requires.writes k d h);
    }

pub returns : goal.returns
returns c = settled c.args.metas.now c.args.draft.now c.args.cells.now.items c.hold_each.new.cells.items c.hold_added.new.cells.items c.hold_all.new.cells.items c.put_all.new.cells.items c.args.writes.items c.args.released.now
    c.hold_each.ensures c.hold_added.ensures (subst (λ (l : List Write). AreHeldBy c.args.metas.now c.hold_added.new.cells.items c.hold_all.new.cells.items l) c.deref.ensures.value c.hold_all.ensures) c.put_all.ensures
