use Rattle.std.proofs.Common.{◌==◌, ◌<◌, ◌+◌, sym, subst, refl, ℕ, List, take, get_or}
use Rattle.std.proofs.lemmas.List.{take_all}
use Rattle.qvt_base.specs.declared.numbers.Oid.{Oid}
use Rattle.qvt_slots.specs.Change.{among_objects}
use Rattle.qvt_slots.specs.Writes.{AreHeld}
use Rattle.qvt_slots.proofs.Holds.{same_count, in_among, among-more, held_both, held_object}
use Rattle.qvt_slots.proofs.commit.hold_each.Goals as goal

pub hold-requires : goal.hold-requires
hold-requires c = subst (λ n. (get_or c.args.objects.now c.loop-object.object-index (record { 0 = 0 })).0 < n) (sym (same_count c.args.cells.now.items c.loop-object.cells.items c.loop-object.invariant.objects))
    (c.requires.live (get_or c.args.objects.now c.loop-object.object-index (record { 0 = 0 })).0 (in_among c.args.objects.now c.loop-object.object-index (record { 0 = 0 }) c.loop-object-test.true))

pub loop-object-preserved : goal.loop-object-preserved
loop-object-preserved c =
    let child : ℕ = (get_or c.args.objects.now c.loop-object.object-index (record { 0 = 0 })).0 in
    held_both c.args.cells.now.items c.loop-object.cells.items c.hold.new.cells.items (among_objects (take c.loop-object.object-index c.args.objects.now)) (λ z. child == z) (among_objects (take (c.loop-object.object-index + 1) c.args.objects.now)) c.args.holder
    (λ z. among-more c.args.objects.now c.loop-object.object-index (record { 0 = 0 }) z c.loop-object-test.true) c.loop-object.invariant
    (held_object c.loop-object.cells.items c.hold.new.cells.items child (λ z. child == z) c.args.holder (λ z. refl) c.hold.ensures)

pub returns : goal.returns
returns c = subst (λ (l : List Oid). AreHeld c.args.cells.now.items c.loop-object.cells.items (among_objects l) c.args.holder) (take_all c.loop-object.object-index c.args.objects.now c.loop-object-test.false) c.loop-object.invariant
