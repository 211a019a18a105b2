use Rattle.std.proofs.Common.{◌≡◌, ◌∙◌, true, ◌++◌, ◌∷◌, [], sym, ap, subst, List, take}
use Rattle.std.proofs.lemmas.List.{take_all, take_more}
use Rattle.qvt_metas.specs.Metamodels.{is_containment}
use Rattle.qvt_slots.proofs.Holds.{by_more, live_same}
use Rattle.qvt_slots.specs.declared.commit.Write.{Write}
use Rattle.qvt_slots.specs.Slots.{has}
use Rattle.qvt_slots.specs.Writes.{AllLive, AreHeldBy}
use Rattle.qvt_slots.proofs.commit.hold_all.Goals as goal

pub hold_write-requires : goal.hold_write-requires
hold_write-requires c k = live_same c.args.cells.now.items c.loop-write.cells.items (has c.write-item.result.items) c.loop-write.invariant.objects
    (subst (λ (w : Write). is_containment c.args.metas.now w.feature.0 ≡ true → AllLive c.args.cells.now.items (has w.items)) (sym c.write-item.is) (c.requires c.loop-write.write-index c.write-item.result c.loop-write-test.true) k)

pub loop-write-preserved : goal.loop-write-preserved
loop-write-preserved c = subst (λ (l : List Write). AreHeldBy c.args.metas.now c.args.cells.now.items c.hold_write.new.cells.items l)
    (ap (λ (w : Write). take c.loop-write.write-index c.args.writes.now ++ w ∷ []) c.write-item.is ∙ sym (take_more c.args.writes.now c.loop-write.write-index c.write-item.result c.loop-write-test.true))
    (by_more c.args.metas.now c.args.cells.now.items c.loop-write.cells.items c.hold_write.new.cells.items (take c.loop-write.write-index c.args.writes.now) c.write-item.result c.loop-write.invariant c.hold_write.ensures)

pub returns : goal.returns
returns c = subst (λ (l : List Write). AreHeldBy c.args.metas.now c.args.cells.now.items c.loop-write.cells.items l) (take_all c.loop-write.write-index c.args.writes.now c.loop-write-test.false) c.loop-write.invariant
