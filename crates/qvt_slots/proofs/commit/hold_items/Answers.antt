use Rattle.std.proofs.Common.{◌∙◌, ◌∷◌, [], ◌||◌, ◌+◌, sym, ap, subst, List, take}
use Rattle.std.proofs.lemmas.List.{take_all}
use Rattle.qvt_value.specs.declared.value.Value.{Value}
use Rattle.qvt_slots.specs.Slots.{has}
use Rattle.qvt_slots.specs.Writes.{AreHeld, AllLive}
use Rattle.qvt_slots.proofs.Holds.{one_live, has-more, held_both}
use Rattle.qvt_slots.proofs.commit.hold_items.Goals as goal

pub hold_value-requires : goal.hold_value-requires
hold_value-requires c = subst (λ (v : Value). AllLive c.loop-value.cells.items (has (v ∷ []))) (sym c.value-item.is)
    (one_live c.args.cells.now.items c.loop-value.cells.items c.args.values.now c.loop-value.value-index c.value-item.result c.loop-value-test.true c.requires c.loop-value.invariant.objects)

pub loop-value-preserved : goal.loop-value-preserved
loop-value-preserved c = held_both c.args.cells.now.items c.loop-value.cells.items c.hold_value.new.cells.items (has (take c.loop-value.value-index c.args.values.now)) (has (c.value-item.result ∷ [])) (has (take (c.loop-value.value-index + 1) c.args.values.now)) c.args.holder
    (λ z. has-more c.args.values.now c.loop-value.value-index c.value-item.result z c.loop-value-test.true ∙ ap (λ v. has (take c.loop-value.value-index c.args.values.now) z || has (v ∷ []) z) (sym c.value-item.is))
    c.loop-value.invariant c.hold_value.ensures

pub returns : goal.returns
returns c = subst (λ (l : List Value). AreHeld c.args.cells.now.items c.loop-value.cells.items (has l) c.args.holder) (take_all c.loop-value.value-index c.args.values.now c.loop-value-test.false) c.loop-value.invariant
