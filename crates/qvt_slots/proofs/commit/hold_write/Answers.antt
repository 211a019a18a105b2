use Rattle.std.proofs.Common.{◌∙◌, sym, ap, subst, List}
use Rattle.std.specs.Prelude.{Some}
use Rattle.qvt_value.specs.declared.value.Value.{Value}
use Rattle.qvt_metamodel.specs.declared.info.FeatureShape.{FeatureShape}
use Rattle.qvt_slots.specs.Slots.{has}
use Rattle.qvt_slots.specs.Cells.{holder_in}
use Rattle.qvt_slots.specs.Writes.{AreHeld}
use Rattle.qvt_slots.proofs.Holds.{by_contained, not_false}
use Rattle.qvt_slots.proofs.commit.hold_write.Goals as goal

pub returns : goal.returns
returns c = by_contained c.args.metas.now c.args.cells.now.items c.hold_items.new.cells.items c.args.write.now
    (sym (ap (λ (s : FeatureShape). s.containment) c.shape.ensures) ∙ not_false c.shape.result.containment c.if-not-shape.false)
    (subst (λ (l : List Value). AreHeld c.args.cells.now.items c.hold_items.new.cells.items (has l) (Some (holder_in c.args.write.now.object.0 c.args.write.now.feature.0))) c.as_slice.ensures c.hold_items.ensures)
