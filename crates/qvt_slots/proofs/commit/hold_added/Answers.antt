use Rattle.std.proofs.Common.{◌∙◌, sym, ap, subst, List}
use Rattle.std.specs.Prelude.{Some}
use Rattle.qvt_base.specs.declared.numbers.Oid.{Oid}
use Rattle.qvt_metamodel.specs.declared.info.FeatureShape.{FeatureShape}
use Rattle.qvt_slots.specs.Change.{among_objects}
use Rattle.qvt_slots.specs.Cells.{holder_in}
use Rattle.qvt_slots.specs.Writes.{AreHeld}
use Rattle.qvt_slots.proofs.Holds.{here_contained, not_false}
use Rattle.qvt_slots.proofs.commit.hold_added.Goals as goal

pub returns : goal.returns
returns c = here_contained c.args.metas.now c.args.draft.now c.args.cells.now.items c.hold_each.new.cells.items
    (sym (ap (λ (s : FeatureShape). s.containment) c.shape.ensures) ∙ not_false c.shape.result.containment c.if-not-shape.false)
    (subst (λ (l : List Oid). AreHeld c.args.cells.now.items c.hold_each.new.cells.items (among_objects l) (Some (holder_in c.args.draft.now.object.0 c.args.draft.now.feature.0))) c.as_slice.ensures c.hold_each.ensures)
