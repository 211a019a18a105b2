use Rattle.std.proofs.Common.{◌≡◌, drop}
use Rattle.serde_json.specs.View.{items_view}
use Rattle.qvt_json.specs.Steps.{walk_items}
use Rattle.qvt_model.specs.Reading.{object_known}
use Rattle.qvt_model.proofs.objects.objects_known.Given as goal

abbrev pub invariant-loop-item : goal.invariant-loop-item
invariant-loop-item l = walk_items (object_known l.metas l.metamodel) (items_view (drop l.item-index l.item-items)) ≡ walk_items (object_known l.metas l.metamodel) (items_view l.item-items)
