use Rattle.std.proofs.Common.{◌≡◌, drop}
use Rattle.serde_json.specs.View.{items_view}
use Rattle.qvt_json.specs.Steps.{each_item}
use Rattle.qvt_json.proofs.Each.{with_front}
use Rattle.qvt_model.specs.Reading.{class_read}
use Rattle.qvt_model.proofs.objects.classes_of.Given as goal

abbrev pub invariant-loop-item : goal.invariant-loop-item
invariant-loop-item l = with_front l.classes (each_item (class_read l.metas l.metamodel) (items_view (drop l.item-index l.item-items))) ≡ each_item (class_read l.metas l.metamodel) (items_view l.item-items)
