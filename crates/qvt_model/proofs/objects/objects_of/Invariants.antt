use Rattle.std.proofs.Common.{◌≡◌, drop}
use Rattle.std.specs.List.{AllByRecursion}
use Rattle.serde_json.specs.View.{items_view}
use Rattle.qvt_json.specs.Steps.{each_item}
use Rattle.qvt_json.proofs.Each.{with_front}
use Rattle.qvt_model.specs.Reading.{object_read}
use Rattle.qvt_model.specs.WellFormed.{IsPlainObject}
use Rattle.qvt_model.proofs.objects.objects_of.Given as goal

abbrev pub invariant-loop-item : goal.invariant-loop-item
invariant-loop-item l = record {
  objects : with_front l.objects (each_item (object_read l.dictionary l.metamodel l.places) (items_view (drop l.item-index l.item-items))) ≡ each_item (object_read l.dictionary l.metamodel l.places) (items_view l.item-items);
  plain : AllByRecursion IsPlainObject l.objects;
}
