use Rattle.std.proofs.Common.{◌≡◌, [], ◌++◌, drop}
use Rattle.serde_json.specs.View.{items_view}
use Rattle.qvt_json.specs.Json.{map_items}
use Rattle.qvt_json.specs.Repeated.{repeated}
use Rattle.qvt_model.specs.Reading.{id_of}
use Rattle.qvt_model.proofs.objects.distinct_ids.Given as goal

abbrev pub invariant-loop-item : goal.invariant-loop-item
invariant-loop-item l = record {
  repeated : repeated l.ids (map_items id_of (items_view (drop l.item-index l.item-items))) ≡ repeated [] (map_items id_of (items_view l.item-items));
  ids : l.ids ++ map_items id_of (items_view (drop l.item-index l.item-items)) ≡ map_items id_of (items_view l.item-items);
}
