use Rattle.std.proofs.Common.{◌≡◌, ◌++◌, drop}
use Rattle.serde_json.specs.View.{items_view}
use Rattle.qvt_json.specs.Json.{text_of, map_items}
use Rattle.qvt_json.proofs.value.text_list.Given as goal

abbrev pub invariant-loop-item : goal.invariant-loop-item
invariant-loop-item l = l.texts ++ map_items text_of (items_view (drop l.item-index l.item-items)) ≡ map_items text_of (items_view l.item-items)
