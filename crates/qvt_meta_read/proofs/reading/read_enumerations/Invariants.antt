use Rattle.std.proofs.Common.{◌≡◌, ◌++◌, drop}
use Rattle.serde_json.specs.View.{items_view}
use Rattle.qvt_meta_read.specs.DataOf.{map_items, enum_data}
use Rattle.qvt_meta_read.proofs.reading.read_enumerations.Given as goal

abbrev pub invariant-loop-item : goal.invariant-loop-item
invariant-loop-item l = l.enums ++ map_items enum_data (items_view (drop l.item-index l.item-items)) ≡ map_items enum_data (items_view l.item-items)
