use Rattle.std.proofs.Common.{◌≡◌, ◌++◌, map, drop}
use Rattle.serde_json.specs.View.{view}
use Rattle.qvt_meaning_report.specs.TraceText.{value_data}
use Rattle.qvt_trace_text.proofs.values.+values.Given as goal

abbrev pub invariant-item_values-loop-item : goal.invariant-item_values-loop-item
invariant-item_values-loop-item l = map view l.values ++ map (value_data l.ids.store.now l.ids.ids.now) (drop l.item-index l.items) ≡ map (value_data l.ids.store.now l.ids.ids.now) l.items
