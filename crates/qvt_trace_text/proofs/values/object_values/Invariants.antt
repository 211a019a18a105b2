use Rattle.std.proofs.Common.{◌≡◌, ◌++◌, map, drop}
use Rattle.serde_json.specs.View.{view}
use Rattle.qvt_meaning_report.specs.TraceText.{object_data}
use Rattle.qvt_trace_text.proofs.values.object_values.Given as goal

abbrev pub invariant-loop-object : goal.invariant-loop-object
invariant-loop-object l = map view l.values ++ map (object_data l.ids.store.now l.ids.ids.now) (drop l.object-index l.objects) ≡ map (object_data l.ids.store.now l.ids.ids.now) l.objects
