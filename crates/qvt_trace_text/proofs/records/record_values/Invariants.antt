use Rattle.std.proofs.Common.{◌≡◌, ◌++◌, map, drop}
use Rattle.serde_json.specs.View.{view}
use Rattle.qvt_types_program.specs.Program.{program_view}
use Rattle.qvt_meaning_report.specs.TraceText.{record_data}
use Rattle.qvt_trace_text.proofs.records.record_values.Given as goal

abbrev pub invariant-loop-call : goal.invariant-loop-call
invariant-loop-call l =
    map view l.values ++ map (record_data l.ids.store.now l.ids.ids.now (program_view l.program)) (drop l.call-index l.records)
    ≡ map (record_data l.ids.store.now l.ids.ids.now (program_view l.program)) l.records
