use Rattle.std.proofs.Common.{◌≡◌, ◌++◌, map, drop}
use Rattle.serde_json.specs.View.{view}
use Rattle.qvt_types_program.specs.Program.{program_view}
use Rattle.qvt_trace_text.specs.Parts.{entry_data}
use Rattle.qvt_trace_text.proofs.entries.entry_values.Given as goal

abbrev pub invariant-loop-entry : goal.invariant-loop-entry
invariant-loop-entry l =
    map view l.values ++ map (entry_data l.ids.store.now l.ids.ids.now (program_view l.program)) (drop l.entry-index l.entries)
    ≡ map (entry_data l.ids.store.now l.ids.ids.now (program_view l.program)) l.entries
