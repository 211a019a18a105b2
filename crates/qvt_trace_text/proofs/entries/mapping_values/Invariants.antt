use Rattle.std.proofs.Common.{◌≡◌, ◌++◌, map, drop}
use Rattle.serde_json.specs.Data.{string}
use Rattle.serde_json.specs.View.{view}
use Rattle.qvt_types_program.specs.Program.{program_view}
use Rattle.qvt_meaning_report.specs.TraceText.{mapping_path}
use Rattle.qvt_trace_text.proofs.entries.mapping_values.Given as goal

abbrev pub invariant-loop-mapping : goal.invariant-loop-mapping
invariant-loop-mapping l =
    map view l.values ++ map (λ m. string (mapping_path (program_view l.program) m.0)) (drop l.mapping-index l.mappings)
    ≡ map (λ m. string (mapping_path (program_view l.program) m.0)) l.mappings
