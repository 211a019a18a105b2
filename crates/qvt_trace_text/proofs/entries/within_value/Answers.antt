use Rattle.std.proofs.Common.{◌∙◌, ap, map, sym}
use Rattle.serde_json.specs.Data.{array, string}
use Rattle.serde_json.specs.View.{items_of, view}
use Rattle.serde_json.proofs.Views.{view-Array}
use Rattle.qvt_types_program.specs.Program.{program_view}
use Rattle.qvt_meaning_report.specs.TraceText.{mapping_path}
use Rattle.qvt_trace_text.specs.Words.{within_data}
use Rattle.qvt_trace_text.proofs.entries.within_value.Goals as goal

pub returns-in_ok-values-in-Some : goal.returns-in_ok-values-in-Some
returns-in_ok-values-in-Some c =
    let p = program_view c.args.program.now in
    view-Array c.into_vec.result ∙ ap (λ vs. array (items_of (map view vs))) c.into_vec.ensures
    ∙ ap (λ ds. array (items_of ds)) (c.in_ok-values-in-Some.ensures ∙ ap (map (λ m. string (mapping_path p m.0))) c.as_slice.ensures)
    ∙ sym (ap (within_data p) c.in-Some.is)
