use Rattle.std.proofs.Common.{◌∙◌, ap}
use Rattle.serde_json.specs.Written.{has_float}
use Rattle.qvt_json.specs.Plain.{file_text}
use Rattle.qvt_types_program.specs.Program.{program_view}
use Rattle.qvt_trace_text.specs.Parts.{trace_parts}
use Rattle.qvt_trace_text.proofs.Same.{text_same}
use Rattle.qvt_trace_text.proofs.Whole.{trace_whole}
use Rattle.qvt_trace_text.proofs.trace.write_trace.Goals as goal

pub file_bytes-requires : goal.file_bytes-requires
file_bytes-requires c =
    ap has_float c.in_ok-value.ensures
    ∙ trace_whole c.in_ok-all.all.store.now c.in_ok-all.all.ids.now (program_view c.args.program.now) c.args.records.now c.args.entries.now

pub returns : goal.returns
returns c = λ f w.
    c.in_ok-bytes.ensures
    ∙ ap file_text (c.in_ok-value.ensures ∙ (λ i. trace_parts (c.in_ok-all.ensures.store i) (c.in_ok-all.ensures.ids i) (program_view c.args.program.now) c.args.records.now c.args.entries.now))
    ∙ text_same (program_view c.args.program.now) c.args.ids.now f c.args.store.now c.args.records.now c.args.entries.now w
