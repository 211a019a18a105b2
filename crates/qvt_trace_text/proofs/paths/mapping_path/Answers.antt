use Rattle.std.proofs.Common.{◌∙◌}
use Rattle.qvt_types_program.specs.Program.{program_view}
use Rattle.qvt_trace_text.proofs.Names.{mapping_named}
use Rattle.qvt_trace_text.proofs.paths.mapping_path.Goals as goal

pub returns : goal.returns
returns c = c.mapping_name.ensures ∙ mapping_named (program_view c.args.program.now) c.args.mapping.0
