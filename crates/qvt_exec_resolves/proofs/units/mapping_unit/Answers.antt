use Rattle.std.proofs.Common.{◌∙◌}
use Rattle.qvt_exec_types.specs.Program.{program_view}
use Rattle.qvt_exec_resolves.proofs.Named.{same_unit}
use Rattle.qvt_exec_resolves.proofs.units.mapping_unit.Goals as goal

pub returns : goal.returns
returns c = c.mapping_unit.ensures ∙ same_unit (program_view c.args.program.now) c.args.mapping
