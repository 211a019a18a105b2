use Rattle.std.proofs.Common.{◌≡◌, drop, map}
use Rattle.qvt_types_nodes.specs.View.{typed_step_view}
use Rattle.qvt_types_program.specs.Program.{program_view}
use Rattle.qvt_exec_types.specs.Types.{type_after}
use Rattle.qvt_exec_types.proofs.before.type_behind.Given as goal

abbrev pub invariant-loop-step : goal.invariant-loop-step
invariant-loop-step l = type_after (program_view l.program) l.ty (map typed_step_view (drop l.step-index l.steps)) ≡ type_after (program_view l.program) l.first (map typed_step_view l.steps)
