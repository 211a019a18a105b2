-- What the units of a run mean that are called: helpers, queries and constructors, and a unit by its callee.
use Rattle.qvt_types_nodes.specs.Module.{typed_helper_view}
use Rattle.qvt_run_data.specs.declared.late.LateWrite.{LateWrite}
use Rattle.qvt_run_rules.specs.Calls.{CallRule, Routine}
use Rattle.qvt_meaning.specs.Readings.{Setting}
use Rattle.qvt_meaning.specs.Units as of_units
use Rattle.qvt_exec_candidates.specs.Stage.{Stage, setting_in}
use Rattle.qvt_exec_called.specs.declared.routine_at.RoutineUnit.{RoutineUnit}

unfoldable pub routine_in : Setting LateWrite → CallRule LateWrite → RoutineUnit → Routine LateWrite
routine_in x calls h = of_units.routine x calls h.head.now (typed_helper_view h.node.now)

abbrev pub routine_of : Stage → RoutineUnit → Routine LateWrite
routine_of x h = routine_in (setting_in x) x.1.calls h

abbrev pub called_of : Stage → CallRule LateWrite
called_of x = of_units.called (setting_in x) x.1.calls
