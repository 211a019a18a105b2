use Rattle.std.proofs.Common.{◌≡◌, ◌-◌}
use Rattle.qvt_exec_state.specs.Runs.{seen}
use Rattle.qvt_exec_leaves.specs.Signs.{ticks_of}
use Rattle.qvt_exec_leaves.proofs.names.ticks.Given as goal

abbrev pub invariant-loop : goal.invariant-loop
invariant-loop l = ticks_of l.limit (l.units - l.counter) (seen l.state) ≡ ticks_of l.limit l.units (seen l.initial.state)
