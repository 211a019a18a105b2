use Rattle.std.proofs.Common.{◌≡◌, drop}
use Rattle.qvt_run_rules.specs.Mappings.{reuse}
use Rattle.qvt_exec_state.specs.Runs.{seen}
use Rattle.qvt_exec_candidates.specs.Stage.{mappings_of}
use Rattle.qvt_exec_called.proofs.sections.reuse.Given as goal

abbrev pub invariant-loop-number : goal.invariant-loop-number
invariant-loop-number g l =
    reuse (mappings_of (l.run, g.C.UnitCalls.means l.units)) (g.C.UnitCalls.means l.units).calls l.numbers l.shared l.context l.args l.place (seen l.fn.state)
    ≡ reuse (mappings_of (l.run, g.C.UnitCalls.means l.units)) (g.C.UnitCalls.means l.units).calls (drop l.number-index l.numbers) l.shared l.context l.args l.place (seen l.state)
