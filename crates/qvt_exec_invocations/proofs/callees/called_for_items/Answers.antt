use Rattle.std.proofs.Common.{subst}
use Rattle.qvt_exec_phrases.specs.Accepts.{ProgramTerm}
use Rattle.qvt_exec_phrases.specs.Readings.{choose}
use Rattle.qvt_exec_state.specs.Runs.{Runs, seen}
use Rattle.qvt_exec_phrases.specs.Choice.{each_by}
use Rattle.qvt_exec_invocations.proofs.callees.called_for_items.Goals as goal

pub returns : goal.returns
returns g c =
    subst (λ (p : ProgramTerm). Runs (each_by (g.C.UnitCalls.means c.args.units.now).calls (choose p c.args.reading.now c.args.strict c.args.place) c.args.given c.args.place c.args.value (seen c.args.state.now)) c.each_called.result c.each_called.new.state)
    c.program.ensures c.each_called.ensures
