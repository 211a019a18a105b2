use Rattle.std.proofs.Common.{subst}
use Rattle.qvt_exec_phrases.specs.Accepts.{ProgramTerm}
use Rattle.qvt_exec_phrases.specs.Readings.{choose}
use Rattle.qvt_exec_state.specs.Runs.{Runs, seen}
use Rattle.qvt_exec_invocations.proofs.callees.chosen.Goals as goal

pub returns : goal.returns
returns g c =
    subst (λ (p : ProgramTerm). Runs (choose p c.args.reading.now c.args.strict c.args.place c.args.object (seen c.args.state.now)) c.choose.result c.args.state.now)
    c.program.ensures c.choose.ensures
