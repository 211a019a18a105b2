use Rattle.std.proofs.Common.{Result, subst, sym}
use Rattle.std.specs.List.{All}
use Rattle.std.specs.Result.{IfOk}
use Rattle.qvt_live_store.specs.Held.{contents_of}
use Rattle.qvt_run_laws.specs.Entries.{IsFor}
use Rattle.qvt_exec_finish.specs.declared.stop.RunStop.{RunStop}
use Rattle.qvt_exec_finish.proofs.Ends.{goes_on, stops}
use Rattle.qvt_exec_finish.proofs.finish.behind_main.Goals as goal

pub finish-requires-clause-entries : goal.finish-requires-clause-entries
finish-requires-clause-entries g c = subst (λ (r : Result (Unit {0}) RunStop). IfOk r (λ _. All (IsFor (contents_of c.args.state.store)) c.args.state.entries)) (sym c.in-Ok.ensures) c.requires.entries

pub returns-in-Ok : goal.returns-in-Ok
returns-in-Ok g c = λ main runs. goes_on (g.A.LateAnswers.program c.args.answers.now) c.args.fuel c.args.state main c.args.outcome.now c.finish.result c.in-Ok.field-0 runs (sym c.in-Ok.ensures) c.finish.ensures

pub returns : goal.returns
returns g c = λ main runs. stops (g.A.LateAnswers.program c.args.answers.now) c.args.fuel c.args.state main c.args.outcome.now c.in-Err.stop runs (sym c.in-Err.ensures)
