use Rattle.std.proofs.Common.{subst}
use Rattle.qvt_run_data.specs.declared.late.LateWrite.{LateWrite}
use Rattle.qvt_run_rules.specs.State.{State}
use Rattle.qvt_exec_state.specs.Runs.{Runs}
use Rattle.qvt_meaning.specs.Run.{finished, main_run}
use Rattle.qvt_exec_answers.specs.Answering.{program_of}
use Rattle.qvt_meaning.specs.Laws.{from_requests}
use Rattle.qvt_exec.specs.Mains.{main_of, run_of}
use Rattle.qvt_exec_finish.proofs.Ends.{fits, same}
use Rattle.qvt_exec_finish.proofs.Keyed.{keyed, recorded}
use Rattle.qvt_exec.proofs.run.run.Goals as goal

pub behind_main-requires-clause-entries : goal.behind_main-requires-clause-entries
unfolding main_run
behind_main-requires-clause-entries c =
    fits c.run_main-outcome.new.state (run_of c.args.a.now c.args.store) c.run_main-outcome.result
    (subst (λ (s : State LateWrite). Runs (main_of c.args.a.now s) c.run_main-outcome.result c.run_main-outcome.new.state) c.of_run-state.ensures c.run_main-outcome.ensures)
    (c.requests_fit.ensures (program_of c.args.a.now) c.args.a.now.fuel c.args.store)

pub returns-clause-comes : goal.returns-clause-comes
unfolding main_run
returns-clause-comes c = same (finished (program_of c.args.a.now) c.args.store c.args.a.now.fuel) (from_requests (program_of c.args.a.now) c.args.a.now.fuel (run_of c.args.a.now c.args.store).0 (run_of c.args.a.now c.args.store).1) c.behind_main.result
    (c.one_pass.ensures (program_of c.args.a.now) c.args.a.now.fuel c.args.store) (c.behind_main.ensures (run_of c.args.a.now c.args.store) (subst (λ (s : State LateWrite). Runs (main_of c.args.a.now s) c.run_main-outcome.result c.run_main-outcome.new.state) c.of_run-state.ensures c.run_main-outcome.ensures))

pub returns-clause-keys : goal.returns-clause-keys
returns-clause-keys c = keyed c.one_record.ensures (program_of c.args.a.now) c.args.store c.args.a.now.fuel c.behind_main.result (returns-clause-comes c)

pub returns-clause-records : goal.returns-clause-records
returns-clause-records c = recorded c.one_is_left.ensures (program_of c.args.a.now) c.args.store c.args.a.now.fuel c.behind_main.result (returns-clause-comes c)
