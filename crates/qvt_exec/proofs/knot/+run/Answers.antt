use Rattle.std.proofs.Common.{◌≡◌, suc, ◌-◌, sym, subst, arith}
use Rattle.qvt_run_data.specs.declared.late.LateWrite.{LateWrite}
use Rattle.qvt_value.specs.declared.value.Value.{Value}
use Rattle.qvt_run_rules.specs.State.{Does}
use Rattle.qvt_exec_state.specs.Runs.{Runs, seen}
use Rattle.qvt_exec.specs.Calls.{calls_of}
use Rattle.qvt_exec.proofs.Depth.{none_left, some_left}
use Rattle.qvt_exec.proofs.knot.+run.Goals as goal

pub call_at-returns-then-calls-eq0 : goal.call_at-returns-then-calls-eq0
call_at-returns-then-calls-eq0 t c = none_left c.args.a.now c.args.calls c.args.callee c.args.args c.args.place (seen c.args.state.now) (omega arith)

pub call_at-returns : goal.call_at-returns
call_at-returns t c =
    let one_more : suc (c.args.calls - 1) ≡ c.args.calls = omega arith in
    subst (λ n. Runs (calls_of c.args.a.now n c.args.callee c.args.args c.args.place (seen c.args.state.now)) c.called.result c.called.new.state) one_more
    (subst (λ (p : Does LateWrite Value). Runs (p (seen c.args.state.now)) c.called.result c.called.new.state) (sym (some_left c.args.a.now (c.args.calls - 1) c.args.callee c.args.args c.args.place)) c.called.ensures)
