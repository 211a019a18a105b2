-- What a call gives under other variables, and with another key open.
use Rattle.std.proofs.Common.{ℕ, take, Result, Ok, Err, ap}
use Rattle.qvt_run_data.specs.declared.exit.Halt.{Halt}
use Rattle.qvt_run_data.specs.declared.exit.Halt.TheVariants.{Exits, NoMemory}
use Rattle.qvt_run_data.specs.declared.late.LateWrite.{LateWrite}
use Rattle.qvt_run_rules.specs.State.{State, Done}
use Rattle.qvt_run_rules.specs.Locals.{own_in, under}
use Rattle.qvt_run_rules.specs.Mappings as rule
use Rattle.qvt_run_rules.specs.Mappings.{shut}
use Rattle.qvt_exec_state.specs.Runs.{Runs}
use Rattle.qvt_exec_state.specs.declared.state.RunState.{RunState}
use Rattle.qvt_exec_candidates.specs.declared.begun.Begun as code
use Rattle.qvt_exec_candidates.specs.declared.begun.Made.{Made}
use Rattle.qvt_exec_candidates.specs.Begun.{RunsTo, begun_view, made_view}

pub under_runs : {A : Type 0} (d : Done LateWrite A) (r : Result A Halt) (t : RunState) (outer : State LateWrite) → Runs d r t → Runs (under outer d) r (record t { locals = outer.locals; inner = outer.inner })
under_runs d (Ok a) t outer h = ap (under outer) h
under_runs d (Err NoMemory) t outer h = tt
under_runs d (Err (Exits e)) t outer h = ap (under outer) h

pub own_ok : {A : Type 0} (d : Done LateWrite A) (a : A) (t : RunState) (outer : State LateWrite) → Runs d (Ok a) t
    → Runs (own_in d.0 d.1 outer) (Ok (a, t.locals)) (record t { locals = outer.locals; inner = outer.inner })
own_ok {A} d a t outer h = ap (λ (x : Done LateWrite A). own_in x.0 x.1 outer) h

pub own_err : {A : Type 0} (d : Done LateWrite A) (e : Halt) (t : RunState) (outer : State LateWrite) → Runs d (Err e) t
    → Runs (own_in d.0 d.1 outer) (Err e) (record t { locals = outer.locals; inner = outer.inner })
own_err d NoMemory t outer h = tt
own_err {A} d (Exits e) t outer h = ap (λ (x : Done LateWrite A). own_in x.0 x.1 outer) h

pub begun_ok : (d : Done LateWrite rule.MadeResult) (a : Made) (t : RunState) (outer : State LateWrite) → RunsTo made_view d (Ok a) t
    → RunsTo begun_view (own_in d.0 d.1 outer) (Ok (record { made = a; locals = t.locals })) (record t { locals = outer.locals; inner = outer.inner })
begun_ok d a t outer h = ap (λ (x : Done LateWrite rule.MadeResult). own_in x.0 x.1 outer) h

pub begun_err : (d : Done LateWrite rule.MadeResult) (e : Halt) (t : RunState) (outer : State LateWrite) → RunsTo made_view d (Err e) t
    → RunsTo begun_view (own_in d.0 d.1 outer) (Err e) (record t { locals = outer.locals; inner = outer.inner })
begun_err d NoMemory t outer h = tt
begun_err d (Exits e) t outer h = ap (λ (x : Done LateWrite rule.MadeResult). own_in x.0 x.1 outer) h

pub shut_runs : (d : Done LateWrite rule.BegunCall) (r : Result code.Begun Halt) (t : RunState) (n : ℕ) → RunsTo begun_view d r t → RunsTo begun_view (shut n d) r (record t { keys = take n t.keys })
shut_runs d (Ok a) t n h = ap (shut n) h
shut_runs d (Err NoMemory) t n h = tt
shut_runs d (Err (Exits e)) t n h = ap (shut n) h
