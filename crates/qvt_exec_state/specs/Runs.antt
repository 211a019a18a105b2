-- What state of a run the code's is, and when a call does what a phrase does (OCL 2.4, 7).
use Rattle.std.specs.Prelude.{◌≡◌, [], ◌∷◌, ◌++◌, Result, Ok, Err}
use Rattle.qvt_run_rules.specs.declared.exit.Halt.{Halt}
use Rattle.qvt_run_rules.specs.declared.exit.Halt.TheVariants.{Exits, NoMemory}
use Rattle.qvt_run_rules.specs.declared.late.LateWrite.{LateWrite}
use Rattle.qvt_run_rules.specs.declared.local.Local.{Local}
use Rattle.qvt_run_rules.specs.State.{State, Done}
use Rattle.qvt_live_store.specs.Held.{contents_of}
use Rattle.qvt_exec_state.specs.declared.state.RunState.{RunState}

abbrev pub seen : RunState → State LateWrite
seen s = record { locals = s.locals; inner = s.inner; store = contents_of s.store; trace = s.trace; keys = s.keys; entries = s.entries; cost = s.cost }

-- the call gives what the phrase gives and leaves the state that it leaves, or there was no memory
abbrev pub Runs : {A : Type 0} → Done LateWrite A → Result A Halt → RunState → Type 0
Runs d (Ok a) s = d ≡ (Ok a, seen s)
Runs d (Err NoMemory) s = Unit {0}
Runs d (Err (Exits e)) s = d ≡ (Err e, seen s)

-- the state with one variable more, the latest
abbrev pub with_local : Local → State LateWrite → State LateWrite
with_local v s = record s { locals = s.locals ++ v ∷ [] }
