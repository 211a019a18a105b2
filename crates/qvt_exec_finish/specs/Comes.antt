-- How a run ends (QVT 1.3, 8.1.10).
use Rattle.std.specs.Prelude.{Result, Ok, Err}
use Rattle.qvt_store.specs.Contents.{Contents}
use Rattle.qvt_run_data.specs.declared.exit.End.{End}
use Rattle.qvt_run_data.specs.declared.exit.Exit.TheVariants as exit
use Rattle.qvt_run_data.specs.declared.exit.Halt.{Halt}
use Rattle.qvt_run_data.specs.declared.exit.Halt.TheVariants as halt
use Rattle.qvt_meaning.specs.Run as run
use Rattle.qvt_exec_finish.specs.Finish.{Finishes}
use Rattle.qvt_exec_finish.specs.declared.finish.Finished.{Finished}
use Rattle.qvt_exec_finish.specs.declared.stop.RunStop.{RunStop}
use Rattle.qvt_exec_finish.specs.declared.stop.RunStop.TheVariants as stop

-- for the store as the last statement left it: what the run leaves, or what ends it, or there was no memory
abbrev pub Comes : Result run.FinishedRun End → Result Finished RunStop → Type 0
Comes r x = (before : Contents) × Finishes before r x

-- what ends a run behind `main`: a `return` ends it as its last statement does
abbrev pub ending : Result (Unit {0}) Halt → Result (Unit {0}) RunStop
ending (Ok u) = Ok u
ending (Err (halt.Exits (exit.Returned v))) = Ok tt
ending (Err (halt.Exits (exit.Ends e))) = Err (stop.Ends e)
ending (Err halt.NoMemory) = Err stop.NoMemory
