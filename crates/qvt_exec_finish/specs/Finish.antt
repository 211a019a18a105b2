-- A run that has ended well, as the definitions have it.
use Rattle.std.specs.Prelude.{◌≡◌, map, Result, Ok, Err}
use Rattle.qvt_store.specs.Contents.{Contents}
use Rattle.qvt_run_data.specs.declared.exit.End.{End}
use Rattle.qvt_live_store.specs.Held.{contents_of}
use Rattle.qvt_meaning.specs.Run as run
use Rattle.qvt_exec_finish.specs.Entries.{entry_view}
use Rattle.qvt_exec_finish.specs.declared.finish.Finished.{Finished}
use Rattle.qvt_exec_finish.specs.declared.stop.RunStop.{RunStop}
use Rattle.qvt_exec_finish.specs.declared.stop.RunStop.TheVariants.{Ends, NoMemory}

-- over the store as the last statement left it
abbrev pub finished_view : Contents → Finished → run.FinishedRun
finished_view store f = record { finish = record { trace = f.state.trace; store = store }; after = contents_of f.state.store; entries = map entry_view f.entries; cost = f.cost }

-- the finished run, or what ends it, or there was no memory
abbrev pub Finishes : Contents → Result run.FinishedRun End → Result Finished RunStop → Type 0
Finishes store r (Ok f) = r ≡ Ok (finished_view store f)
Finishes store r (Err (Ends e)) = r ≡ Err e
Finishes store r (Err NoMemory) = Unit {0}
