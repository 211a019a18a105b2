-- The trace of a run that has ended well has one record of a key at most, and exactly one where a call has one.
use Rattle.std.proofs.Common.{ℕ, IfOk, IsTrue, Result, Ok, Err}
use Rattle.qvt_store.specs.Contents.{Contents}
use Rattle.qvt_typing.specs.Accepts.{ProgramTerm}
use Rattle.qvt_meaning.specs.Laws.{OneRecord, keys_differ}
use Rattle.qvt_meaning.specs.Run as run
use Rattle.qvt_run_laws.specs.Records.{HasOneForEach, OneIsLeft}
use Rattle.qvt_exec_finish.specs.Comes.{Comes}
use Rattle.qvt_exec_finish.specs.Finish.{finished_view}
use Rattle.qvt_exec_finish.specs.declared.finish.Finished.{Finished}
use Rattle.qvt_exec_finish.specs.declared.stop.RunStop.{RunStop}

pub keyed : OneRecord → (p : ProgramTerm) (store : Contents) (fuel : ℕ) (x : Result Finished RunStop) → Comes (run.finished p store fuel) x → IfOk x (λ f. IsTrue (keys_differ f.state.trace))
keyed one p store fuel (Ok f) c = one p store fuel (finished_view c.0 f) c.1
keyed one p store fuel (Err e) c = tt

pub recorded : OneIsLeft → (p : ProgramTerm) (store : Contents) (fuel : ℕ) (x : Result Finished RunStop) → Comes (run.finished p store fuel) x → IfOk x (λ f. HasOneForEach p fuel f.state.trace)
recorded left p store fuel (Ok f) c = left p store fuel (finished_view c.0 f) c.1
recorded left p store fuel (Err e) c = tt
