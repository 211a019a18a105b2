-- A run that has ended well, as the definitions have it.
use Rattle.std.specs.Prelude.{◌≡◌}
use Rattle.qvt_meaning.specs.Run.{FinishedRun}
use Rattle.qvt_trace_text.specs.Written.{IsWrittenRun}
use Rattle.qvt_outputs.specs.declared.run_end.RunEnd.{RunEnd}

pub record IsEnd (f : FinishedRun) (x : RunEnd) : Type 0 where
  pub written : IsWrittenRun f x.store.now x.records.now x.entries.now
  pub cost : f.cost ≡ x.cost
