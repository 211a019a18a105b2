-- The trace that a run writes has one record of a key (QVT 1.3, 8.1.12 for the trace, 8.2.1.15 for the call of a mapping).
use Rattle.std.specs.Prelude.{IsTrue}
use Rattle.qvt_meaning.specs.Laws.{keys_differ}
use Rattle.qvt_meaning.specs.Run.{FinishedRun}
use Rattle.qvt_run_laws.specs.Records.{HasOneForEach}
use Rattle.qvt_work.specs.Runs.{JobRun}

-- at most one for each mapping, context and list of arguments; and exactly one for each whose call came to the step that writes its record,
-- or whose init section returned with a result
unfoldable pub HasOneRecordEach : JobRun → FinishedRun → Type 0
HasOneRecordEach r f = IsTrue (keys_differ f.finish.trace) × HasOneForEach r.program r.job.fuel f.finish.trace
