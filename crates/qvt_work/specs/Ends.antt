-- What a run of the engine leaves.
use Rattle.std.specs.Prelude.{ℕ, List, Option, Result}
use Rattle.qvt_store.specs.Contents.{Contents}
use Rattle.qvt_job.specs.declared.job.Job.{Job}
use Rattle.qvt_meaning.specs.Accepts.{ProgramTerm}
use Rattle.qvt_meaning_report.specs.Meaning.{meaning}
use Rattle.qvt_outcome.specs.Outcome.{Outcome}
use Rattle.qvt_outputs.specs.Left.{left}

-- what the program of a job leaves by its meaning over a loaded store, with the job's fuel
abbrev pub left_over : Job → ProgramTerm → List (Option (List ℕ)) → Contents → Result Outcome Outcome
left_over job p ids store = left job p ids (meaning p store job.fuel)
