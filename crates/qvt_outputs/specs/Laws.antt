-- What is left is told by the line and the status of what the program means.
use Rattle.std.specs.Prelude.{◌≡◌, ℕ, List, Option}
use Rattle.qvt_job.specs.declared.job.Job.{Job}
use Rattle.qvt_meaning.specs.Accepts.{ProgramTerm}
use Rattle.qvt_meaning_report.specs.Lines.{line_of}
use Rattle.qvt_meaning_report.specs.Meaning as meaning
use Rattle.qvt_outcome.specs.Outcome.{report, status_of}
use Rattle.qvt_outcome.specs.Steps.{settled}
use Rattle.qvt_outcome.specs.declared.status.Status.{Status}
use Rattle.qvt_outcome.specs.declared.status.Status.TheVariants as status
use Rattle.qvt_outputs.specs.Left.{left}

abbrev pub meant_status : meaning.RunOutcome → Status
meant_status (meaning.Fault k at) = status.Fault
meant_status meaning.OutOfFuel = status.OutOfFuel
meant_status (meaning.Low s l) = status.Low
meant_status (meaning.Done f) = status.Done

abbrev pub LinesAreMeant : Type 0
LinesAreMeant = (job : Job) (p : ProgramTerm) (ids : List (Option (List ℕ))) (o : meaning.RunOutcome) → report (settled (left job p ids o)) ≡ line_of job.text job.fuel ids o

abbrev pub StatusIsMeant : Type 0
StatusIsMeant = (job : Job) (p : ProgramTerm) (ids : List (Option (List ℕ))) (o : meaning.RunOutcome) → status_of (settled (left job p ids o)) ≡ meant_status o
