-- The cost of a run that is done is exact (the engine's own): with less fuel than its cost it is out of fuel, and with every other it writes
-- the same.
use Rattle.std.specs.Prelude.{◌≡◌, ℕ, nat_lt, if◌then◌else◌, List}
use Rattle.qvt_base.specs.Outside.{Held}
use Rattle.qvt_store.specs.Contents.{Contents}
use Rattle.qvt_job.specs.declared.job.Job.{Job}
use Rattle.qvt_meaning.specs.Accepts.{ProgramTerm}
use Rattle.qvt_meaning.specs.Run.{FinishedRun}
use Rattle.qvt_meaning_report.specs.Meaning as means
use Rattle.qvt_outcome.specs.Chain.{Chain, ◌>=>◌}
use Rattle.qvt_outcome.specs.Outcome.{Outcome, out_of_fuel}
use Rattle.qvt_outcome.specs.Steps.{settled}
use Rattle.qvt_work.specs.Run.{job_read, after_job}
use Rattle.qvt_work.specs.Runs.{JobRun, written_by}

-- a job with this fuel in place of its own
abbrev pub with_fuel : Job → ℕ → Job
with_fuel job n = record job { fuel = n }

-- `run FILE` with this fuel in place of that of its job
unfoldable pub run_with : ℕ → List ℕ → Chain Outcome
run_with n file = job_read file >=> (λ job. after_job file (with_fuel job n))

-- its outcome over the bytes that the files hold
unfoldable pub outcome_with : ℕ → List ℕ → Held → Outcome
outcome_with n file held = settled (run_with n file held).answer

-- with n in place of its fuel the run has the same files and the same line, or is out of fuel where n is less than the cost
unfoldable pub HasExactCost : Held → JobRun → FinishedRun → Type 0
HasExactCost held r f = (n : ℕ) → outcome_with n r.file held ≡ (if nat_lt n f.cost then out_of_fuel n else written_by r f)

-- The same of what a program means.
abbrev pub MeaningIsExact : Type 0
MeaningIsExact = (p : ProgramTerm) (store : Contents) (fuel n : ℕ) (f : FinishedRun) → means.meaning p store fuel ≡ means.Done f
    → means.meaning p store n ≡ (if nat_lt n f.cost then means.OutOfFuel else means.Done f)
