-- The models of a job have names.
use Rattle.std.specs.Prelude.{◌≡◌, ◌≢◌, ℕ, List, [], Ok}
use Rattle.std.specs.List.{AllByRecursion}
use Rattle.qvt_job.specs.declared.job.JobModel.{JobModel}
use Rattle.qvt_job.specs.declared.job.Job.{Job}
use Rattle.qvt_job.specs.Job.{job_of}

abbrev pub HaveNames : List JobModel → Type 0
HaveNames models = AllByRecursion (λ x. x.model ≢ []) models

-- those of every job that is read
abbrev pub ModelsHaveNames : Type 0
ModelsHaveNames = (bytes : List ℕ) (job : Job) → job_of bytes ≡ Ok job → HaveNames job.inputs × HaveNames job.outputs
