-- The run behind the outcome of words that ask for one: its job, its program and its inputs, how it has ended, and what it writes.
use Rattle.std.specs.Prelude.{◌≡◌, ℕ, List, Some, Ok}
use Rattle.qvt_base.specs.Outside.{Held}
use Rattle.qvt_metamodel.specs.Metamodels.{Metamodels}
use Rattle.qvt_inputs.specs.declared.loaded.Loaded.{Loaded}
use Rattle.qvt_job.specs.declared.job.Job.{Job}
use Rattle.qvt_meaning.specs.Accepts.{ProgramTerm}
use Rattle.qvt_meaning.specs.Run.{FinishedRun}
use Rattle.qvt_meaning_report.specs.Lines.{done_line}
use Rattle.qvt_meaning_report.specs.Meaning as means
use Rattle.qvt_outcome.specs.Outcome.{Outcome, done}
use Rattle.qvt_outputs.specs.Left.{files_left}
use Rattle.qvt_program_inputs.specs.Start.{program_inputs}
use Rattle.qvt_work.specs.Metas.{metamodels_read}
use Rattle.qvt_work.specs.Run.{job_read, text_read}
use Rattle.qvt_work.specs.Words.{run, command_of}
use Rattle.qvt_work.specs.Work.{job}

-- the file of a job, the job, its metamodels, the program of its text, and its inputs as they are loaded
pub record JobRun : Type 0 where
  pub file : List ℕ
  pub job : Job
  pub metas : Metamodels
  pub program : ProgramTerm
  pub loaded : Loaded

-- the words ask for it, and each of its parts is what is read for it over the bytes that the files hold
pub record IsAsked (words : List (List ℕ)) (held : Held) (r : JobRun) : Type 0 where
  pub command : command_of words ≡ Some (run r.file)
  pub job : (job_read r.file held).answer ≡ Ok r.job
  pub metas : (metamodels_read r.job.metamodels held).answer ≡ Ok r.metas
  pub program : (text_read r.file r.job r.metas held).answer ≡ Ok r.program
  pub loaded : (program_inputs r.program r.job.inputs held).answer ≡ Ok r.loaded

-- what its program means over its inputs with the fuel of the job
unfoldable pub meant : JobRun → means.RunOutcome
meant r = means.meaning r.program r.loaded.store r.job.fuel

-- where it has ended so: the files of its models and of its trace, and the line
unfoldable pub written_by : JobRun → FinishedRun → Outcome
written_by r f = done (files_left r.job r.program r.loaded.ids f) (done_line f)

-- the words ask for this run, it is done so, and their outcome is what it writes
pub record IsBehind (words : List (List ℕ)) (held : Held) (r : JobRun) (f : FinishedRun) : Type 0 where
  pub asked : IsAsked words held r
  pub done : meant r ≡ means.Done f
  pub written : job words held ≡ written_by r f

-- where the words ask for a run: one is behind their outcome, and this is so of it
abbrev pub IsOfRun : List (List ℕ) → Held → (JobRun → FinishedRun → Type 0) → Type 0
IsOfRun words held P = (file : List ℕ) → command_of words ≡ Some (run file) → (r : JobRun) × ((f : FinishedRun) × (IsBehind words held r f × P r f))
