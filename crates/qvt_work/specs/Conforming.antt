-- The models that a run writes conform to their metamodels (EMOF 12.4 and 12.5): of a run that is done, and step by step over the bytes
-- that the files hold.
use Rattle.std.specs.Prelude.{ℕ, List, IfOk, ⊤}
use Rattle.qvt_base.specs.Outside.{Held}
use Rattle.qvt_metamodel.specs.Metamodels.{Metamodels}
use Rattle.qvt_store.specs.Contents.{Contents}
use Rattle.qvt_job.specs.declared.job.Job.{Job}
use Rattle.qvt_meaning.specs.Accepts.{ProgramTerm}
use Rattle.qvt_meaning.specs.Run.{FinishedRun, finished}
use Rattle.qvt_outputs.specs.Conforming.{AreConforming, LeavesConforming}
use Rattle.qvt_program_inputs.specs.Start.{program_inputs}
use Rattle.qvt_work.specs.Metas.{metamodels_read}
use Rattle.qvt_work.specs.Run.{job_read, text_read}
use Rattle.qvt_work.specs.Runs.{JobRun}
use Rattle.qvt_work.specs.Words.{CommandWords, run, check, print}

-- the text of each output of the job is read as a model of its metamodel, and that has no fault
unfoldable pub ModelsConform : JobRun → FinishedRun → Type 0
ModelsConform r f = AreConforming f.after r.job.outputs

-- so are the outputs of a job where the run of its program over a loaded store ends well
unfoldable pub EndConforms : Job → ProgramTerm → Contents → Type 0
EndConforms job p store = LeavesConforming (finished p store job.fuel) job.outputs

-- those over the inputs that are read for it
unfoldable pub PerformedConforms : Job → ProgramTerm → Held → Type 0
PerformedConforms job p held = IfOk (program_inputs p job.inputs held).answer (λ loaded. EndConforms job p loaded.store)

-- those of the program of its text
unfoldable pub AfterMetasConforms : List ℕ → Job → Metamodels → Held → Type 0
AfterMetasConforms name job metas held = IfOk (text_read name job metas held).answer (λ p. PerformedConforms job p held)

-- those of a job over its metamodels
unfoldable pub AfterJobConforms : List ℕ → Job → Held → Type 0
AfterJobConforms name job held = IfOk (metamodels_read job.metamodels held).answer (λ metas. AfterMetasConforms name job metas held)

-- those of the job of this file
unfoldable pub RunConforms : List ℕ → Held → Type 0
RunConforms name held = IfOk (job_read name held).answer (λ job. AfterJobConforms name job held)

-- `check` and `print` write no model
abbrev pub CommandConforms : CommandWords → Held → Type 0
CommandConforms (run name) held = RunConforms name held
CommandConforms (check metamodel model) held = ⊤
CommandConforms (print name) held = ⊤
