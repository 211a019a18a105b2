-- What `run JOB` does over the bytes that the files hold: the job, its metamodels, its text, the types of the text's parts, whether its
-- models are the text's, its inputs, and what the run of its program leaves, in this order.
use Rattle.std.specs.Prelude.{ℕ, List, Option, option_map, Result, Ok, ⊤}
use Rattle.qvt_results.specs.Bind.{◌>>=◌}
use Rattle.qvt_json.specs.Steps.{none_of}
use Rattle.qvt_metamodel.specs.Metamodels.{Metamodels}
use Rattle.qvt_tree_types.specs.Module.{ModuleTerm}
use Rattle.qvt_typing.specs.Accepts.{ProgramTerm}
use Rattle.qvt_job.specs.Job.{job_of}
use Rattle.qvt_job.specs.Parameters.{mismatch}
use Rattle.qvt_job.specs.declared.job.Job.{Job}
use Rattle.qvt_outcome.specs.declared.refusal.Refusal.TheVariants as refusal
use Rattle.qvt_work.specs.Source.{tree_in}
use Rattle.qvt_work.specs.Typing.{typed_in}
use Rattle.qvt_work.specs.Metas.{metamodels_read}
use Rattle.qvt_outcome.specs.Outcome.{Outcome, refused}
use Rattle.qvt_outcome.specs.Steps.{or_refused}
use Rattle.qvt_outcome.specs.Chain.{Chain, step, ◌>=>◌, read_step}
use Rattle.qvt_program_inputs.specs.Start.{program_inputs}
use Rattle.qvt_work.specs.Ends.{left_over}

unfoldable pub job_in : List ℕ → List ℕ → Result Job Outcome
job_in name bytes = or_refused refusal.Job name (job_of bytes)

-- reads the job
unfoldable pub job_read : List ℕ → Chain Job
job_read name = read_step name 65536 >=> (λ bytes. step (job_in name bytes))

-- the models of the job are those of the tree
abbrev pub unless_mismatch : List ℕ → Option (List ℕ) → Result ⊤ Outcome
unless_mismatch name other = none_of (option_map (λ model. refused name (refusal.JobModels model)) other)

-- the program of a tree that is typed, where the models of the job are those of the tree
unfoldable pub program_in : List ℕ → Job → Metamodels → ModuleTerm → Result ProgramTerm Outcome
program_in name job metas tree = do
  p ← typed_in metas job.text tree
  _ ← unless_mismatch name (mismatch job tree.params)
  Ok p

unfoldable pub text_in : List ℕ → Job → Metamodels → List ℕ → Result ProgramTerm Outcome
text_in name job metas bytes = tree_in job.text bytes >>= program_in name job metas

-- reads the text
unfoldable pub text_read : List ℕ → Job → Metamodels → Chain ProgramTerm
text_read name job metas = read_step job.text 262144 >=> (λ bytes. step (text_in name job metas bytes))

-- reads the inputs, and runs the program over them
unfoldable pub performed : Job → ProgramTerm → Chain Outcome
performed job p = program_inputs p job.inputs >=> (λ loaded. step (left_over job p loaded.ids loaded.store))

unfoldable pub after_metas : List ℕ → Job → Metamodels → Chain Outcome
after_metas name job metas = text_read name job metas >=> performed job

unfoldable pub after_job : List ℕ → Job → Chain Outcome
after_job name job = metamodels_read job.metamodels >=> after_metas name job

unfoldable pub run_of : List ℕ → Chain Outcome
run_of name = job_read name >=> after_job name
