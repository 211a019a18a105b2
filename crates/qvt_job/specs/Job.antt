-- A job: what its file holds, or the first refusal.
use Rattle.std.specs.Prelude.{ℕ, ◌+◌, List, [], ◌∷◌, length, map, nat_lt, is_some, Option, Some, None, option_map, option_and_then, unwrap_or, Result, Ok, codes, if◌then◌else◌}
use Rattle.std.specs.List.{list_any}
use Rattle.std.specs.Str.{bytes_eq}
use Rattle.serde_json.specs.Data.{Data}
use Rattle.qvt_base.specs.Names.{is_name, is_file}
use Rattle.qvt_json.specs.Json.{json, text_at, count_under, items_or, text_or, texts_at, map_items}
use Rattle.qvt_json.specs.Leaves.{is_text_of, is_count}
use Rattle.qvt_json.specs.Shape.{Form, leaf, form_of_list, form_of_object, required, optional, shown}
use Rattle.qvt_json.specs.Repeated.{repeated}
use Rattle.qvt_results.specs.Bind.{◌>>=◌}
use Rattle.qvt_json.specs.Steps.{or_fault, none_of, or_next}
use Rattle.qvt_job.specs.declared.job.JobModel.{JobModel}
use Rattle.qvt_job.specs.declared.job.Job.{Job}
use Rattle.qvt_job.specs.declared.job.JobFault.{JobFault}
use Rattle.qvt_job.specs.declared.job.JobFault.TheVariants.{Json, Shape, TooManyFiles, SameFile}

-- a model of a job: its file, and its name in the transformation
unfoldable pub job_model_form : Form
job_model_form = form_of_object (required (codes "file") (leaf (is_text_of is_file)) ∷ required (codes "model") (leaf (is_text_of is_name)) ∷ [])

unfoldable pub job_form : Form
job_form = form_of_object (
    required (codes "fuel") (leaf (is_count 0 1000000000))
    ∷ required (codes "inputs") (form_of_list job_model_form)
    ∷ required (codes "metamodels") (form_of_list (leaf (is_text_of is_file)))
    ∷ required (codes "outputs") (form_of_list job_model_form)
    ∷ required (codes "text") (leaf (is_text_of is_file))
    ∷ optional (codes "trace") (leaf (is_text_of is_file))
    ∷ [])

abbrev pub job_model_in : Data → JobModel
job_model_in d = record { file = text_or (codes "file") d; model = text_or (codes "model") d }

abbrev pub job_models_at : List ℕ → Data → List JobModel
job_models_at key d = map_items job_model_in (items_or key d)

-- what a value of the form of a job holds
abbrev pub job_in : Data → Job
job_in d = record {
  fuel = unwrap_or (count_under (codes "fuel") d) 0;
  inputs = job_models_at (codes "inputs") d;
  metamodels = texts_at (codes "metamodels") d;
  outputs = job_models_at (codes "outputs") d;
  text = text_or (codes "text") d;
  trace = text_at (codes "trace") d;
}

-- how many files a job names, repeats counted: its text, its trace if there is one, metamodels, inputs and outputs
abbrev pub file_count : Job → ℕ
file_count job = 1 + (if is_some job.trace then 1 else 0) + length job.metamodels + length job.inputs + length job.outputs

abbrev pub too_many : Job → Option JobFault
too_many job = if nat_lt 16 (file_count job) then Some TooManyFiles else None

-- the file, if it is one of these
abbrev pub if_among : List (List ℕ) → List ℕ → Option (List ℕ)
if_among files file = if list_any (bytes_eq file) files then Some file else None

abbrev pub output_files : Job → List (List ℕ)
output_files job = map (λ o. o.file) job.outputs

-- the first output whose file an earlier output has, else the trace file if an output has it
abbrev pub same_file : Job → Option (List ℕ)
same_file job = or_next (repeated [] (output_files job)) (option_and_then (if_among (output_files job)) job.trace)

unfoldable pub job_of : List ℕ → Result Job JobFault
job_of bytes = do
  d ← or_fault Json (json bytes)
  _ ← none_of (option_map (λ path. Shape (shown path)) (job_form d))
  _ ← none_of (too_many (job_in d))
  _ ← none_of (option_map SameFile (same_file (job_in d)))
  Ok (job_in d)
