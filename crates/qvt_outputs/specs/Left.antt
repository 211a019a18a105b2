-- What a run leaves, by what the program means: the files of its models and of its trace with the line that tells of it, or the line of what
-- ended it, and no file.
use Rattle.std.specs.Prelude.{ℕ, List, [], ◌∷◌, ◌++◌, map, position, Option, Some, None, Result, Ok, Err}
use Rattle.std.specs.Str.{bytes_eq}
use Rattle.qvt_conform.specs.declared.fault.LowFault.{LowFault}
use Rattle.qvt_metamodel.specs.Metamodels.{feature_at}
use Rattle.qvt_model.specs.Extents.{data_of}
use Rattle.qvt_model.specs.RunIds.{run_id}
use Rattle.qvt_model.specs.Written.{model_text}
use Rattle.qvt_store.specs.Contents.{Contents, extent_at, extent_of}
use Rattle.qvt_job.specs.declared.job.Job.{Job}
use Rattle.qvt_job.specs.declared.job.JobModel.{JobModel}
use Rattle.qvt_meaning.specs.Accepts.{ProgramTerm}
use Rattle.qvt_meaning.specs.Run.{FinishedRun}
use Rattle.qvt_meaning_report.specs.Lines.{done_line, fault_line}
use Rattle.qvt_meaning_report.specs.Meaning as meaning
use Rattle.qvt_meaning_report.specs.TraceText.{trace_text}
use Rattle.qvt_outcome.specs.Outcome.{Outcome, File, fault, out_of_fuel, low, done}

-- the extent of a model, by its name (QVT 1.3, 8.2.1.5)
abbrev pub extent_named : Contents → List ℕ → Option ℕ
extent_named s name = position (λ x. bytes_eq name x.name) s.extents

-- the text of its model; the job of a program has models of the program alone
abbrev pub text_in : Contents → Option ℕ → List ℕ
text_in s None = []
text_in s (Some e) = model_text s.metas (data_of s e)

-- an output of the job, with the text of the model that it is for
abbrev pub model_file : Contents → JobModel → File
model_file s o = (o.file, text_in s (extent_named s o.model))

-- the file of the trace, where one is wanted (QVT 1.3, 8.1.12)
abbrev pub trace_files : Option (List ℕ) → List ℕ → List File
trace_files None text = []
trace_files (Some file) text = (file, text) ∷ []

-- an object by its model and its id, and the feature of which it has too few items (EMOF 12.4)
abbrev pub low_outcome : Contents → List (Option (List ℕ)) → LowFault → Outcome
low_outcome s ids l = low (extent_at s (extent_of s l.object.0)).name (run_id s ids l.object.0) (feature_at s.metas l.feature.0).name

-- of a program and the ids of the files
module _ (job : Job) (p : ProgramTerm) (ids : List (Option (List ℕ))) where
  abbrev pub files_left : FinishedRun → List File
  files_left f = map (model_file f.after) job.outputs ++ trace_files job.trace (trace_text p ids f)

  unfoldable pub left : meaning.RunOutcome → Result Outcome Outcome
  left (meaning.Fault k at) = Err (fault (fault_line job.text k at))
  left meaning.OutOfFuel = Err (out_of_fuel job.fuel)
  left (meaning.Low s l) = Err (low_outcome s ids l)
  left (meaning.Done f) = Ok (done (files_left f) (done_line f))
