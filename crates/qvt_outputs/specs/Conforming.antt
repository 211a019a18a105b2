-- The models that a run writes conform to their metamodels (EMOF 12.4 and 12.5).
use Rattle.std.specs.Prelude.{◌≡◌, ℕ, List, IsTrue, Some, None, Result, Ok, Err, ⊤}
use Rattle.std.specs.List.{AllByRecursion}
use Rattle.qvt_store.specs.Contents.{Contents, extent_at, is_extent}
use Rattle.qvt_model.specs.declared.data.ObjectData.{ObjectData}
use Rattle.qvt_model.specs.Reading.{model_of}
use Rattle.qvt_conform.specs.Conformance.{conform_fault}
use Rattle.qvt_run_data.specs.declared.exit.End.{End}
use Rattle.qvt_job.specs.declared.job.JobModel.{JobModel}
use Rattle.qvt_meaning.specs.Run.{FinishedRun}
use Rattle.qvt_meaning_report.specs.Meaning.{is_written}
use Rattle.qvt_outputs.specs.Left.{extent_named, model_file}

-- the model of this name is there, and is written
pub record IsOutput (s : Contents) (name : List ℕ) : Type 0 where
  pub extent : ℕ
  pub named : extent_named s name ≡ Some extent
  pub live : IsTrue (is_extent s extent)
  pub written : IsTrue (is_written s extent)

-- the text of an output of a job is read as a model of the metamodel of its extent, and that has no fault
pub record IsConforming (s : Contents) (o : JobModel) : Type 0 where
  pub extent : ℕ
  pub named : extent_named s o.model ≡ Some extent
  pub objects : List ObjectData
  pub read : model_of s.metas (extent_at s extent).metamodel (model_file s o).1 ≡ Ok objects
  pub conforms : conform_fault s.metas objects ≡ None

abbrev pub AreConforming : Contents → List JobModel → Type 0
AreConforming s os = AllByRecursion (IsConforming s) os

-- those of a run that has ended well
abbrev pub LeavesConforming : Result FinishedRun End → List JobModel → Type 0
LeavesConforming (Ok f) os = AreConforming f.after os
LeavesConforming (Err e) os = ⊤
