-- A job that fits the model parameters of a transformation (QVT 1.3, 8.2.1.5): its inputs, and the names of the parameters.
use Rattle.std.specs.Prelude.{◌≡◌, ◌≢◌, ◌≤◌, IsTrue, List, [], None}
use Rattle.std.specs.List.{AllByRecursion}
use Rattle.qvt_tree_types.specs.declared.module.ModelParam.{ModelParam}
use Rattle.qvt_job.specs.Names.{HaveNames}
use Rattle.qvt_job.specs.Parameters.{times, is_parameter, mismatch}
use Rattle.qvt_job.specs.declared.job.JobModel.{JobModel}
use Rattle.qvt_job.specs.declared.job.Job.{Job}

-- the input is for one of the parameters, and no other input is
pub record IsOnly (job : Job) (params : List ModelParam) (input : JobModel) : Type 0 where
  pub parameter : IsTrue (is_parameter params input.model)
  pub once : times input.model job.inputs ≤ 1

abbrev pub InputsAreApart : Type 0
InputsAreApart = (job : Job) (params : List ModelParam) → mismatch job params ≡ None → AllByRecursion (IsOnly job params) job.inputs

-- where the models of the job have names, the parameters have
abbrev pub ParametersHaveNames : Type 0
ParametersHaveNames = (job : Job) (params : List ModelParam) → HaveNames job.inputs → HaveNames job.outputs → mismatch job params ≡ None → AllByRecursion (λ p. p.name ≢ []) params
