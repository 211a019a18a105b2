-- The inputs of a job can be loaded for a program whose parameters are the job's models.
use Rattle.std.specs.Prelude.{◌≡◌, ◌≢◌, [], None, Ok}
use Rattle.std.specs.List.{AllByRecursion}
use Rattle.qvt_metamodel.specs.Metamodels.{Metamodels}
use Rattle.qvt_tree_types.specs.Module.{ModuleTerm}
use Rattle.qvt_typing.specs.Accepts.{ProgramTerm, accepts}
use Rattle.qvt_job.specs.declared.job.Job.{Job}
use Rattle.qvt_job.specs.Names.{HaveNames}
use Rattle.qvt_job.specs.Parameters.{mismatch}
use Rattle.qvt_program_inputs.specs.Start.{CanLoad}

-- each of the metamodels has a name
abbrev pub AreAllNamed : Metamodels → Type 0
AreAllNamed m = AllByRecursion (λ i. i.name ≢ []) m.metamodels

-- the program is that of the tree over the metamodels of the job, and the models of the job are those of the tree
pub record IsOfJob (job : Job) (m : Metamodels) (t : ModuleTerm) (p : ProgramTerm) : Type 0 where
  pub metamodels : AreAllNamed m
  pub inputs : HaveNames job.inputs
  pub outputs : HaveNames job.outputs
  pub accepted : accepts m t ≡ Ok p
  pub models : mismatch job t.params ≡ None

abbrev pub JobCanLoad : Type 0
JobCanLoad = (job : Job) (m : Metamodels) (t : ModuleTerm) (p : ProgramTerm) → IsOfJob job m t p → CanLoad p job.inputs
