-- The store of a run of a program before its inputs are loaded (QVT 1.3, 8.2.1.5 and 8.2.1.1), and what the inputs of a job make of it.
use Rattle.std.specs.Prelude.{List, []}
use Rattle.qvt_store.specs.Contents.{Contents, AreNamed}
use Rattle.qvt_types_program.specs.Accepts.{ProgramTerm}
use Rattle.qvt_types_program.specs.Extents.{extents}
use Rattle.qvt_job.specs.declared.job.JobModel.{JobModel}
use Rattle.qvt_outcome.specs.Chain.{Chain}
use Rattle.qvt_inputs.specs.Inputs.{inputs_read, HaveExtents}
use Rattle.qvt_inputs.specs.declared.loaded.Loaded.{Loaded}

-- no objects, in the extents of the program over its metamodels
abbrev pub start_of : ProgramTerm → Contents
start_of p = record { metas = p.heads.metas; extents = extents p; objects = [] }

-- reads the inputs of a run of the program
unfoldable pub program_inputs : ProgramTerm → List JobModel → Chain Loaded
program_inputs p inputs = inputs_read (start_of p) inputs

-- the inputs can be loaded when they are read: each extent has a name where its metamodel has one, and each input an extent of its own
pub record CanLoad (p : ProgramTerm) (inputs : List JobModel) : Type 0 where
  pub named : AreNamed p.heads.metas (extents p)
  pub extents_of : HaveExtents (start_of p) inputs
