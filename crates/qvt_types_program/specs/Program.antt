-- A program as the definitions say it, and what is asked of it.
use Rattle.std.specs.Prelude.{ℕ, ◌-◌, List, length, take, slice_get, slice_index_or, Option, None}
use Rattle.qvt_metamodel.specs.Metamodels.{Metamodels}
use Rattle.qvt_tree_types.specs.declared.module.ModelParam.{ModelParam}
use Rattle.qvt_types_nodes.specs.Module.{TypedModuleTerm, TypedUnitTerm, typed_module_view}
use Rattle.qvt_types_nodes.specs.StripModule.{strip}
use Rattle.qvt_types_paths.specs.Models.{nowhere_row}
use Rattle.qvt_types_heads.specs.declared.declarations.Declarations.{Declarations}
use Rattle.qvt_types_heads.specs.Heads.{heads_over}
use Rattle.qvt_types_heads.specs.Accepts.{ProgramTerm}
use Rattle.qvt_types_heads.specs.Context.{DeclaredHeads}
use Rattle.qvt_types_program.specs.Known.{known}
use Rattle.qvt_types_program.specs.declared.program.Program.{Program}

-- the metamodels of the job: those of the program without the last, in which Element and the intermediate classes are
abbrev pub given_in : Declarations → Metamodels
given_in d = record {
  metamodels = take (length d.units.metas.metamodels - 1) d.units.metas.metamodels;
  classes = take d.types.element d.units.metas.classes;
  features = take d.first d.units.metas.features;
  element = None;
}

abbrev pub program_of : TypedModuleTerm → Declarations → ProgramTerm
program_of t d = record { module_ = t; heads = heads_over (given_in d) d }

abbrev pub program_view : Program → ProgramTerm
program_view p = program_of (typed_module_view p.«module») p.declarations

-- the model parameters, in the order of the header
abbrev pub model_params : ProgramTerm → List ModelParam
model_params p = (strip p.module_).params

-- the metamodel of model i; every model of an accepted program has one
abbrev pub model_metamodel : ProgramTerm → ℕ → ℕ
model_metamodel p i = known (slice_index_or p.heads.models.rows i nowhere_row).metamodel

abbrev pub unit_term : ProgramTerm → ℕ → Option TypedUnitTerm
unit_term p n = slice_get p.module_.units n

-- what the heads declare, as a ruling may be asked of it when the typing is done: the metamodels of the program stand for those of the job
abbrev pub heads_in : ProgramTerm → DeclaredHeads
heads_in p = record { given = p.heads.metas; metas = p.heads.metas; types = p.heads.types; models = p.heads.models; units = p.heads.units; first = p.heads.first; flags = p.heads.flags }
