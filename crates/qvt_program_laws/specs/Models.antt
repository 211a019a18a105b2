-- The models of an accepted program have metamodels (QVT 1.3, 8.2.1.5 and 8.2.1.6).
use Rattle.std.specs.Prelude.{◌≡◌, ◌<◌, ℕ, ◌∷◌, ◌++◌, [], map, length, Ok, Some}
use Rattle.qvt_metamodel.specs.Extended.{unnamed}
use Rattle.qvt_metamodel.specs.Metamodels.{Metamodels}
use Rattle.qvt_tree_types.specs.Module.{ModuleTerm}
use Rattle.qvt_typing.specs.Accepts.{ProgramTerm, accepts}
use Rattle.qvt_types_program.specs.Extents.{row_at}
use Rattle.qvt_types_program.specs.Program.{model_metamodel, model_params}

-- model i has a metamodel, which is one of these
pub record HasMetamodel (m : Metamodels) (p : ProgramTerm) (i : ℕ) : Type 0 where
  pub known : (row_at p.heads.models.rows i).metamodel ≡ Some (model_metamodel p i)
  pub given : model_metamodel p i < length m.metamodels

-- each model of the header has one of the metamodels of the job
abbrev pub ModelsHaveMetamodels : Type 0
ModelsHaveMetamodels = (m : Metamodels) (t : ModuleTerm) (p : ProgramTerm) → accepts m t ≡ Ok p → (i : ℕ) → i < length (model_params p) → HasMetamodel m p i

-- what a program has of the metamodels of the job and of the header's models
pub record HasModels (m : Metamodels) (t : ModuleTerm) (p : ProgramTerm) : Type 0 where
  -- the metamodels of the job, and after them the one without a name
  pub metamodels : p.heads.metas.metamodels ≡ m.metamodels ++ unnamed ∷ []
  pub names : p.heads.models.names ≡ map (λ x. x.name) t.params
  pub known : (i : ℕ) → i < length t.params → HasMetamodel m p i

abbrev pub ModelsAreDeclared : Type 0
ModelsAreDeclared = (m : Metamodels) (t : ModuleTerm) (p : ProgramTerm) → accepts m t ≡ Ok p → HasModels m t p
