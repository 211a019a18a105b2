-- Laws of acceptance.
use Rattle.std.specs.Prelude.{◌≡◌, Ok}
use Rattle.qvt_metas.specs.Metamodels.{Metamodels}
use Rattle.qvt_tree_types.specs.Module.{ModuleTerm}
use Rattle.qvt_types_nodes.specs.StripModule.{strip}
use Rattle.qvt_types_program.specs.Accepts.{ProgramTerm, accepts}

-- the tree of a program without its notes is the tree that was accepted
abbrev pub TreeStays : Type 0
TreeStays = (m : Metamodels) (t : ModuleTerm) (p : ProgramTerm) → accepts m t ≡ Ok p → strip p.module_ ≡ t
