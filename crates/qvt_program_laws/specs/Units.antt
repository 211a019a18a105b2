-- The units of an accepted program by their numbers, and its mappings by theirs (QVT 1.3, 8.2.1.10 and 8.2.1.15).
use Rattle.std.specs.Prelude.{◌≡◌, ◌<◌, ℕ, length, Ok, Some}
use Rattle.qvt_metamodel.specs.Metamodels.{Metamodels}
use Rattle.qvt_tree_types.specs.Module.{ModuleTerm}
use Rattle.qvt_types_nodes.specs.Module.{TypedMappingTerm, TypedMappingOf}
use Rattle.qvt_typing.specs.Accepts.{ProgramTerm, accepts}
use Rattle.qvt_types_program.specs.Mappings.{mapping_count, mapping_unit}
use Rattle.qvt_types_program.specs.Program.{unit_term}

-- there are as many signatures as units
abbrev pub UnitsAreSigned : Type 0
UnitsAreSigned = (m : Metamodels) (t : ModuleTerm) (p : ProgramTerm) → accepts m t ≡ Ok p → length p.heads.units ≡ length p.module_.units

-- mapping k is a unit, and that unit is a mapping
pub record IsMappingUnit (p : ProgramTerm) (k : ℕ) : Type 0 where
  pub number : ℕ
  pub mapping : TypedMappingTerm
  pub numbered : mapping_unit p.heads.units k ≡ Some number
  pub written : unit_term p number ≡ Some (TypedMappingOf mapping)

-- so is each of the mappings
abbrev pub MappingsAreUnits : Type 0
MappingsAreUnits = (m : Metamodels) (t : ModuleTerm) (p : ProgramTerm) → accepts m t ≡ Ok p → (k : ℕ) → k < mapping_count p.heads.units → IsMappingUnit p k
