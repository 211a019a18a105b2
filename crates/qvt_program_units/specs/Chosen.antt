-- The choice of a unit for objects of a class, among units that are told in several ways (QVT 1.3, 8.2.1.10).
use Rattle.std.specs.Prelude.{ℕ, ◌==◌, ◌&&◌, Bool, true, false, if◌then◌else◌, List, [], ◌∷◌, Option, Some, None}
use Rattle.std.specs.List.{filter_map}
use Rattle.qvt_base.specs.declared.numbers.MappingNo.{MappingNo}
use Rattle.qvt_metas.specs.Metamodels.{Metamodels}
use Rattle.qvt_metas.specs.Descends.{descends}
use Rattle.qvt_types_units.specs.declared.choice.FoundUnit.{FoundUnit}
use Rattle.qvt_types_units.specs.declared.choice.FoundUnit.TheVariants.{NoUnit, Untyped, Unclear, Chosen}
use Rattle.qvt_types_units.specs.declared.signature.HeadClass.{HeadClass}
use Rattle.qvt_types_units.specs.declared.signature.HeadClass.TheVariants.{Missing, Unknown, Known}
use Rattle.qvt_types_units.specs.Choice as units
use Rattle.qvt_types_units.specs.Numbers.{has_context}
use Rattle.qvt_types_program.specs.Choices.{group_of}
use Rattle.qvt_types_program.specs.Accepts.{ProgramTerm}
use Rattle.qvt_run_data.specs.declared.callee.Callee.{Callee}
use Rattle.qvt_meaning.specs.Program.{callee, mapping_unit, numbers, signature_of}

-- the units that the mappings are
abbrev pub units_of : ProgramTerm → List MappingNo → List ℕ
units_of p ms = filter_map (mapping_unit p) (numbers ms)

-- the choice among these
abbrev pub chosen_among : ProgramTerm → List ℕ → ℕ → Option ℕ
chosen_among p ns c = units.chosen p.heads.metas p.heads.units ns c

-- the units that are called like this one
abbrev pub units_like : ProgramTerm → ℕ → List ℕ
units_like p n = group_of p.heads.units n

-- what typing finds among these, for a class
abbrev pub found_among : ProgramTerm → List ℕ → ℕ → FoundUnit
found_among p ns c = units.looked_up p.heads.metas p.heads.units ns c

-- the choice that this tells, if it tells it
abbrev pub told : FoundUnit → Option (Option ℕ)
told NoUnit = Some None
told (Chosen n) = Some (Some n)
told Untyped = None
told Unclear = None

-- unit n with this context, if objects of the class may be handed to it
abbrev pub alone : Metamodels → HeadClass → ℕ → ℕ → Option ℕ
alone m Missing n c = None
alone m Unknown n c = None
alone m (Known d) n c = if descends m c d.0 then Some n else None

-- the mappings are these units, one after another
abbrev pub is_unit : ℕ → Option ℕ → Bool
is_unit n None = false
is_unit n (Some k) = k == n

abbrev pub are_units : ProgramTerm → List MappingNo → List ℕ → Bool
are_units p [] [] = true
are_units p [] (n ∷ ns) = false
are_units p (k ∷ ks) [] = false
are_units p (k ∷ ks) (n ∷ ns) = is_unit n (mapping_unit p k.0) && are_units p ks ns

-- a number, if one is there
abbrev pub as_list : Option ℕ → List ℕ
as_list None = []
as_list (Some n) = n ∷ []

-- the call of a unit, if there is one and it has no context
abbrev pub free_at : ProgramTerm → Bool → Option ℕ → Option Callee
free_at p strict None = None
free_at p strict (Some n) = if has_context (signature_of p n).context then None else Some (callee p strict None n)
