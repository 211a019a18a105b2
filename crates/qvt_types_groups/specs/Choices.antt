-- What calls by a name find for objects of each class, told once for each name.
use Rattle.std.specs.Prelude.{ℕ, Bool, not, nat_lt, IsTrue, List, length, Option, Some, None, slice_index_or}
use Rattle.std.specs.List.{list_any}
use Rattle.qvt_metamodel.specs.Metamodels.{Metamodels}
use Rattle.qvt_types_units.specs.declared.signature.Signature.{Signature}
use Rattle.qvt_types_units.specs.Numbers.{unit_at, group, is_mapping}
use Rattle.qvt_types_choices.specs.Sets.{AreSets}
use Rattle.qvt_types_choices.specs.Tables.{TellsOf}
use Rattle.qvt_types_choices.specs.declared.tables.GroupTable.{GroupTable}
use Rattle.qvt_types_choices.specs.declared.tables.GroupTable.TheVariants.{Untold}
use Rattle.qvt_types_groups.specs.declared.units.ToldUnits.{ToldUnits}

-- the units that are called like this one
abbrev pub called_like : List Signature → Signature → List ℕ
called_like us u = group (is_mapping u.sort) u.name us

-- the same of unit n
abbrev pub group_of : List Signature → ℕ → List ℕ
group_of us n = called_like us (unit_at us n)

-- some units are called like others
abbrev pub are_several : List Signature → Bool
are_several us = list_any (λ u. nat_lt 1 (length (called_like us u))) us

abbrev pub group_table_at : List GroupTable → ℕ → GroupTable
group_table_at tables n = slice_index_or tables n Untold

-- the table of a unit tells of those that are called like it
abbrev pub EachTells : Metamodels → List Signature → List GroupTable → Type 0
EachTells m us tables = (n : ℕ) → TellsOf m us (group_of us n) (group_table_at tables n)

pub record HaveTables (m : Metamodels) (us : List Signature) (t : ToldUnits) : Type 0 where
  pub several : IsTrue (are_several us)
  pub made : AreSets m t.sets
  pub told : EachTells m us t.tables

-- there are tables exactly where some units are called like others
abbrev pub TablesTell : Metamodels → List Signature → Option ToldUnits → Type 0
TablesTell m us None = IsTrue (not (are_several us))
TablesTell m us (Some t) = HaveTables m us t

-- metamodels with Element and the intermediate classes of a transformation, and its units
pub record ChosenUnits : Type 0 where
  pub metas : Metamodels
  pub units : List Signature
