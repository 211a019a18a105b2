-- What is held beside the list of metamodels: the tables of classes, for each metamodel its classes by name and its enumerations
-- with their literals, the features by name, and for each line of features a tree in which it is searched by the numbers of
-- their names.
use Rattle.std.specs.Prelude.{◌≡◌, ℕ, ◌+◌, ◌-◌, ◌<◌, ◌^◌, List, [], length, min, position, slice_index_or}
use Rattle.std.specs.Map.{lookup}
use Rattle.std.specs.Str.{bytes_eq}
use Rattle.qvt_base.specs.declared.numbers.FeatureNo.{FeatureNo}
use Rattle.qvt_metamodel.specs.declared.info.FeatureInfo.{FeatureInfo}
use Rattle.qvt_metamodel.specs.declared.row.Row.{Row}
use Rattle.qvt_metamodel.specs.Metamodels.{Metamodels}
use Rattle.qvt_metamodel.specs.Named.{class_named}
use Rattle.qvt_metamodel.specs.Kept.{IsKept}
use Rattle.qvt_metamodel.specs.declared.begin.Begin.{Begin}
use Rattle.qvt_metamodel.specs.Lists.{Lists, all_lists}
use Rattle.qvt_meta_names.specs.Named.{numbers_of}
use Rattle.qvt_meta_names.specs.declared.place_tables.PlaceTables.{PlaceTables}
use Rattle.qvt_meta_names.specs.declared.enum_tables.EnumTable.{EnumTable}
use Rattle.qvt_meta_names.specs.Enumerated.{AreTabled}
use Rattle.qvt_meta_names.specs.Rooted.{ArePlaced}

-- a number stands for each name of a feature: that of the first feature that has it
pub record AreNameNumbers (features : List FeatureInfo) (table : List (List ℕ × ℕ)) (numbers : List ℕ) : Type 0 where
  pub first : (name : List ℕ) → lookup (bytes_eq name) table ≡ position (λ f. bytes_eq name f.name) features
  pub each : numbers ≡ numbers_of table features

-- a number of a line after those of others, the greatest where it does not fit: then no list has it
abbrev pub capped_on : Begin → FeatureNo → FeatureNo
capped_on b f = record { 0 = min (b.feature + f.0) (2 ^ 32 - 1) }

pub record IsMetasKept (m : Metamodels) (lists : Lists) (rows : List Row) (ranks : List ℕ) (names : List (List (List ℕ × ℕ))) (table : List (List ℕ × ℕ)) (numbers : List ℕ) (places : PlaceTables) (enumerations : List EnumTable) : Type 0 where
  pub kept : IsKept m (all_lists lists) rows ranks
  pub each : length names ≡ length m.metamodels
  pub named : (k : ℕ) → k < length m.metamodels → (name : List ℕ) → lookup (bytes_eq name) (slice_index_or names k []) ≡ class_named m k name
  pub numbered : AreNameNumbers m.features table numbers
  pub placed : ArePlaced numbers lists.lines places
  pub enumerated : AreTabled m.metamodels enumerations
