-- The enumerations of metamodels and their literals by name, as tables.
use Rattle.std.specs.Prelude.{◌≡◌, ◌<◌, ◌^◌, ℕ, List, [], length, position, slice_index_or}
use Rattle.std.specs.Map.{lookup}
use Rattle.std.specs.Str.{bytes_eq}
use Rattle.qvt_metamodel.specs.declared.info.EnumInfo.{EnumInfo}
use Rattle.qvt_metamodel.specs.declared.info.MetamodelInfo.{MetamodelInfo}
use Rattle.qvt_metamodel.specs.Named.{nowhere_enumeration, nowhere_metamodel}
use Rattle.qvt_meta_names.specs.declared.enum_tables.EnumTable.{EnumTable}

-- there are few enumerations, and few literals of each, so that their numbers fit 32 bits
pub record AreFew (enums : List EnumInfo) : Type 0 where
  pub enumerations : length enums < 2 ^ 32
  pub literals : (e : ℕ) → length (slice_index_or enums e nowhere_enumeration).literals < 2 ^ 32

-- the same of each metamodel
abbrev pub AreEachFew : List MetamodelInfo → Type 0
AreEachFew metamodels = (k : ℕ) → AreFew (slice_index_or metamodels k nowhere_metamodel).enums

-- each name finds the first enumeration that has it, and of each enumeration the first literal
pub record IsTabled (enums : List EnumInfo) (t : EnumTable) : Type 0 where
  pub enumerations : (name : List ℕ) → lookup (bytes_eq name) t.enumerations ≡ position (λ e. bytes_eq name e.name) enums
  pub each : length t.literals ≡ length enums
  pub literals : (e : ℕ) → e < length enums → (name : List ℕ) → lookup (bytes_eq name) (slice_index_or t.literals e []) ≡ position (bytes_eq name) (slice_index_or enums e nowhere_enumeration).literals

-- what stands past the last metamodel
abbrev pub no_table : EnumTable
no_table = record { enumerations = []; literals = [] }

-- the same of each metamodel
pub record AreTabled (metamodels : List MetamodelInfo) (tables : List EnumTable) : Type 0 where
  pub each : length tables ≡ length metamodels
  pub at : (k : ℕ) → k < length metamodels → IsTabled (slice_index_or metamodels k nowhere_metamodel).enums (slice_index_or tables k no_table)
