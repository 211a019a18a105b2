-- The data of a metamodel's file: everything by name.
use Rattle.std.specs.Prelude.{ℕ, List, map}
use Rattle.qvt_metamodel.specs.declared.declared.DeclaredClass.{DeclaredClass}
pub use Rattle.qvt_metamodel.specs.declared.declared.MetaData.{MetaData}

abbrev pub class_names : MetaData → List (List ℕ)
class_names d = map (λ c. c.name) d.classes

abbrev pub enum_names : MetaData → List (List ℕ)
enum_names d = map (λ e. e.name) d.enums

abbrev pub feature_names : DeclaredClass → List (List ℕ)
feature_names c = map (λ f. f.name) c.features
