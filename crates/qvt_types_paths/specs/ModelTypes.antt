-- The model types of a transformation (QVT 1.3, 8.2.1.6), the metamodels that they use, and the names of its intermediate
-- classes (8.2.1.1).
use Rattle.std.specs.Prelude.{ℕ, ◌==◌, List, [], ◌∷◌, ◌++◌, map, position, Option, Some, None, is_none, if◌then◌else◌, length, slice_index_or}
use Rattle.std.specs.List.{list_any, flat_map}
use Rattle.std.specs.Str.{bytes_eq}
use Rattle.qvt_metas.specs.Metamodels.{Metamodels}
use Rattle.qvt_metas.specs.Named.{metamodel_named}
use Rattle.qvt_meta_names.specs.Names.{is_among}
use Rattle.qvt_tree_types.specs.Module.{UnitTerm, ClassOf, MainOf, HelperOf, ConstructorOf, MappingOf}
use Rattle.qvt_tree_types.specs.declared.module.ModelType.{ModelType}
use Rattle.qvt_types_data.specs.declared.refusal.TypingRefusal.{TypingRefusal}
use Rattle.qvt_types_data.specs.declared.refusal.RefusalKind.TheVariants.{UnknownMetamodel, SameName}
use Rattle.qvt_types_paths.specs.Told.{told_if}

-- the names by which types are known
pub record NamedTypes : Type 0 where
  -- those of the model types, in order, and the metamodel of each, if there is one
  pub model_types : List (List ℕ)
  pub metamodels : List (Option ℕ)
  -- the metamodels of the model types, each once
  pub used : List ℕ
  -- those of the intermediate classes, in order
  pub classes : List (List ℕ)
  -- the number of the class Element: it stands after all classes of the metamodels, and the intermediate classes after it
  pub element : ℕ

-- the first metamodel whose name or uri the model type gives
abbrev pub meant : Metamodels → ModelType → Option ℕ
meant m t = metamodel_named m t.uri

-- no metamodel is meant; an earlier model type has the name
unfoldable pub model_type_told : Metamodels → List (List ℕ) → ModelType → List TypingRefusal
model_type_told m earlier t = told_if (is_none (meant m t)) UnknownMetamodel t.place ++ told_if (is_among t.name earlier) SameName t.place

abbrev pub model_types_told : Metamodels → List (List ℕ) → List ModelType → List TypingRefusal
model_types_told m earlier [] = []
model_types_told m earlier (t ∷ ts) = model_type_told m earlier t ++ model_types_told m (earlier ++ t.name ∷ []) ts

abbrev pub used_with : List ℕ → ℕ → List ℕ
used_with used k = if list_any (λ u. u == k) used then used else used ++ k ∷ []

abbrev pub used_next : List ℕ → Option ℕ → List ℕ
used_next used None = used
used_next used (Some k) = used_with used k

-- the used metamodels, each once
abbrev pub used_from : List ℕ → List (Option ℕ) → List ℕ
used_from used [] = used
used_from used (k ∷ ks) = used_from (used_next used k) ks

abbrev pub class_name : UnitTerm → List (List ℕ)
class_name (ClassOf c) = c.name ∷ []
class_name (MainOf body at) = []
class_name (HelperOf h) = []
class_name (ConstructorOf h) = []
class_name (MappingOf m) = []

-- the intermediate classes by their names, in order
abbrev pub class_names : List UnitTerm → List (List ℕ)
class_names units = flat_map class_name units

unfoldable pub type_names : Metamodels → List ModelType → List UnitTerm → NamedTypes
type_names m types units = record {
  model_types = map (λ t. t.name) types;
  metamodels = map (meant m) types;
  used = used_from [] (map (meant m) types);
  classes = class_names units;
  element = length m.classes;
}

abbrev pub metamodel_at : List (Option ℕ) → Option ℕ → Option ℕ
metamodel_at ks None = None
metamodel_at ks (Some i) = slice_index_or ks i None

-- the metamodel of the first model type of this name
abbrev pub model_type_metamodel : NamedTypes → List ℕ → Option ℕ
model_type_metamodel t name = metamodel_at t.metamodels (position (bytes_eq name) t.model_types)
