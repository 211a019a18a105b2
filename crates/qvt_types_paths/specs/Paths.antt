-- Types and literals by their paths (QVT 1.3, 8.2.1.6; OCL 2.4, 7.4 and 7.5.7).
use Rattle.std.specs.Prelude.{ℕ, ◌+◌, List, [], ◌∷◌, position, Option, Some, None, option_map, Result, Ok, Err, if◌then◌else◌, codes}
use Rattle.std.specs.Str.{bytes_eq}
use Rattle.qvt_base.specs.declared.numbers.ClassNo.{ClassNo}
use Rattle.qvt_base.specs.declared.numbers.Place.{Place}
use Rattle.qvt_metas.specs.Metamodels.{Metamodels}
use Rattle.qvt_metas.specs.Named.{class_named, enumeration_named, literal_named}
use Rattle.qvt_tree_types.specs.Tree.{TypeTerm, CollType, PathType}
use Rattle.qvt_tree_types.specs.declared.words.CollKind.{CollKind}
use Rattle.qvt_types_data.specs.declared.refusal.TypingRefusal.{TypingRefusal}
use Rattle.qvt_types_data.specs.declared.refusal.RefusalKind.{RefusalKind}
use Rattle.qvt_types_data.specs.declared.refusal.RefusalKind.TheVariants.{UnknownName, UnknownType, Ambiguous}
use Rattle.qvt_types_data.specs.declared.ty.Ty.{Ty, out-Ty}
use Rattle.qvt_types_data.specs.declared.ty.Ty.TheOpen.{Ty-F}
use Rattle.qvt_types_data.specs.declared.ty.Ty.TheVariants as ty
use Rattle.qvt_types_paths.specs.declared.paths.Met.{Met}
use Rattle.qvt_types_paths.specs.declared.paths.Met.TheVariants.{Nowhere, Once, Often}
use Rattle.qvt_value.specs.declared.value.LiteralRef.{LiteralRef}
use Rattle.qvt_types_paths.specs.ModelTypes.{NamedTypes, model_type_metamodel}

abbrev pub element_no : NamedTypes → ClassNo
element_no t = record { 0 = t.element }

-- the intermediate class at a place
abbrev pub intermediate_no : NamedTypes → ℕ → ClassNo
intermediate_no t i = record { 0 = t.element + (1 + i) }

abbrev pub class_or_enum : Metamodels → ℕ → List ℕ → Option ℕ → Option Ty
class_or_enum m k name (Some c) = Some (ty.Class (record { 0 = c }))
class_or_enum m k name None = option_map (ty.Enum k) (enumeration_named m k name)

-- the class or enumeration of a metamodel
abbrev pub type_in : Metamodels → ℕ → List ℕ → Option Ty
type_in m k name = class_or_enum m k name (class_named m k name)

-- the first intermediate class of this name
abbrev pub intermediate : NamedTypes → List ℕ → Option Ty
intermediate t name = option_map (λ i. ty.Class (intermediate_no t i)) (position (bytes_eq name) t.classes)

abbrev pub met_also : Met → Option Ty → Met
met_also met None = met
met_also Nowhere (Some T) = Once T
met_also (Once U) (Some T) = Often
met_also Often (Some T) = Often

unfoldable pub met_next : Metamodels → List ℕ → Met → ℕ → Met
met_next m name met k = met_also met (type_in m k name)

-- how often a type of this name is met in these metamodels too
abbrev pub met_in : Metamodels → List ℕ → Met → List ℕ → Met
met_in m name met [] = met
met_in m name met (k ∷ ks) = met_in m name (met_next m name met k) ks

abbrev pub known : Option Ty → Result Ty RefusalKind
known None = Err UnknownType
known (Some T) = Ok T

-- the types that need no metamodel
unfoldable pub basic_type : NamedTypes → List ℕ → Result Ty RefusalKind
basic_type t name =
    if bytes_eq name (codes "Boolean") then Ok ty.Boolean
    else if bytes_eq name (codes "Integer") then Ok ty.Integer
    else if bytes_eq name (codes "String") then Ok ty.Str
    else if bytes_eq name (codes "Element") then Ok (ty.Class (element_no t))
    else Err UnknownType

abbrev pub met_type : NamedTypes → List ℕ → Met → Result Ty RefusalKind
met_type t name Nowhere = basic_type t name
met_type t name (Once T) = Ok T
met_type t name Often = Err Ambiguous

-- a name alone: the one type of this name among the intermediate classes and in the used metamodels, else a basic one
unfoldable pub one_name : Metamodels → NamedTypes → List ℕ → Result Ty RefusalKind
one_name m t name = met_type t name (met_in m name (met_also Nowhere (intermediate t name)) t.used)

abbrev pub type_of_model : Metamodels → List ℕ → Option ℕ → Result Ty RefusalKind
type_of_model m name None = Err UnknownType
type_of_model m name (Some k) = known (type_in m k name)

-- a model type, and a name in its metamodel
unfoldable pub two_names : Metamodels → NamedTypes → List ℕ → List ℕ → Result Ty RefusalKind
two_names m t model name = type_of_model m name (model_type_metamodel t model)

-- the type that a path names
abbrev pub path_type : Metamodels → NamedTypes → List (List ℕ) → Result Ty RefusalKind
path_type m t [] = Err UnknownType
path_type m t (a ∷ []) = one_name m t a
path_type m t (a ∷ b ∷ []) = two_names m t a b
path_type m t (a ∷ b ∷ c ∷ more) = Err UnknownType

abbrev pub told_at : Place → Result Ty RefusalKind → Result Ty TypingRefusal
told_at at (Ok T) = Ok T
told_at at (Err kind) = Err (record { kind = kind; place = at })

abbrev pub collection : CollKind → Result Ty TypingRefusal → Result Ty TypingRefusal
collection kind (Ok T) = Ok (ty.Coll kind T)
collection kind (Err told) = Err told

-- the type that is written, or what is told of its path
abbrev pub written_type : Metamodels → NamedTypes → TypeTerm → Result Ty TypingRefusal
written_type m t (CollType kind item at) = collection kind (written_type m t item)
written_type m t (PathType path) = told_at path.place (path_type m t path.names)

abbrev pub class_in : Ty-F Ty → Result ClassNo RefusalKind
class_in (Ty-F.Class c) = Ok c
class_in _ = Err UnknownType

abbrev pub class_of_type : Result Ty RefusalKind → Result ClassNo RefusalKind
class_of_type (Ok T) = class_in (out-Ty T)
class_of_type (Err kind) = Err kind

-- the class that a path names
unfoldable pub path_class : Metamodels → NamedTypes → List (List ℕ) → Result ClassNo RefusalKind
path_class m t path = class_of_type (path_type m t path)

abbrev pub literal_found : ℕ → ℕ → Option ℕ → Result LiteralRef RefusalKind
literal_found k e None = Err UnknownName
literal_found k e (Some l) = Ok (record { metamodel = k; enumeration = e; literal = l })

abbrev pub literal_in : Metamodels → List ℕ → Ty-F Ty → Result LiteralRef RefusalKind
literal_in m name (Ty-F.Enum k e) = literal_found k e (literal_named m k e name)
literal_in m name _ = Err UnknownName

abbrev pub unless_ambiguous : RefusalKind → RefusalKind
unless_ambiguous Ambiguous = Ambiguous
unless_ambiguous _ = UnknownName

abbrev pub literal_of_type : Metamodels → List ℕ → Result Ty RefusalKind → Result LiteralRef RefusalKind
literal_of_type m name (Ok T) = literal_in m name (out-Ty T)
literal_of_type m name (Err kind) = Err (unless_ambiguous kind)

-- the literal that a path of two or three names is: an enumeration, and a name in it
abbrev pub path_literal : Metamodels → NamedTypes → List (List ℕ) → Result LiteralRef RefusalKind
path_literal m t (a ∷ b ∷ []) = literal_of_type m b (one_name m t a)
path_literal m t (a ∷ b ∷ c ∷ []) = literal_of_type m c (two_names m t a b)
path_literal m t _ = Err UnknownName
