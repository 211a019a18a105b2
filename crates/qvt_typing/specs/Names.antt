-- What a name in an expression stands for: a variable, else a model, else a property of the nearest implicit source that has it
-- (OCL 2.4, 7.4.3 and 7.6.1; QVT 1.3, 8.2.1).
use Rattle.std.specs.Prelude.{ℕ, Bool, true, false, List, [], ◌∷◌, ◌++◌, not, position, Option, Some, None, Result, Ok, Err, codes}
use Rattle.std.specs.Fmt.{decimal}
use Rattle.std.specs.List.{count_by}
use Rattle.std.specs.Str.{bytes_eq}
use Rattle.qvt_base.specs.declared.numbers.ClassNo.{ClassNo}
use Rattle.qvt_types_data.specs.Notes.{plain}
use Rattle.qvt_types_data.specs.declared.note.Reading.TheVariants as reading
use Rattle.qvt_types_data.specs.declared.refusal.RefusalKind.{RefusalKind}
use Rattle.qvt_types_data.specs.declared.refusal.RefusalKind.TheVariants as refusal
use Rattle.qvt_types_data.specs.declared.ruling.Read.{Read}
use Rattle.qvt_types_data.specs.declared.ruling.Ruling.{Ruling}
use Rattle.qvt_types_data.specs.declared.ruling.Ruling.TheVariants.{Holds, Fails, Silent}
use Rattle.qvt_types_data.specs.declared.ty.Ty.{Ty}
use Rattle.qvt_types_data.specs.declared.ty.Ty.TheVariants as ty
use Rattle.qvt_types_data.specs.declared.variable.Variable.{Variable}
use Rattle.qvt_types_data.specs.declared.variable.VariableSort.TheVariants as sort
use Rattle.qvt_types_units.specs.Paths.{path_literal}
use Rattle.qvt_types_states.specs.Scopes.{ScopeTerm, found}
use Rattle.qvt_types_states.specs.declared.scope.Known.{Known}
use Rattle.qvt_types_names.specs.Names.{model_or}
use Rattle.qvt_types_steps.specs.declared.classes.ClassPart.{ClassPart}
use Rattle.qvt_types_steps.specs.declared.classes.ClassPart.TheVariants as part
use Rattle.qvt_value.specs.declared.value.LiteralRef.{LiteralRef}
use Rattle.qvt_typing.specs.Context.{DeclaredHeads}

-- The names of what has none in a text.

abbrev pub self_name : List ℕ
self_name = codes "#self"

abbrev pub result_name : List ℕ
result_name = codes "#result"

-- an implicit source that is not `self`
abbrev pub is_unnamed : Variable → Bool
is_unnamed v = not (bytes_eq v.name self_name)

-- an iterator or a filter without a name, by how many of them stand around it
abbrev pub unnamed : ScopeTerm → List ℕ
unnamed s = codes "#" ++ decimal (count_by is_unnamed s.sources)

-- an implicit source
abbrev pub source : List ℕ → Option Ty → Variable
source name o = record { name = name; sort = sort.Implicit; ty = o }

abbrev pub class_type : ClassPart → Option Ty
class_type (part.Class c) = Some (ty.Class c)
class_type part.Untyped = None
class_type part.Missing = None

-- Types and classes by path.

abbrev pub type_ruled : Result Ty RefusalKind → Ruling
type_ruled (Ok T) = Holds (plain (reading.Typed T) (Some T))
type_ruled (Err kind) = Fails kind

abbrev pub class_ruled : Result ClassNo RefusalKind → Ruling
class_ruled (Ok c) = Holds (plain (reading.Typed (ty.Class c)) (Some (ty.Class c)))
class_ruled (Err kind) = Fails kind

abbrev pub class_found : Result ClassNo RefusalKind → ClassPart
class_found (Ok c) = part.Class c
class_found (Err kind) = part.Untyped

-- a class of which an object is made, in an extent if there is one
abbrev pub made_read : ClassNo → Option ℕ → Read
made_read c None = plain reading.Nothing (Some (ty.Class c))
made_read c (Some e) = plain (reading.Make c e) (Some (ty.Class c))

abbrev pub literal_ruled : Result LiteralRef RefusalKind → Ruling
literal_ruled (Ok l) = Holds (plain (reading.Literal l.metamodel l.enumeration l.literal) (Some (ty.Enum l.metamodel l.enumeration)))
literal_ruled (Err kind) = Fails kind

-- Variables.

abbrev pub variable_ruled : List ℕ → Option Ty → Ruling
variable_ruled name o = Holds (plain (reading.Variable name) o)

-- the variable that holds an object of a class
abbrev pub held_ruled : List ℕ → RefusalKind → ClassPart → Ruling
held_ruled name missing (part.Class c) = variable_ruled name (Some (ty.Class c))
held_ruled name missing part.Untyped = Silent
held_ruled name missing part.Missing = Fails missing

abbrev pub self_ruled : ClassPart → Ruling
self_ruled c = held_ruled self_name refusal.UnknownName c

abbrev pub result_ruled : ClassPart → Ruling
result_ruled c = held_ruled result_name refusal.ResultPlace c

-- A name alone.

abbrev pub model_named : DeclaredHeads → List ℕ → Option ℕ
model_named h name = position (bytes_eq name) h.models.names

abbrev pub known_or : List ℕ → Option Known → Ruling → Ruling
known_or name None otherwise = otherwise
known_or name (Some k) otherwise = variable_ruled name k.ty

-- a model stands as the source of a model's operation alone, and has no type
unfoldable pub name_ruled : DeclaredHeads → Bool → ScopeTerm → List ℕ → Ruling
name_ruled h is_source s name = known_or name (found name s) (model_or h.metas h.first h.flags is_source s.sources name (model_named h name))

-- a path of more names is a literal
abbrev pub path_ruled : DeclaredHeads → Bool → ScopeTerm → List (List ℕ) → Ruling
path_ruled h is_source s (a ∷ []) = name_ruled h is_source s a
path_ruled h is_source s path = literal_ruled (path_literal h.given h.types path)

abbrev pub is_model : Option Known → Option ℕ → Bool
is_model None (Some i) = true
is_model None None = false
is_model (Some k) o = false

-- the path is the name of a model, and of no variable
abbrev pub names_model : DeclaredHeads → ScopeTerm → List (List ℕ) → Bool
names_model h s (a ∷ []) = is_model (found a s) (model_named h a)
names_model h s path = false
