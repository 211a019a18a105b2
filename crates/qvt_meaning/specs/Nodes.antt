-- What typing wrote on the nodes of a text: places, notes, types (OCL 2.4, 7; QVT 1.3, 8.2).
use Rattle.std.specs.Prelude.{ℕ, true, false, List, [], ◌∷◌, Option, Some, None}
use Rattle.std.specs.List.{flat_map}
use Rattle.qvt_base.specs.declared.numbers.MappingNo.{MappingNo}
use Rattle.qvt_base.specs.declared.numbers.Place.{Place}
use Rattle.qvt_types_data.specs.declared.note.Note.{Note}
use Rattle.qvt_types_data.specs.declared.note.Reading.{Reading}
use Rattle.qvt_types_data.specs.declared.note.Reading.TheVariants as reading
use Rattle.qvt_types_data.specs.declared.ty.Ty.{Ty}
use Rattle.qvt_types_data.specs.declared.ty.Ty.TheVariants as ty
use Rattle.qvt_types_nodes.specs.declared.types.TypedPathTree.{TypedPathTree}
use Rattle.qvt_types_nodes.specs.Tree.{TypedTypeTerm, TypedCollType, TypedPathType, TypedExprTerm, TypedIntExpr, TypedStrExpr, TypedBoolExpr, TypedNullExpr, TypedSelfExpr, TypedResultExpr, TypedPathExpr, TypedCallExpr, TypedCollExpr, TypedIfExpr, TypedObjectExpr, TypedNewExpr, TypedMapExpr, TypedResolveExpr, TypedChainExpr, TypedPrefixExpr, TypedPostExpr, TypedExprTerms, TypedNoExprs, TypedMoreExprs, TypedOptionalExpr, TypedNoExpr, TypedSomeExpr, TypedMapTerm, TypedMapOf, TypedResolveTerm, TypedResolveOf, TypedStepTerms, TypedNoSteps, TypedMoreSteps, TypedDotResolveStep, TypedArrowResolveStep}

-- where a node stands, and its note
pub record Mark : Type 0 where
  pub place : Place
  pub note : Note

abbrev pub mark : Place → Note → Mark
mark at n = record { place = at; note = n }

abbrev pub path_mark : TypedPathTree → Mark
path_mark p = mark p.place p.note

abbrev pub map_mark : TypedMapTerm → Mark
map_mark (TypedMapOf strict name es at n) = mark at n

abbrev pub resolve_mark : TypedResolveTerm → Mark
resolve_mark (TypedResolveOf late w within f at n) = mark at n

abbrev pub mark_of : TypedExprTerm → Mark
mark_of (TypedIntExpr v at n) = mark at n
mark_of (TypedStrExpr v at n) = mark at n
mark_of (TypedBoolExpr v at n) = mark at n
mark_of (TypedNullExpr at n) = mark at n
mark_of (TypedSelfExpr at n) = mark at n
mark_of (TypedResultExpr at n) = mark at n
mark_of (TypedPathExpr p) = path_mark p
mark_of (TypedCallExpr name es at n) = mark at n
mark_of (TypedCollExpr k is at n) = mark at n
mark_of (TypedIfExpr c y z at n) = mark at n
mark_of (TypedObjectExpr v p e ss at n) = mark at n
mark_of (TypedNewExpr p e es at n) = mark at n
mark_of (TypedMapExpr m) = map_mark m
mark_of (TypedResolveExpr r) = resolve_mark r
mark_of (TypedChainExpr l e ls at n) = mark at n
mark_of (TypedPrefixExpr ss e at n) = mark at n
mark_of (TypedPostExpr e ss at n) = mark at n

abbrev pub place_of : TypedExprTerm → Place
place_of e = (mark_of e).place

abbrev pub type_of : TypedExprTerm → Option Ty
type_of e = (mark_of e).note.answer

-- the types of arguments, if all have one
abbrev pub one_more : Option Ty → Option (List Ty) → Option (List Ty)
one_more (Some t) (Some ts) = Some (t ∷ ts)
one_more o os = None

abbrev pub types_of : TypedExprTerms → Option (List Ty)
types_of TypedNoExprs = Some []
types_of (TypedMoreExprs e es) = one_more (type_of e) (types_of es)

abbrev pub optional_type : TypedOptionalExpr → Option Ty
optional_type TypedNoExpr = None
optional_type (TypedSomeExpr e) = type_of e

abbrev pub optional_place : Place → TypedOptionalExpr → Place
optional_place at TypedNoExpr = at
optional_place at (TypedSomeExpr e) = place_of e

-- Types and classes as they are written.

abbrev pub typed_in : Reading → Option Ty
typed_in (reading.Typed t) = Some t
typed_in r = None

abbrev pub written_type : TypedTypeTerm → Option Ty
written_type (TypedCollType k t at n) = typed_in n.reading
written_type (TypedPathType p) = typed_in p.note.reading

abbrev pub class_in : Option Ty → Option ℕ
class_in (Some (ty.Class c)) = Some c.0
class_in t = None

-- the class that an argument names
abbrev pub class_named : TypedExprTerm → Option ℕ
class_named (TypedPathExpr p) = class_in (typed_in p.note.reading)
class_named e = None

abbrev pub class_argument : TypedExprTerms → Option ℕ
class_argument (TypedMoreExprs e TypedNoExprs) = class_named e
class_argument es = None

-- Readings.

abbrev pub mappings_in : Reading → List MappingNo
mappings_in (reading.Mappings ms) = ms
mappings_in r = []

-- the mappings that a list of paths names
abbrev pub mappings_named : List TypedPathTree → List MappingNo
mappings_named ps = flat_map (λ (p : TypedPathTree). mappings_in p.note.reading) ps

abbrev pub variable_in : Reading → Option (List ℕ)
variable_in (reading.Variable name) = Some name
variable_in r = None

-- the model that an expression is the name of
abbrev pub model_in : Reading → Option ℕ
model_in (reading.Model i) = Some i
model_in r = None

abbrev pub model_named : TypedExprTerm → Option ℕ
model_named (TypedPathExpr p) = model_in p.note.reading
model_named e = None

-- Late resolves.

abbrev pub late_in : TypedResolveTerm → Option TypedResolveTerm
late_in (TypedResolveOf true w within f at n) = Some (TypedResolveOf true w within f at n)
late_in (TypedResolveOf false w within f at n) = None

-- the late resolve that is the last of the steps
abbrev pub last_late : TypedStepTerms → Option TypedResolveTerm
last_late TypedNoSteps = None
last_late (TypedMoreSteps (TypedDotResolveStep r) TypedNoSteps) = late_in r
last_late (TypedMoreSteps (TypedArrowResolveStep r) TypedNoSteps) = late_in r
last_late (TypedMoreSteps s TypedNoSteps) = None
last_late (TypedMoreSteps s (TypedMoreSteps t ss)) = last_late (TypedMoreSteps t ss)

-- the late resolve that the whole expression is
abbrev pub late_of : TypedExprTerm → Option TypedResolveTerm
late_of (TypedResolveExpr r) = late_in r
late_of (TypedPostExpr e ss at n) = last_late ss
late_of e = None
