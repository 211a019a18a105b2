-- Small programs over a metamodel with one class C, its attribute a and its reference b to a C, as typing leaves them: what typing notes is written out by hand.
use Rattle.std.specs.Prelude.{ℕ, ℤ, pos, Bool, true, false, List, [], ◌∷◌, ◌++◌, Option, Some, None, codes}
use Rattle.qvt_base.specs.declared.numbers.Place.{Place}
use Rattle.qvt_metamodel.specs.Metamodels.{Metamodels}
use Rattle.qvt_metamodel.specs.declared.info.TypeKind.TheVariants as kind
use Rattle.qvt_metamodel.specs.declared.info.ClassInfo.{ClassInfo}
use Rattle.qvt_metamodel.specs.declared.info.FeatureInfo.{FeatureInfo}
use Rattle.qvt_slots.specs.Contents.{Contents, Instance}
use Rattle.qvt_tree_types.specs.declared.words.BinaryOp.{BinaryOp}
use Rattle.qvt_tree_types.specs.declared.words.Level.TheVariants as level
use Rattle.qvt_tree_types.specs.declared.words.ResolveWord.TheVariants as word
use Rattle.qvt_types_data.specs.declared.note.Note.{Note}
use Rattle.qvt_types_data.specs.declared.note.Reading.{Reading}
use Rattle.qvt_types_data.specs.declared.note.Reading.TheVariants as reading
use Rattle.qvt_types_data.specs.declared.ty.Ty.{Ty}
use Rattle.qvt_types_data.specs.declared.ty.Ty.TheVariants as ty
use Rattle.qvt_types_nodes.specs.declared.types.TypedPathTree.{TypedPathTree}
use Rattle.qvt_types_nodes.specs.Module.{TypedMappingTerm, TypedMainOf, TypedMappingOf}
use Rattle.qvt_types_nodes.specs.Tree.{TypedPathType, TypedResolveExpr, TypedResolveOf, TypedFilterOf, TypedExprTerm, TypedIntExpr, TypedBoolExpr, TypedSelfExpr, TypedIfExpr, TypedObjectExpr, TypedChainExpr, TypedPostExpr, TypedNoExprs, TypedMoreExprs, TypedNoExpr, TypedSomeArgs, TypedLinkOf, TypedNoLinks, TypedMoreLinks, TypedMapOf, TypedDotStep, TypedDotMapStep, TypedNoSteps, TypedMoreSteps, TypedBareTarget, TypedMemberTarget, TypedStmtTerm, TypedAssignStmt, TypedValueStmt, TypedWhileStmt, TypedStmtTerms, TypedNoStmts, TypedMoreStmts}
use Rattle.qvt_types_units.specs.Numbers.{no_unit}
use Rattle.qvt_types_units.specs.declared.signature.HeadClass.TheVariants as head
use Rattle.qvt_types_units.specs.declared.signature.Signature.{Signature}
use Rattle.qvt_types_units.specs.declared.signature.UnitSort.TheVariants as sort
use Rattle.qvt_typing.specs.Accepts.{ProgramTerm}
use Rattle.qvt_value.specs.declared.value.Value.{Int, Obj}

abbrev pub at : ℕ → Place
at c = record { line = 3; column = c; offset = c }

abbrev pub noted : Reading → Option Ty → Note
noted r t = record { reading = r; source = None; wrap = false; collect = false; number = None; answer = t }

abbrev pub bare : Note
bare = noted reading.Nothing None

abbrev pub path : Reading → Option Ty → ℕ → TypedPathTree
path r t c = record { names = []; place = at c; note = noted r t }

-- The metamodel, and the class above all classes.

abbrev pub class_c : ClassInfo
class_c = record { metamodel = 0; name = codes "C"; is_abstract = false; supers = []; own = record { 0 = 0 } ∷ record { 0 = 1 } ∷ [] }

abbrev pub element : ClassInfo
element = record { metamodel = 1; name = codes "Element"; is_abstract = true; supers = []; own = [] }

abbrev pub feature_a : FeatureInfo
feature_a = record { owner = record { 0 = 0 }; name = codes "a"; shape = record { kind = kind.Int; lower = 0; upper = Some 1; ordered = false; unique = true; containment = false }; opposite = None }

abbrev pub feature_b : FeatureInfo
feature_b = record { owner = record { 0 = 0 }; name = codes "b"; shape = record { kind = kind.Class (record { 0 = 0 }); lower = 0; upper = Some 1; ordered = false; unique = true; containment = false }; opposite = None }

abbrev pub metas : Metamodels
metas = record {
  metamodels = record { name = codes "M"; uri = None; enums = [] } ∷ record { name = []; uri = None; enums = [] } ∷ [];
  classes = class_c ∷ element ∷ [];
  features = feature_a ∷ feature_b ∷ [];
  element = Some (record { 0 = 1 });
}

-- The store: a model t, and the intermediate instances.

abbrev pub store : List Instance → Contents
store os = record {
  metas = metas;
  extents = record { name = codes "t"; metamodel = 0; writable = true } ∷ record { name = []; metamodel = 1; writable = true } ∷ [];
  objects = os;
}

abbrev pub object_with : ℤ → Instance
object_with z = record { class = 0; extent = 0; slots = (Int z ∷ []) ∷ [] ∷ [] }

abbrev pub object_to : ℕ → Instance
object_to o = record { class = 0; extent = 0; slots = [] ∷ (Obj (record { 0 = o }) ∷ []) ∷ [] }

-- A program with this `main`.

abbrev pub program : TypedStmtTerms → ProgramTerm
program ss = record {
  module_ = record { model_types = []; name = []; params = []; units = TypedMainOf ss (at 1) bare ∷ []; end = at 0 };
  heads = record {
    given = metas;
    metas = metas;
    types = record { model_types = []; metamodels = []; used = []; classes = []; element = 1 };
    models = record { names = codes "t" ∷ []; rows = record { written = true; metamodel = Some 0 } ∷ []; firsts = Some 0 ∷ [] };
    units = no_unit ∷ [];
    first = 2;
    flags = [];
  };
}

abbrev pub int : ℤ → ℕ → TypedExprTerm
int z c = TypedIntExpr z (at c) (noted reading.Nothing (Some ty.Integer))

abbrev pub truth : Bool → ℕ → TypedExprTerm
truth b c = TypedBoolExpr b (at c) (noted reading.Nothing (Some ty.Boolean))

abbrev pub chain : TypedExprTerm → BinaryOp → ℕ → TypedExprTerm → Ty → TypedExprTerm
chain a o c b t = TypedChainExpr level.Sum a (TypedMoreLinks (TypedLinkOf o b (at c) bare) TypedNoLinks) (at c) (noted reading.Nothing (Some t))

-- `a.div(b)`, its step at c
abbrev pub divided : TypedExprTerm → ℕ → TypedExprTerm → TypedExprTerm
divided a c b = TypedPostExpr a (TypedMoreSteps (TypedDotStep (codes "div") (TypedSomeArgs (TypedMoreExprs b TypedNoExprs)) (at c) (noted (reading.Operation (codes "div")) None)) TypedNoSteps) (at c) (noted reading.Nothing (Some ty.Integer))

abbrev pub conditional : TypedExprTerm → TypedExprTerm → TypedExprTerm → TypedExprTerm
conditional c y z = TypedIfExpr c y z (at 25) (noted reading.Nothing (Some ty.Integer))

-- `object C { a := v; };`
abbrev pub object_of : TypedExprTerm → TypedStmtTerm
object_of v = TypedValueStmt (TypedObjectExpr None (path reading.Nothing None 17) None
    (TypedMoreStmts (TypedAssignStmt (TypedBareTarget (codes "a") (at 21) (noted (reading.Feature (record { 0 = 0 })) None)) false v (at 23) bare) TypedNoStmts)
    (at 10) (noted (reading.Make (record { 0 = 0 }) 0) (Some (ty.Class (record { 0 = 0 }))))) (at 10) bare

abbrev pub only : TypedStmtTerm → TypedStmtTerms
only s = TypedMoreStmts s TypedNoStmts

-- `object C { a := v; };` alone
abbrev pub one_object : TypedExprTerm → ProgramTerm
one_object v = program (only (object_of v))

-- `while (b) { object C { a := 7; }; }`
abbrev pub looping : Bool → ProgramTerm
looping b = program (only (TypedWhileStmt (truth b 17) (only (object_of (int (pos 7) 26))) (at 10) bare))

-- `main() { object C { }.map m(); } mapping C::m() { self.a := 5; }`
abbrev pub empty_object : TypedExprTerm
empty_object = TypedObjectExpr None (path reading.Nothing None 17) None TypedNoStmts (at 10) (noted (reading.Make (record { 0 = 0 }) 0) (Some (ty.Class (record { 0 = 0 }))))

abbrev pub map_m : TypedExprTerm
map_m = TypedPostExpr empty_object (TypedMoreSteps (TypedDotMapStep (TypedMapOf false (codes "m") TypedNoExprs (at 27) (noted (reading.Mappings (record { 0 = 0 } ∷ [])) None))) TypedNoSteps) (at 10) (noted reading.Nothing (Some ty.Void))

abbrev pub mapping_m : TypedMappingTerm
mapping_m = record {
  path = codes "C" ∷ codes "m" ∷ [];
  params = [];
  result_decl = None;
  inherits = [];
  merges = [];
  disjuncts = [];
  condition = TypedNoExpr;
  init = TypedNoStmts;
  population = only (TypedAssignStmt (TypedMemberTarget (TypedSelfExpr (at 52) (noted (reading.Variable (codes "#self")) (Some (ty.Class (record { 0 = 0 }))))) (codes "a") (at 57) (noted (reading.Feature (record { 0 = 0 })) None)) false (int (pos 5) 62) (at 59) bare);
  finish = TypedNoStmts;
  place = at 44;
  note = bare;
}

abbrev pub signature_m : Signature
signature_m = record { sort = sort.Mapping (record { 0 = 0 }); name = codes "m"; context = head.Known (record { 0 = 0 }); params = []; answer = Some ty.Void; result = head.Missing; place = at 44 }

abbrev pub with_mapping : ProgramTerm → ProgramTerm
with_mapping p = record p {
  module_ = record p.module_ { units = p.module_.units ++ TypedMappingOf mapping_m ∷ [] };
  heads = record p.heads { units = p.heads.units ++ signature_m ∷ [] };
}

abbrev pub mapped : ProgramTerm
mapped = with_mapping (program (only (TypedValueStmt map_m (at 10) bare)))

-- `object C { b := late invresolveone(C); };`
abbrev pub late_object : TypedStmtTerm
late_object = TypedValueStmt (TypedObjectExpr None (path reading.Nothing None 107) None
    (TypedMoreStmts (TypedAssignStmt (TypedBareTarget (codes "b") (at 111) (noted (reading.Feature (record { 0 = 1 })) None)) false
    (TypedResolveExpr (TypedResolveOf true word.InvResolveOne None
    (TypedFilterOf None (TypedPathType (path (reading.Typed (ty.Class (record { 0 = 0 }))) (Some (ty.Class (record { 0 = 0 }))) 134)) TypedNoExpr (at 134) bare)
    (at 116) (noted reading.Nothing (Some (ty.Class (record { 0 = 0 }))))))
    (at 113) bare) TypedNoStmts)
    (at 100) (noted (reading.Make (record { 0 = 0 }) 0) (Some (ty.Class (record { 0 = 0 }))))) (at 100) bare

-- the late object first, the mapping after it
abbrev pub resolved_late : ProgramTerm
resolved_late = with_mapping (program (TypedMoreStmts late_object (only (TypedValueStmt map_m (at 10) bare))))
