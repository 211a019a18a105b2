-- The units of a transformation with their notes, and the transformation itself, as plain data (QVT 1.3, 8.2.1).
use Rattle.std.specs.Prelude.{ℕ, Bool, List, map, Option, Some, None}
use Rattle.qvt_base.specs.declared.numbers.Place.{Place}
use Rattle.qvt_types_data.specs.declared.note.Note.{Note}
use Rattle.qvt_types_nodes.specs.Tree.{TypedTypeTerm, TypedOptionalExpr, TypedNoExpr, TypedSomeExpr, TypedStmtTerms}
use Rattle.qvt_types_nodes.specs.View.{typed_type_view, typed_optional_type, typed_expr_view, typed_block_view}
use Rattle.qvt_types_nodes.specs.declared.types.TypedPathTree.{TypedPathTree}
use Rattle.qvt_types_nodes.specs.declared.tree.TypedExpr.{TypedExpr}
use Rattle.qvt_types_nodes.specs.declared.module.TypedField.{TypedField}
use Rattle.qvt_types_nodes.specs.declared.module.TypedParam.{TypedParam}
use Rattle.qvt_types_nodes.specs.declared.module.TypedClassDecl.{TypedClassDecl}
use Rattle.qvt_types_nodes.specs.declared.module.TypedHelper.{TypedHelper}
use Rattle.qvt_types_nodes.specs.declared.module.TypedResultDecl.{TypedResultDecl}
use Rattle.qvt_types_nodes.specs.declared.module.TypedMapping.{TypedMapping}
use Rattle.qvt_types_nodes.specs.declared.module.TypedUnit as code
use Rattle.qvt_types_nodes.specs.declared.module.TypedUnit.TheVariants.{Class, Main, Helper, Constructor, Mapping}
use Rattle.qvt_types_nodes.specs.declared.module.TypedModelType.{TypedModelType}
use Rattle.qvt_types_nodes.specs.declared.module.TypedModelParam.{TypedModelParam}
use Rattle.qvt_types_nodes.specs.declared.module.TypedModule.{TypedModule}

-- a field of a class, or a parameter
pub record TypedMember : Type 0 where
  pub name : List ℕ
  pub kind : TypedTypeTerm
  pub place : Place
  pub note : Note

pub record TypedClassTerm : Type 0 where
  pub name : List ℕ
  pub supers : List TypedPathTree
  pub features : List TypedMember
  pub place : Place
  pub note : Note

pub record TypedHelperTerm : Type 0 where
  pub pure : Bool
  pub path : List (List ℕ)
  pub params : List TypedMember
  pub answer : Option TypedTypeTerm
  pub body : TypedStmtTerms
  pub place : Place
  pub note : Note

pub record TypedMappingTerm : Type 0 where
  pub path : List (List ℕ)
  pub params : List TypedMember
  pub result_decl : Option TypedResultDecl
  pub inherits : List TypedPathTree
  pub merges : List TypedPathTree
  pub disjuncts : List TypedPathTree
  pub condition : TypedOptionalExpr
  pub init : TypedStmtTerms
  pub population : TypedStmtTerms
  pub finish : TypedStmtTerms
  pub place : Place
  pub note : Note

pub data TypedUnitTerm : Type 0 where
  TypedClassOf : TypedClassTerm → TypedUnitTerm
  TypedMainOf : TypedStmtTerms → Place → Note → TypedUnitTerm
  TypedHelperOf : TypedHelperTerm → TypedUnitTerm
  TypedConstructorOf : TypedHelperTerm → TypedUnitTerm
  TypedMappingOf : TypedMappingTerm → TypedUnitTerm

pub record TypedModuleTerm : Type 0 where
  pub model_types : List TypedModelType
  pub name : List ℕ
  pub params : List TypedModelParam
  pub units : List TypedUnitTerm
  -- the place after the last character of its text
  pub end : Place

abbrev pub typed_field_view : TypedField → TypedMember
typed_field_view f = record { name = f.name; kind = typed_type_view f.kind; place = f.place; note = f.note }

abbrev pub typed_param_view : TypedParam → TypedMember
typed_param_view p = record { name = p.name; kind = typed_type_view p.kind; place = p.place; note = p.note }

abbrev pub typed_class_view : TypedClassDecl → TypedClassTerm
typed_class_view c = record { name = c.name; supers = c.supers; features = map typed_field_view c.features; place = c.place; note = c.note }

abbrev pub typed_helper_view : TypedHelper → TypedHelperTerm
typed_helper_view h = record { pure = h.pure; path = h.path; params = map typed_param_view h.params; answer = typed_optional_type h.answer; body = typed_block_view h.body; place = h.place; note = h.note }

abbrev pub typed_condition_view : Option TypedExpr → TypedOptionalExpr
typed_condition_view None = TypedNoExpr
typed_condition_view (Some e) = TypedSomeExpr (typed_expr_view e)

abbrev pub typed_mapping_view : TypedMapping → TypedMappingTerm
typed_mapping_view m = record {
  path = m.path;
  params = map typed_param_view m.params;
  result_decl = m.result;
  inherits = m.inherits;
  merges = m.merges;
  disjuncts = m.disjuncts;
  condition = typed_condition_view m.condition;
  init = typed_block_view m.init;
  population = typed_block_view m.population;
  finish = typed_block_view m.finish;
  place = m.place;
  note = m.note;
}

abbrev pub typed_unit_view : code.TypedUnit → TypedUnitTerm
typed_unit_view (Class c) = TypedClassOf (typed_class_view c)
typed_unit_view (Main body place note) = TypedMainOf (typed_block_view body) place note
typed_unit_view (Helper h) = TypedHelperOf (typed_helper_view h)
typed_unit_view (Constructor h) = TypedConstructorOf (typed_helper_view h)
typed_unit_view (Mapping m) = TypedMappingOf (typed_mapping_view m.value)

abbrev pub typed_module_view : TypedModule → TypedModuleTerm
typed_module_view m = record { model_types = m.model_types; name = m.name; params = m.params; units = map typed_unit_view m.units; end = m.end }
