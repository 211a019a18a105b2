-- The units of a transformation and the transformation itself as plain data (QVT 1.3, 8.2.1).
use Rattle.std.specs.Prelude.{ℕ, Bool, List, map, Option, Some, None}
use Rattle.qvt_base.specs.declared.numbers.Place.{Place}
use Rattle.qvt_tree_types.specs.Tree.{TypeTerm, OptionalExpr, NoExpr, SomeExpr, StmtTerms}
use Rattle.qvt_tree_types.specs.View.{type_view, optional_type, expr_view, block_view}
use Rattle.qvt_tree_types.specs.declared.types.PathTree.{PathTree}
use Rattle.qvt_tree_types.specs.declared.tree.Expr.{Expr}
use Rattle.qvt_tree_types.specs.declared.module.Field.{Field}
use Rattle.qvt_tree_types.specs.declared.module.Param.{Param}
use Rattle.qvt_tree_types.specs.declared.module.ClassDecl.{ClassDecl}
use Rattle.qvt_tree_types.specs.declared.module.Helper.{Helper}
use Rattle.qvt_tree_types.specs.declared.module.ResultDecl.{ResultDecl}
use Rattle.qvt_tree_types.specs.declared.module.Mapping.{Mapping}
use Rattle.qvt_tree_types.specs.declared.module.Unit as code
use Rattle.qvt_tree_types.specs.declared.module.Unit.TheVariants.{Class, Main, Helper as HelperUnit, Constructor, Mapping as MappingUnit}
use Rattle.qvt_tree_types.specs.declared.module.ModelType.{ModelType}
use Rattle.qvt_tree_types.specs.declared.module.ModelParam.{ModelParam}
use Rattle.qvt_tree_types.specs.declared.module.Module.{Module}

-- a field of a class, or a parameter
pub record TypedName : Type 0 where
  pub name : List ℕ
  pub kind : TypeTerm
  pub place : Place

pub record ClassTerm : Type 0 where
  pub name : List ℕ
  pub supers : List PathTree
  pub features : List TypedName
  pub place : Place

pub record HelperTerm : Type 0 where
  pub pure : Bool
  pub path : List (List ℕ)
  pub params : List TypedName
  pub answer : Option TypeTerm
  pub body : StmtTerms
  pub place : Place

pub record MappingTerm : Type 0 where
  pub path : List (List ℕ)
  pub params : List TypedName
  pub result_decl : Option ResultDecl
  pub inherits : List PathTree
  pub merges : List PathTree
  pub disjuncts : List PathTree
  pub condition : OptionalExpr
  pub init : StmtTerms
  pub population : StmtTerms
  pub finish : StmtTerms
  pub place : Place

pub data UnitTerm : Type 0 where
  ClassOf : ClassTerm → UnitTerm
  MainOf : StmtTerms → Place → UnitTerm
  HelperOf : HelperTerm → UnitTerm
  ConstructorOf : HelperTerm → UnitTerm
  MappingOf : MappingTerm → UnitTerm

pub record ModuleTerm : Type 0 where
  pub model_types : List ModelType
  pub name : List ℕ
  pub params : List ModelParam
  pub units : List UnitTerm
  -- the place after the last character of its text
  pub end : Place

abbrev pub field_view : Field → TypedName
field_view f = record { name = f.name; kind = type_view f.kind; place = f.place }

abbrev pub param_view : Param → TypedName
param_view p = record { name = p.name; kind = type_view p.kind; place = p.place }

abbrev pub class_view : ClassDecl → ClassTerm
class_view c = record { name = c.name; supers = c.supers; features = map field_view c.features; place = c.place }

abbrev pub helper_view : Helper → HelperTerm
helper_view h = record { pure = h.pure; path = h.path; params = map param_view h.params; answer = optional_type h.answer; body = block_view h.body; place = h.place }

abbrev pub condition_view : Option Expr → OptionalExpr
condition_view None = NoExpr
condition_view (Some e) = SomeExpr (expr_view e)

abbrev pub mapping_view : Mapping → MappingTerm
mapping_view m = record {
  path = m.path;
  params = map param_view m.params;
  result_decl = m.result;
  inherits = m.inherits;
  merges = m.merges;
  disjuncts = m.disjuncts;
  condition = condition_view m.condition;
  init = block_view m.init;
  population = block_view m.population;
  finish = block_view m.finish;
  place = m.place;
}

abbrev pub unit_view : code.Unit → UnitTerm
unit_view (Class c) = ClassOf (class_view c)
unit_view (Main body place) = MainOf (block_view body) place
unit_view (HelperUnit h) = HelperOf (helper_view h)
unit_view (Constructor h) = ConstructorOf (helper_view h)
unit_view (MappingUnit m) = MappingOf (mapping_view m)

abbrev pub module_view : Module → ModuleTerm
module_view m = record { model_types = m.model_types; name = m.name; params = m.params; units = map unit_view m.units; end = m.end }
