-- The units of a transformation, and the transformation itself, without their notes.
use Rattle.std.specs.Prelude.{List, map, Option, Some, None}
use Rattle.qvt_tree_types.specs.declared.types.PathTree.{PathTree}
use Rattle.qvt_tree_types.specs.declared.module.ResultDecl.{ResultDecl}
use Rattle.qvt_tree_types.specs.declared.module.ModelType.{ModelType}
use Rattle.qvt_tree_types.specs.declared.module.ModelParam.{ModelParam}
use Rattle.qvt_tree_types.specs.Module.{TypedName, ClassTerm, HelperTerm, MappingTerm, UnitTerm, ClassOf, MainOf, HelperOf, ConstructorOf, MappingOf, ModuleTerm}
use Rattle.qvt_types_nodes.specs.declared.types.TypedPathTree.{TypedPathTree}
use Rattle.qvt_types_nodes.specs.declared.module.TypedResultDecl.{TypedResultDecl}
use Rattle.qvt_types_nodes.specs.declared.module.TypedModelType.{TypedModelType}
use Rattle.qvt_types_nodes.specs.declared.module.TypedModelParam.{TypedModelParam}
use Rattle.qvt_types_nodes.specs.Module.{TypedMember, TypedClassTerm, TypedHelperTerm, TypedMappingTerm, TypedUnitTerm, TypedClassOf, TypedMainOf, TypedHelperOf, TypedConstructorOf, TypedMappingOf, TypedModuleTerm}
use Rattle.qvt_types_nodes.specs.Strip.{strip_path, strip_type, strip_optional_type, strip_optional_expr, strip_stmts}

abbrev pub strip_paths : List TypedPathTree → List PathTree
strip_paths paths = map strip_path paths

abbrev pub strip_member : TypedMember → TypedName
strip_member m = record { name = m.name; kind = strip_type m.kind; place = m.place }

abbrev pub strip_class : TypedClassTerm → ClassTerm
strip_class c = record { name = c.name; supers = strip_paths c.supers; features = map strip_member c.features; place = c.place }

abbrev pub strip_helper : TypedHelperTerm → HelperTerm
strip_helper h = record { pure = h.pure; path = h.path; params = map strip_member h.params; answer = strip_optional_type h.answer; body = strip_stmts h.body; place = h.place }

abbrev pub strip_result : Option TypedResultDecl → Option ResultDecl
strip_result None = None
strip_result (Some r) = Some (record { path = strip_path r.path; extent = r.extent; place = r.place })

abbrev pub strip_mapping : TypedMappingTerm → MappingTerm
strip_mapping m = record {
  path = m.path;
  params = map strip_member m.params;
  result_decl = strip_result m.result_decl;
  inherits = strip_paths m.inherits;
  merges = strip_paths m.merges;
  disjuncts = strip_paths m.disjuncts;
  condition = strip_optional_expr m.condition;
  init = strip_stmts m.init;
  population = strip_stmts m.population;
  finish = strip_stmts m.finish;
  place = m.place;
}

abbrev pub strip_unit : TypedUnitTerm → UnitTerm
strip_unit (TypedClassOf c) = ClassOf (strip_class c)
strip_unit (TypedMainOf body place note) = MainOf (strip_stmts body) place
strip_unit (TypedHelperOf h) = HelperOf (strip_helper h)
strip_unit (TypedConstructorOf h) = ConstructorOf (strip_helper h)
strip_unit (TypedMappingOf m) = MappingOf (strip_mapping m)

abbrev pub strip_model_type : TypedModelType → ModelType
strip_model_type m = record { name = m.name; uri = m.uri; place = m.place }

abbrev pub strip_model_param : TypedModelParam → ModelParam
strip_model_param p = record { direction = p.direction; name = p.name; model_type = p.model_type; place = p.place }

abbrev pub strip : TypedModuleTerm → ModuleTerm
strip m = record { model_types = map strip_model_type m.model_types; name = m.name; params = map strip_model_param m.params; units = map strip_unit m.units; end = m.end }
