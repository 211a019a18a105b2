-- The shape of a transformation: its tree without places.
use Rattle.std.specs.Prelude.{map, Option, Some, None}
use Rattle.qvt_tree_types.specs.Module.{TypedName, ClassTerm, HelperTerm, MappingTerm, UnitTerm, ClassOf, MainOf, HelperOf, ConstructorOf, MappingOf, ModuleTerm}
use Rattle.qvt_tree_types.specs.declared.module.ResultDecl.{ResultDecl}
use Rattle.qvt_tree_types.specs.declared.module.ModelType.{ModelType}
use Rattle.qvt_tree_types.specs.declared.module.ModelParam.{ModelParam}
use Rattle.qvt_tree.specs.Shape.{nowhere, erase_path, erase_type, erase_optional_type, erase_optional_expr, erase_stmts}

abbrev pub erase_typed : TypedName → TypedName
erase_typed t = record { name = t.name; kind = erase_type t.kind; place = nowhere }

abbrev pub erase_class : ClassTerm → ClassTerm
erase_class c = record { name = c.name; supers = map erase_path c.supers; features = map erase_typed c.features; place = nowhere }

abbrev pub erase_helper : HelperTerm → HelperTerm
erase_helper h = record { pure = h.pure; path = h.path; params = map erase_typed h.params; answer = erase_optional_type h.answer; body = erase_stmts h.body; place = nowhere }

abbrev pub erase_result : ResultDecl → ResultDecl
erase_result r = record { path = erase_path r.path; extent = r.extent; place = nowhere }

abbrev pub erase_optional_result : Option ResultDecl → Option ResultDecl
erase_optional_result None = None
erase_optional_result (Some r) = Some (erase_result r)

abbrev pub erase_mapping : MappingTerm → MappingTerm
erase_mapping m = record {
  path = m.path;
  params = map erase_typed m.params;
  result_decl = erase_optional_result m.result_decl;
  inherits = map erase_path m.inherits;
  merges = map erase_path m.merges;
  disjuncts = map erase_path m.disjuncts;
  condition = erase_optional_expr m.condition;
  init = erase_stmts m.init;
  population = erase_stmts m.population;
  finish = erase_stmts m.finish;
  place = nowhere;
}

abbrev pub erase_unit : UnitTerm → UnitTerm
erase_unit (ClassOf c) = ClassOf (erase_class c)
erase_unit (MainOf body place) = MainOf (erase_stmts body) nowhere
erase_unit (HelperOf h) = HelperOf (erase_helper h)
erase_unit (ConstructorOf h) = ConstructorOf (erase_helper h)
erase_unit (MappingOf m) = MappingOf (erase_mapping m)

abbrev pub erase_model_type : ModelType → ModelType
erase_model_type t = record { name = t.name; uri = t.uri; place = nowhere }

abbrev pub erase_model_param : ModelParam → ModelParam
erase_model_param p = record { direction = p.direction; name = p.name; model_type = p.model_type; place = nowhere }

unfoldable pub shape : ModuleTerm → ModuleTerm
shape m = record { model_types = map erase_model_type m.model_types; name = m.name; params = map erase_model_param m.params; units = map erase_unit m.units; end = nowhere }
