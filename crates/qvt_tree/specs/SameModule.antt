-- Whether two transformations have one shape, as a test.
use Rattle.std.specs.Prelude.{Bool, true, false, ◌&&◌, List, Option, Some, None}
use Rattle.std.specs.Bool.{beq}
use Rattle.std.specs.Str.{bytes_eq}
use Rattle.std.specs.Cmp.Lexicographic.{pointwise}
use Rattle.qvt_tree_types.specs.Module.{TypedName, ClassTerm, HelperTerm, MappingTerm, UnitTerm, ClassOf, MainOf, HelperOf, ConstructorOf, MappingOf, ModuleTerm}
use Rattle.qvt_tree_types.specs.declared.types.PathTree.{PathTree}
use Rattle.qvt_tree_types.specs.declared.module.ResultDecl.{ResultDecl}
use Rattle.qvt_tree_types.specs.declared.module.ModelType.{ModelType}
use Rattle.qvt_tree_types.specs.declared.module.ModelParam.{ModelParam}
use Rattle.qvt_tree.specs.SameWords.{same_direction}
use Rattle.qvt_tree.specs.Same.{same_names, same_path, same_optional_text, same_type, same_optional_type, same_optional_expr, same_stmts}

abbrev pub same_paths : List PathTree → List PathTree → Bool
same_paths = pointwise same_path

abbrev pub same_typed : TypedName → TypedName → Bool
same_typed a b = bytes_eq a.name b.name && same_type a.kind b.kind

abbrev pub same_typed_names : List TypedName → List TypedName → Bool
same_typed_names = pointwise same_typed

abbrev pub same_class : ClassTerm → ClassTerm → Bool
same_class a b = bytes_eq a.name b.name && same_paths a.supers b.supers && same_typed_names a.features b.features

abbrev pub same_helper : HelperTerm → HelperTerm → Bool
same_helper a b = beq a.pure b.pure && same_names a.path b.path && same_typed_names a.params b.params && same_optional_type a.answer b.answer && same_stmts a.body b.body

abbrev pub same_result : ResultDecl → ResultDecl → Bool
same_result a b = same_path a.path b.path && same_optional_text a.extent b.extent

abbrev pub same_optional_result : Option ResultDecl → Option ResultDecl → Bool
same_optional_result None None = true
same_optional_result (Some a) (Some b) = same_result a b
same_optional_result _ _ = false

-- what stands before the body
abbrev pub same_head_of : MappingTerm → MappingTerm → Bool
same_head_of a b = same_names a.path b.path && same_typed_names a.params b.params && same_optional_result a.result_decl b.result_decl

abbrev pub same_extras : MappingTerm → MappingTerm → Bool
same_extras a b = same_paths a.inherits b.inherits && same_paths a.merges b.merges && same_paths a.disjuncts b.disjuncts && same_optional_expr a.condition b.condition

abbrev pub same_body : MappingTerm → MappingTerm → Bool
same_body a b = same_stmts a.init b.init && same_stmts a.population b.population && same_stmts a.finish b.finish

abbrev pub same_mapping : MappingTerm → MappingTerm → Bool
same_mapping a b = same_head_of a b && same_extras a b && same_body a b

abbrev pub same_unit : UnitTerm → UnitTerm → Bool
same_unit (ClassOf a) (ClassOf b) = same_class a b
same_unit (MainOf a p) (MainOf b q) = same_stmts a b
same_unit (HelperOf a) (HelperOf b) = same_helper a b
same_unit (ConstructorOf a) (ConstructorOf b) = same_helper a b
same_unit (MappingOf a) (MappingOf b) = same_mapping a b
same_unit _ _ = false

abbrev pub same_units : List UnitTerm → List UnitTerm → Bool
same_units = pointwise same_unit

abbrev pub same_model_type : ModelType → ModelType → Bool
same_model_type a b = bytes_eq a.name b.name && bytes_eq a.uri b.uri

abbrev pub same_model_types : List ModelType → List ModelType → Bool
same_model_types = pointwise same_model_type

abbrev pub same_model_param : ModelParam → ModelParam → Bool
same_model_param a b = same_direction a.direction b.direction && bytes_eq a.name b.name && bytes_eq a.model_type b.model_type

abbrev pub same_model_params : List ModelParam → List ModelParam → Bool
same_model_params = pointwise same_model_param

unfoldable pub same_module : ModuleTerm → ModuleTerm → Bool
same_module a b = same_model_types a.model_types b.model_types && bytes_eq a.name b.name && same_model_params a.params b.params && same_units a.units b.units
