-- A transformation joined with notes, without them again.
use Rattle.std.proofs.Common.{◌≡◌, refl, List, [], ◌∷◌, map, Option, Some, None}
use Rattle.qvt_tree_types.specs.declared.types.PathTree.{PathTree}
use Rattle.qvt_tree_types.specs.declared.module.ResultDecl.{ResultDecl}
use Rattle.qvt_tree_types.specs.declared.module.ModelType.{ModelType}
use Rattle.qvt_tree_types.specs.declared.module.ModelParam.{ModelParam}
use Rattle.qvt_tree_types.specs.Module.{TypedName, ClassTerm, HelperTerm, MappingTerm, UnitTerm, ClassOf, MainOf, HelperOf, ConstructorOf, MappingOf, ModuleTerm}
use Rattle.qvt_types_data.specs.declared.note.Note.{Note}
use Rattle.qvt_types_laws.specs.Join.{NoteTaker, join_path, join_optional_type, join_optional_expr, join_stmts}
use Rattle.qvt_types_nodes.specs.StripModule.{strip_paths, strip_member, strip_class, strip_helper, strip_result, strip_mapping, strip_unit, strip_model_type, strip_model_param, strip}
use Rattle.qvt_types_laws.specs.JoinModule.{join_all, join_member, join_class, join_helper, join_result, join_mapping, join_unit, join_model_type, join_model_param, joined}
use Rattle.qvt_types_laws.proofs.Stripped.{same_path, same_type, same_optional_type, same_optional_expr, same_stmts}

same_all : {A B : Type 0} (p : A → NoteTaker B) (f : B → A) → ((x : A) (ns : List Note) → f (p x ns).0 ≡ x) → (xs : List A) (ns : List Note) → map f (join_all p xs ns).0 ≡ xs
same_all p f each [] ns = refl
same_all p f each (x ∷ xs) ns = λ j. each x ns j ∷ same_all p f each xs (p x ns).1 j

same_paths : (paths : List PathTree) (ns : List Note) → strip_paths (join_all join_path paths ns).0 ≡ paths
same_paths paths ns = same_all join_path _ same_path paths ns

same_member : (m : TypedName) (ns : List Note) → strip_member (join_member m ns).0 ≡ m
same_member m ns = λ j. record { name = m.name; kind = same_type m.kind ns j; place = m.place }

same_members : (ms : List TypedName) (ns : List Note) → map strip_member (join_all join_member ms ns).0 ≡ ms
same_members ms ns = same_all join_member strip_member same_member ms ns

same_class : (c : ClassTerm) (ns : List Note) → strip_class (join_class c ns).0 ≡ c
same_class c ns =
    let supers = (join_all join_path c.supers ns).1 in
    λ j. record { name = c.name; supers = same_paths c.supers ns j; features = same_members c.features supers j; place = c.place }

same_helper : (h : HelperTerm) (ns : List Note) → strip_helper (join_helper h ns).0 ≡ h
same_helper h ns =
    let params = (join_all join_member h.params ns).1 in
    let answer = (join_optional_type h.answer params).1 in
    λ j. record { pure = h.pure; path = h.path; params = same_members h.params ns j; answer = same_optional_type h.answer params j; body = same_stmts h.body answer j; place = h.place }

same_result : (o : Option ResultDecl) (ns : List Note) → strip_result (join_result o ns).0 ≡ o
same_result None ns = refl
same_result (Some r) ns = refl

same_mapping : (m : MappingTerm) (ns : List Note) → strip_mapping (join_mapping m ns).0 ≡ m
same_mapping m ns =
    let params = (join_all join_member m.params ns).1 in
    let decl = (join_result m.result_decl params).1 in
    let inherits = (join_all join_path m.inherits decl).1 in
    let merges = (join_all join_path m.merges inherits).1 in
    let disjuncts = (join_all join_path m.disjuncts merges).1 in
    let condition = (join_optional_expr m.condition disjuncts).1 in
    let init = (join_stmts m.init condition).1 in
    let population = (join_stmts m.population init).1 in
    λ j. record {
      path = m.path;
      params = same_members m.params ns j;
      result_decl = same_result m.result_decl params j;
      inherits = same_paths m.inherits decl j;
      merges = same_paths m.merges inherits j;
      disjuncts = same_paths m.disjuncts merges j;
      condition = same_optional_expr m.condition disjuncts j;
      init = same_stmts m.init condition j;
      population = same_stmts m.population init j;
      finish = same_stmts m.finish population j;
      place = m.place;
    }

same_unit : (u : UnitTerm) (ns : List Note) → strip_unit (join_unit u ns).0 ≡ u
same_unit (ClassOf c) ns = λ j. ClassOf (same_class c ns j)
same_unit (MainOf body place) ns = λ j. MainOf (same_stmts body ns j) place
same_unit (HelperOf h) ns = λ j. HelperOf (same_helper h ns j)
same_unit (ConstructorOf h) ns = λ j. ConstructorOf (same_helper h ns j)
same_unit (MappingOf m) ns = λ j. MappingOf (same_mapping m ns j)

same_model_type : (m : ModelType) (ns : List Note) → strip_model_type (join_model_type m ns).0 ≡ m
same_model_type m ns = refl

same_model_param : (p : ModelParam) (ns : List Note) → strip_model_param (join_model_param p ns).0 ≡ p
same_model_param p ns = refl

pub same_module : (m : ModuleTerm) (ns : List Note) → strip (joined m ns) ≡ m
same_module m ns =
    let types = (join_all join_model_type m.model_types ns).1 in
    let params = (join_all join_model_param m.params types).1 in
    λ j. record {
      model_types = same_all join_model_type strip_model_type same_model_type m.model_types ns j;
      name = m.name;
      params = same_all join_model_param strip_model_param same_model_param m.params types j;
      units = same_all join_unit strip_unit same_unit m.units params j;
      end = m.end;
    }
