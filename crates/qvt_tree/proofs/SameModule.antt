-- The test of one shape of transformations is true exactly where their shapes are equal.
use Rattle.std.proofs.Common.{◌≡◌, ◌↔◌, Bool, true, ◌&&◌, IsTrue, List, [], ◌∷◌, map, Option, Some, None, refl, sym, ap, ◌∙◌}
use Rattle.std.proofs.lemmas.Bool.{false≢true}
use Rattle.std.specs.Bool.{beq}
use Rattle.std.specs.Str.{bytes_eq}
use Rattle.std.specs.Cmp.Lexicographic.{pointwise}
use Rattle.qvt_tree_types.specs.Module.{TypedName, ClassTerm, HelperTerm, MappingTerm, UnitTerm, ClassOf, MainOf, HelperOf, ConstructorOf, MappingOf, ModuleTerm}
use Rattle.qvt_tree_types.specs.declared.module.ResultDecl.{ResultDecl}
use Rattle.qvt_tree_types.specs.declared.module.ModelType.{ModelType}
use Rattle.qvt_tree_types.specs.declared.module.ModelParam.{ModelParam}
use Rattle.qvt_tree.specs.SameWords.{same_direction}
use Rattle.qvt_tree.specs.Shape.{nowhere, erase_path}
use Rattle.qvt_tree.specs.ModuleShape.{erase_typed, erase_class, erase_helper, erase_result, erase_optional_result, erase_mapping, erase_unit, erase_model_type, erase_model_param, shape}
use Rattle.qvt_tree.specs.Same.{same_names, same_path, same_optional_text}
use Rattle.qvt_tree.specs.SameModule.{same_typed, same_class, same_helper, same_result, same_optional_result, same_head_of, same_extras, same_body, same_mapping, same_unit, same_model_type, same_model_param, same_module}
use Rattle.qvt_tree.proofs.Numbered.{and_left, and_right, and_both, direction_sound, direction_self}
use Rattle.qvt_tree.proofs.Same.{sound_path, sound_type, sound_optional_type, sound_optional_expr, sound_stmts, erased_path, erased_type, erased_optional_type, erased_optional_expr, erased_stmts, self_path, self_type, self_optional_type, self_optional_expr, self_stmts, text_sound, text_self, bool_sound, bool_self, names_sound, names_self, optional_text_sound, optional_text_self}

sound_list : {A : Type 0} (test : A → A → Bool) (f : A → A) → ((x y : A) → test x y ≡ true → f x ≡ f y) → (xs ys : List A) → pointwise test xs ys ≡ true → map f xs ≡ map f ys
sound_list test f one [] [] h = refl
sound_list test f one [] (y ∷ ys) h = absurd (false≢true h)
sound_list test f one (x ∷ xs) [] h = absurd (false≢true h)
sound_list test f one (x ∷ xs) (y ∷ ys) h = λ i. one x y (and_left _ _ h) i ∷ sound_list test f one xs ys (and_right _ _ h) i

erased_list : {A : Type 0} (test : A → A → Bool) (f : A → A) → ((x y : A) → test (f x) (f y) ≡ test x y) → (xs ys : List A) → pointwise test (map f xs) (map f ys) ≡ pointwise test xs ys
erased_list test f one [] [] = refl
erased_list test f one [] (y ∷ ys) = refl
erased_list test f one (x ∷ xs) [] = refl
erased_list test f one (x ∷ xs) (y ∷ ys) = λ i. one x y i && erased_list test f one xs ys i

self_list : {A : Type 0} (test : A → A → Bool) → ((x : A) → test x x ≡ true) → (xs : List A) → pointwise test xs xs ≡ true
self_list test one [] = refl
self_list test one (x ∷ xs) = and_both _ _ (one x) (self_list test one xs)

sound_typed : (x y : TypedName) → same_typed x y ≡ true → erase_typed x ≡ erase_typed y
sound_typed x y h = λ i. record { name = text_sound x.name y.name (and_left _ _ h) i; kind = sound_type x.kind y.kind (and_right _ _ h) i; place = nowhere }

erased_typed : (x y : TypedName) → same_typed (erase_typed x) (erase_typed y) ≡ same_typed x y
erased_typed x y = λ i. bytes_eq x.name y.name && erased_type x.kind y.kind i

self_typed : (x : TypedName) → same_typed x x ≡ true
self_typed x = and_both _ _ (text_self x.name) (self_type x.kind)

sound_class : (x y : ClassTerm) → same_class x y ≡ true → erase_class x ≡ erase_class y
sound_class x y h = λ i. record { name = text_sound x.name y.name (and_left _ _ (and_left _ _ h)) i; supers = sound_list same_path erase_path sound_path x.supers y.supers (and_right _ _ (and_left _ _ h)) i; features = sound_list same_typed erase_typed sound_typed x.features y.features (and_right _ _ h) i; place = nowhere }

erased_class : (x y : ClassTerm) → same_class (erase_class x) (erase_class y) ≡ same_class x y
erased_class x y = λ i. bytes_eq x.name y.name && erased_list same_path erase_path erased_path x.supers y.supers i && erased_list same_typed erase_typed erased_typed x.features y.features i

self_class : (x : ClassTerm) → same_class x x ≡ true
self_class x = and_both _ _ (and_both _ _ (text_self x.name) (self_list same_path self_path x.supers)) (self_list same_typed self_typed x.features)

sound_helper : (x y : HelperTerm) → same_helper x y ≡ true → erase_helper x ≡ erase_helper y
sound_helper x y h = λ i. record { pure = bool_sound x.pure y.pure (and_left _ _ (and_left _ _ (and_left _ _ (and_left _ _ h)))) i; path = names_sound x.path y.path (and_right _ _ (and_left _ _ (and_left _ _ (and_left _ _ h)))) i; params = sound_list same_typed erase_typed sound_typed x.params y.params (and_right _ _ (and_left _ _ (and_left _ _ h))) i; answer = sound_optional_type x.answer y.answer (and_right _ _ (and_left _ _ h)) i; body = sound_stmts x.body y.body (and_right _ _ h) i; place = nowhere }

erased_helper : (x y : HelperTerm) → same_helper (erase_helper x) (erase_helper y) ≡ same_helper x y
erased_helper x y = λ i. beq x.pure y.pure && same_names x.path y.path && erased_list same_typed erase_typed erased_typed x.params y.params i && erased_optional_type x.answer y.answer i && erased_stmts x.body y.body i

self_helper : (x : HelperTerm) → same_helper x x ≡ true
self_helper x = and_both _ _ (and_both _ _ (and_both _ _ (and_both _ _ (bool_self x.pure) (names_self x.path)) (self_list same_typed self_typed x.params)) (self_optional_type x.answer)) (self_stmts x.body)

sound_result : (x y : ResultDecl) → same_result x y ≡ true → erase_result x ≡ erase_result y
sound_result x y h = λ i. record { path = sound_path x.path y.path (and_left _ _ h) i; extent = optional_text_sound x.extent y.extent (and_right _ _ h) i; place = nowhere }

erased_result : (x y : ResultDecl) → same_result (erase_result x) (erase_result y) ≡ same_result x y
erased_result x y = λ i. erased_path x.path y.path i && same_optional_text x.extent y.extent

self_result : (x : ResultDecl) → same_result x x ≡ true
self_result x = and_both _ _ (self_path x.path) (optional_text_self x.extent)

sound_optional_result : (x y : Option ResultDecl) → same_optional_result x y ≡ true → erase_optional_result x ≡ erase_optional_result y
sound_optional_result None None h = refl
sound_optional_result (Some x) (Some y) h = ap Some (sound_result x y h)
sound_optional_result _ _ h = absurd (false≢true h)

erased_optional_result : (x y : Option ResultDecl) → same_optional_result (erase_optional_result x) (erase_optional_result y) ≡ same_optional_result x y
erased_optional_result None None = refl
erased_optional_result (Some x) (Some y) = erased_result x y
erased_optional_result _ _ = refl

self_optional_result : (x : Option ResultDecl) → same_optional_result x x ≡ true
self_optional_result None = refl
self_optional_result (Some x) = self_result x

sound_mapping : (x y : MappingTerm) → same_mapping x y ≡ true → erase_mapping x ≡ erase_mapping y
sound_mapping x y h =
    let before : same_head_of x y ≡ true = and_left _ _ (and_left _ _ h) in
    let extras : same_extras x y ≡ true = and_right _ _ (and_left _ _ h) in
    let body : same_body x y ≡ true = and_right _ _ h in
    λ i. record { path = names_sound x.path y.path (and_left _ _ (and_left _ _ before)) i; params = sound_list same_typed erase_typed sound_typed x.params y.params (and_right _ _ (and_left _ _ before)) i; result_decl = sound_optional_result x.result_decl y.result_decl (and_right _ _ before) i; inherits = sound_list same_path erase_path sound_path x.inherits y.inherits (and_left _ _ (and_left _ _ (and_left _ _ extras))) i; merges = sound_list same_path erase_path sound_path x.merges y.merges (and_right _ _ (and_left _ _ (and_left _ _ extras))) i; disjuncts = sound_list same_path erase_path sound_path x.disjuncts y.disjuncts (and_right _ _ (and_left _ _ extras)) i; condition = sound_optional_expr x.condition y.condition (and_right _ _ extras) i; init = sound_stmts x.init y.init (and_left _ _ (and_left _ _ body)) i; population = sound_stmts x.population y.population (and_right _ _ (and_left _ _ body)) i; finish = sound_stmts x.finish y.finish (and_right _ _ body) i; place = nowhere }

erased_mapping : (x y : MappingTerm) → same_mapping (erase_mapping x) (erase_mapping y) ≡ same_mapping x y
erased_mapping x y = λ i. (same_names x.path y.path && erased_list same_typed erase_typed erased_typed x.params y.params i && erased_optional_result x.result_decl y.result_decl i) && (erased_list same_path erase_path erased_path x.inherits y.inherits i && erased_list same_path erase_path erased_path x.merges y.merges i && erased_list same_path erase_path erased_path x.disjuncts y.disjuncts i && erased_optional_expr x.condition y.condition i) && (erased_stmts x.init y.init i && erased_stmts x.population y.population i && erased_stmts x.finish y.finish i)

self_mapping : (x : MappingTerm) → same_mapping x x ≡ true
self_mapping x = and_both _ _ (and_both _ _ (and_both _ _ (and_both _ _ (names_self x.path) (self_list same_typed self_typed x.params)) (self_optional_result x.result_decl)) (and_both _ _ (and_both _ _ (and_both _ _ (self_list same_path self_path x.inherits) (self_list same_path self_path x.merges)) (self_list same_path self_path x.disjuncts)) (self_optional_expr x.condition))) (and_both _ _ (and_both _ _ (self_stmts x.init) (self_stmts x.population)) (self_stmts x.finish))

sound_unit : (x y : UnitTerm) → same_unit x y ≡ true → erase_unit x ≡ erase_unit y
sound_unit (ClassOf x) (ClassOf y) h = ap ClassOf (sound_class x y h)
sound_unit (MainOf x p) (MainOf y q) h = λ i. MainOf (sound_stmts x y h i) nowhere
sound_unit (HelperOf x) (HelperOf y) h = ap HelperOf (sound_helper x y h)
sound_unit (ConstructorOf x) (ConstructorOf y) h = ap ConstructorOf (sound_helper x y h)
sound_unit (MappingOf x) (MappingOf y) h = ap MappingOf (sound_mapping x y h)
sound_unit _ _ h = absurd (false≢true h)

erased_unit : (x y : UnitTerm) → same_unit (erase_unit x) (erase_unit y) ≡ same_unit x y
erased_unit (ClassOf x) (ClassOf y) = erased_class x y
erased_unit (MainOf x p) (MainOf y q) = erased_stmts x y
erased_unit (HelperOf x) (HelperOf y) = erased_helper x y
erased_unit (ConstructorOf x) (ConstructorOf y) = erased_helper x y
erased_unit (MappingOf x) (MappingOf y) = erased_mapping x y
erased_unit _ _ = refl

self_unit : (x : UnitTerm) → same_unit x x ≡ true
self_unit (ClassOf x) = self_class x
self_unit (MainOf x p) = self_stmts x
self_unit (HelperOf x) = self_helper x
self_unit (ConstructorOf x) = self_helper x
self_unit (MappingOf x) = self_mapping x

sound_model_type : (x y : ModelType) → same_model_type x y ≡ true → erase_model_type x ≡ erase_model_type y
sound_model_type x y h = λ i. record { name = text_sound x.name y.name (and_left _ _ h) i; uri = text_sound x.uri y.uri (and_right _ _ h) i; place = nowhere }

erased_model_type : (x y : ModelType) → same_model_type (erase_model_type x) (erase_model_type y) ≡ same_model_type x y
erased_model_type x y = λ i. bytes_eq x.name y.name && bytes_eq x.uri y.uri

self_model_type : (x : ModelType) → same_model_type x x ≡ true
self_model_type x = and_both _ _ (text_self x.name) (text_self x.uri)

sound_model_param : (x y : ModelParam) → same_model_param x y ≡ true → erase_model_param x ≡ erase_model_param y
sound_model_param x y h = λ i. record { direction = direction_sound x.direction y.direction (and_left _ _ (and_left _ _ h)) i; name = text_sound x.name y.name (and_right _ _ (and_left _ _ h)) i; model_type = text_sound x.model_type y.model_type (and_right _ _ h) i; place = nowhere }

erased_model_param : (x y : ModelParam) → same_model_param (erase_model_param x) (erase_model_param y) ≡ same_model_param x y
erased_model_param x y = λ i. same_direction x.direction y.direction && bytes_eq x.name y.name && bytes_eq x.model_type y.model_type

self_model_param : (x : ModelParam) → same_model_param x x ≡ true
self_model_param x = and_both _ _ (and_both _ _ (direction_self x.direction) (text_self x.name)) (text_self x.model_type)

sound_module : (x y : ModuleTerm) → same_module x y ≡ true → shape x ≡ shape y
unfolding same_module shape
sound_module x y h = λ i. record { model_types = sound_list same_model_type erase_model_type sound_model_type x.model_types y.model_types (and_left _ _ (and_left _ _ (and_left _ _ h))) i; name = text_sound x.name y.name (and_right _ _ (and_left _ _ (and_left _ _ h))) i; params = sound_list same_model_param erase_model_param sound_model_param x.params y.params (and_right _ _ (and_left _ _ h)) i; units = sound_list same_unit erase_unit sound_unit x.units y.units (and_right _ _ h) i; end = nowhere }

erased_module : (x y : ModuleTerm) → same_module (shape x) (shape y) ≡ same_module x y
unfolding same_module shape
erased_module x y = λ i. erased_list same_model_type erase_model_type erased_model_type x.model_types y.model_types i && bytes_eq x.name y.name && erased_list same_model_param erase_model_param erased_model_param x.params y.params i && erased_list same_unit erase_unit erased_unit x.units y.units i

self_module : (x : ModuleTerm) → same_module x x ≡ true
unfolding same_module shape
self_module x = and_both _ _ (and_both _ _ (and_both _ _ (self_list same_model_type self_model_type x.model_types) (text_self x.name)) (self_list same_model_param self_model_param x.params)) (self_list same_unit self_unit x.units)

pub same_of_shape : (x y : ModuleTerm) → shape x ≡ shape y → same_module x y ≡ true
same_of_shape x y h = sym (erased_module x y) ∙ ap (λ z. same_module (shape x) z) (sym h) ∙ self_module (shape x)

pub is_same : (x y : ModuleTerm) → IsTrue (same_module x y) ↔ (shape x ≡ shape y)
is_same x y = (λ h. sound_module x y h, λ h. same_of_shape x y h)
