-- What the types of properties and the paths of superclasses name is there.
use Rattle.std.proofs.Common.{◌≡◌, ◌∙◌, ℕ, ◌+◌, ◌-◌, ◌<◌, List, [], ◌∷◌, length, map, Bool, true, false, ◌==◌, ◌&&◌, Option, Some, None, refl, ap, sym, subst, arith, position}
use Rattle.std.specs.Prelude.{nat_lt, option_map, Result, Ok, Err, IfSome, if◌then◌else◌, codes}
use Rattle.std.specs.List.{AllByRecursion, flat_map}
use Rattle.std.specs.Str.{bytes_eq}
use Rattle.std.proofs.lemmas.Bool.{ltb-true}
use Rattle.std.proofs.lemmas.List.{length-append}
use Rattle.qvt_base.specs.declared.numbers.ClassNo.{ClassNo}
use Rattle.qvt_metas.specs.Metamodels.{Metamodels}
use Rattle.qvt_metas.specs.Named.{metamodel_at, class_named, enumeration_named}
use Rattle.qvt_metamodel.specs.declared.info.ClassInfo.{ClassInfo}
use Rattle.qvt_metamodel.specs.declared.info.EnumInfo.{EnumInfo}
use Rattle.qvt_metamodel.specs.declared.info.FeatureShape.{FeatureShape}
use Rattle.qvt_metamodel.specs.declared.info.TypeKind.{TypeKind}
use Rattle.qvt_metamodel.specs.declared.info.TypeKind.TheVariants as kind
use Rattle.qvt_metamodel.proofs.Bools.{ap2}
use Rattle.qvt_tree_types.specs.Tree.{TypeTerm, CollType, PathType}
use Rattle.qvt_tree_types.specs.Module.{TypedName, UnitTerm, ClassOf, MainOf, HelperOf, ConstructorOf, MappingOf}
use Rattle.qvt_tree_types.specs.declared.types.PathTree.{PathTree}
use Rattle.qvt_tree_types.specs.declared.words.CollKind.{CollKind}
use Rattle.qvt_types_data.specs.declared.refusal.TypingRefusal.{TypingRefusal}
use Rattle.qvt_types_data.specs.declared.refusal.RefusalKind.{RefusalKind}
use Rattle.qvt_types_data.specs.declared.refusal.RefusalKind.TheVariants.{UnknownType}
use Rattle.qvt_types_data.specs.declared.ty.Ty.{Ty, out-Ty, out-roll-Ty}
use Rattle.qvt_types_data.specs.declared.ty.Ty.TheOpen.{Ty-F}
use Rattle.qvt_types_data.specs.declared.ty.Ty.TheVariants as ty
use Rattle.qvt_types_paths.specs.ModelTypes.{NamedTypes, class_name, class_names, model_type_metamodel}
use Rattle.qvt_types_paths.specs.Paths.{basic_type, class_in, class_of_type, class_or_enum, collection, element_no, intermediate, intermediate_no, known, met_also, met_in, met_next, met_type, one_name, path_class, path_type, told_at, two_names, type_in, type_of_model, written_type}
use Rattle.qvt_types_paths.specs.declared.paths.Met.{Met}
use Rattle.qvt_types_paths.specs.declared.paths.Met.TheVariants.{Nowhere, Once, Often}
use Rattle.qvt_types_paths.proofs.Places.{position-below}
use Rattle.qvt_types_classes.specs.declared.declared.Declared.{Declared}
use Rattle.qvt_types_classes.specs.Written.{all_declared, declared, declared_in, list_of, many, place_of, property, property_of, property_shape, shape_in, shape_of_type, shape_or, super_place, type_place, value_kind}
use Rattle.qvt_types_classes.specs.Classes.{HaveSupers}
use Rattle.qvt_types_classes.proofs.Once.{all_append}

module _ (m : Metamodels) (t : NamedTypes) where
  -- the numbers inside a type are those of what is there, of Element or of an intermediate class
  abbrev pub IsThere : TypeKind → Type 0
  IsThere kind.Bool = Unit {0}
  IsThere kind.Int = Unit {0}
  IsThere kind.Str = Unit {0}
  IsThere (kind.Enum k e) = e < length (metamodel_at m k).enums
  IsThere (kind.Class c) = c.0 < t.element + (1 + length t.classes)

  -- a property that holds what is there, and neither contains nor needs anything
  abbrev pub IsFine : FeatureShape → Type 0
  IsFine s = (s.containment ≡ false) × (s.lower ≡ 0) × IsThere s.kind

  abbrev KindThere : Option TypeKind → Type 0
  KindThere None = Unit {0}
  KindThere (Some k) = IsThere k

  -- a type that is no collection
  abbrev PlainThere : Ty-F Ty → Type 0
  PlainThere (Ty-F.Coll k T) = ⊥
  PlainThere (Ty-F.Enum k e) = e < length (metamodel_at m k).enums
  PlainThere (Ty-F.Class c) = c.0 < t.element + (1 + length t.classes)
  PlainThere Ty-F.Void = Unit {0}
  PlainThere Ty-F.Boolean = Unit {0}
  PlainThere Ty-F.Integer = Unit {0}
  PlainThere Ty-F.Str = Unit {0}

  abbrev OneThere : Ty → Type 0
  OneThere T = PlainThere (out-Ty T)

  abbrev TypeThere : Ty-F Ty → Type 0
  TypeThere (Ty-F.Coll k T) = KindThere (value_kind (out-Ty T))
  TypeThere (Ty-F.Enum k e) = e < length (metamodel_at m k).enums
  TypeThere (Ty-F.Class c) = c.0 < t.element + (1 + length t.classes)
  TypeThere Ty-F.Void = Unit {0}
  TypeThere Ty-F.Boolean = Unit {0}
  TypeThere Ty-F.Integer = Unit {0}
  TypeThere Ty-F.Str = Unit {0}

  abbrev SomeThere : Option Ty → Type 0
  SomeThere None = Unit {0}
  SomeThere (Some T) = OneThere T

  abbrev MetThere : Met → Type 0
  MetThere Nowhere = Unit {0}
  MetThere (Once T) = OneThere T
  MetThere Often = Unit {0}

  abbrev OkThere : {E : Type 0} → Result Ty E → Type 0
  OkThere (Ok T) = OneThere T
  OkThere (Err e) = Unit {0}

  class_there : (c : ClassNo) → c.0 < t.element + (1 + length t.classes) → OneThere (ty.Class c)
  class_there c l = subst PlainThere (sym (ap out-Ty (sym (ty.rolls-Class c)) ∙ out-roll-Ty (Ty-F.Class c))) l

  enum_there : (k e : ℕ) → e < length (metamodel_at m k).enums → OneThere (ty.Enum k e)
  enum_there k e l = subst PlainThere (sym (ap out-Ty (sym (ty.rolls-Enum k e)) ∙ out-roll-Ty (Ty-F.Enum k e))) l

  basic_is : (T : Ty) (x : Ty-F Ty) → out-Ty T ≡ x → PlainThere x → OneThere T
  basic_is T x e a = subst PlainThere (sym e) a

  module _ (above : t.element ≡ length m.classes) where
    type_in_there : (k : ℕ) (name : List ℕ) → SomeThere (type_in m k name)
    type_in_there k name = by (class_named m k name) (position-below (λ (c : ClassInfo). (c.metamodel == k) && bytes_eq name c.name) m.classes)
      where
        by : (o : Option ℕ) → IfSome o (λ i. i < length m.classes) → SomeThere (class_or_enum m k name o)
        by (Some c) l = class_there (record { 0 = c }) (omega (arith, l, above))
        by None l = other (enumeration_named m k name) (position-below (λ (e : EnumInfo). bytes_eq name e.name) (metamodel_at m k).enums)
          where
            other : (o : Option ℕ) → IfSome o (λ i. i < length (metamodel_at m k).enums) → SomeThere (option_map (ty.Enum k) o)
            other (Some e) l = enum_there k e l
            other None l = tt

    intermediate_there : (name : List ℕ) → SomeThere (intermediate t name)
    intermediate_there name = by (position (bytes_eq name) t.classes) (position-below (bytes_eq name) t.classes)
      where
        by : (o : Option ℕ) → IfSome o (λ i. i < length t.classes) → SomeThere (option_map (λ i. ty.Class (intermediate_no t i)) o)
        by (Some i) l = class_there (intermediate_no t i) (omega (arith, l))
        by None l = tt

    also_there : (met : Met) (o : Option Ty) → MetThere met → SomeThere o → MetThere (met_also met o)
    also_there met None a b = a
    also_there Nowhere (Some T) a b = b
    also_there (Once U) (Some T) a b = tt
    also_there Often (Some T) a b = tt

    next_there : (name : List ℕ) (met : Met) (k : ℕ) → MetThere met → MetThere (met_next m name met k)
    unfolding met_next
    next_there name met k a = also_there met (type_in m k name) a (type_in_there k name)

    met_there : (name : List ℕ) (met : Met) (ks : List ℕ) → MetThere met → MetThere (met_in m name met ks)
    met_there name met [] a = a
    met_there name met (k ∷ ks) a = met_there name (met_next m name met k) ks (next_there name met k a)

    basic_there : (name : List ℕ) → OkThere (basic_type t name)
    unfolding basic_type
    basic_there name = by (bytes_eq name (codes "Boolean")) (bytes_eq name (codes "Integer")) (bytes_eq name (codes "String")) (bytes_eq name (codes "Element"))
      where
        by : (a b c d : Bool) → OkThere (if a then Ok ty.Boolean else if b then Ok ty.Integer else if c then Ok ty.Str else if d then Ok (ty.Class (element_no t)) else Err UnknownType)
        by true b c d = basic_is ty.Boolean Ty-F.Boolean (ap out-Ty (sym ty.rolls-Boolean) ∙ out-roll-Ty Ty-F.Boolean) tt
        by false true c d = basic_is ty.Integer Ty-F.Integer (ap out-Ty (sym ty.rolls-Integer) ∙ out-roll-Ty Ty-F.Integer) tt
        by false false true d = basic_is ty.Str Ty-F.Str (ap out-Ty (sym ty.rolls-Str) ∙ out-roll-Ty Ty-F.Str) tt
        by false false false true = class_there (element_no t) (omega arith)
        by false false false false = tt

    type_there : (name : List ℕ) (met : Met) → MetThere met → OkThere (met_type t name met)
    type_there name Nowhere a = basic_there name
    type_there name (Once T) a = a
    type_there name Often a = tt

    one_there : (name : List ℕ) → OkThere (one_name m t name)
    unfolding one_name
    one_there name = type_there name (met_in m name (met_also Nowhere (intermediate t name)) t.used) (met_there name (met_also Nowhere (intermediate t name)) t.used (also_there Nowhere (intermediate t name) tt (intermediate_there name)))

    known_there : (o : Option Ty) → SomeThere o → OkThere (known o)
    known_there None a = tt
    known_there (Some T) a = a

    two_there : (a b : List ℕ) → OkThere (two_names m t a b)
    unfolding two_names
    two_there a b = by (model_type_metamodel t a)
      where
        by : (o : Option ℕ) → OkThere (type_of_model m b o)
        by None = tt
        by (Some k) = known_there (type_in m k b) (type_in_there k b)

    path_there : (path : List (List ℕ)) → OkThere (path_type m t path)
    path_there [] = tt
    path_there (a ∷ []) = one_there a
    path_there (a ∷ b ∷ []) = two_there a b
    path_there (a ∷ b ∷ c ∷ more) = tt

    -- the class that a path names
    abbrev ClassThere : Result ClassNo RefusalKind → Type 0
    ClassThere (Ok c) = c.0 < t.element + (1 + length t.classes)
    ClassThere (Err e) = Unit {0}

    class_in_there : (x : Ty-F Ty) → PlainThere x → ClassThere (class_in x)
    class_in_there (Ty-F.Class c) a = a
    class_in_there Ty-F.Void a = tt
    class_in_there Ty-F.Boolean a = tt
    class_in_there Ty-F.Integer a = tt
    class_in_there Ty-F.Str a = tt
    class_in_there (Ty-F.Enum k e) a = tt
    class_in_there (Ty-F.Coll k T) a = tt

    path_class_there : (path : List (List ℕ)) → ClassThere (path_class m t path)
    unfolding path_class
    path_class_there path = by (path_type m t path) (path_there path)
      where
        by : (r : Result Ty RefusalKind) → OkThere r → ClassThere (class_of_type r)
        by (Ok T) a = class_in_there (out-Ty T) a
        by (Err e) a = tt

    abbrev PlaceThere : Result ℕ RefusalKind → Type 0
    PlaceThere r = AllByRecursion (λ s. s < length t.classes) (list_of r)

    super_there : (path : PathTree) → PlaceThere (super_place m t path)
    unfolding super_place
    super_there path = by (path_class m t path.names) (path_class_there path.names)
      where
        by : (r : Result ClassNo RefusalKind) → ClassThere r → PlaceThere (place_of t r)
        by (Err e) a = tt
        by (Ok c) a = test (nat_lt t.element c.0) refl
          where
            test : (b : Bool) → nat_lt t.element c.0 ≡ b → PlaceThere (if b then Ok (c.0 - (t.element + 1)) else Err UnknownType)
            test true e = (let l : t.element < c.0 = ltb-true t.element c.0 e in omega (arith, l, a), tt)
            test false e = tt

    supers_there : (paths : List PathTree) → AllByRecursion (λ s. s < length t.classes) (flat_map (λ path. list_of (super_place m t path)) paths)
    supers_there [] = tt
    supers_there (path ∷ paths) =
        all_append (λ s. s < length t.classes) (list_of (super_place m t path)) (flat_map (λ path. list_of (super_place m t path)) paths) (super_there path) (supers_there paths)

    -- types as they are written
    abbrev WrittenThere : Result Ty TypingRefusal → Type 0
    WrittenThere (Ok T) = TypeThere (out-Ty T)
    WrittenThere (Err e) = Unit {0}

    item_there : (x : Ty-F Ty) → TypeThere x → KindThere (value_kind x)
    item_there (Ty-F.Coll k T) a = tt
    item_there Ty-F.Void a = a
    item_there Ty-F.Boolean a = a
    item_there Ty-F.Integer a = a
    item_there Ty-F.Str a = a
    item_there (Ty-F.Enum k e) a = a
    item_there (Ty-F.Class c) a = a

    collection_there : (k : CollKind) (T : Ty) → KindThere (value_kind (out-Ty T)) → TypeThere (out-Ty (ty.Coll k T))
    collection_there k T a = subst TypeThere (sym (ap out-Ty (sym (ty.rolls-Coll k T)) ∙ out-roll-Ty (Ty-F.Coll k T))) a

    plain_there : (x : Ty-F Ty) → PlainThere x → TypeThere x
    plain_there (Ty-F.Coll k T) a = absurd a
    plain_there Ty-F.Void a = a
    plain_there Ty-F.Boolean a = a
    plain_there Ty-F.Integer a = a
    plain_there Ty-F.Str a = a
    plain_there (Ty-F.Enum k e) a = a
    plain_there (Ty-F.Class c) a = a

    written_there : (w : TypeTerm) → WrittenThere (written_type m t w)
    written_there (CollType k item place) = by (written_type m t item) (written_there item)
      where
        by : (r : Result Ty TypingRefusal) → WrittenThere r → WrittenThere (collection k r)
        by (Ok T) a = collection_there k T (item_there (out-Ty T) a)
        by (Err e) a = tt
    written_there (PathType path) = by (path_type m t path.names) (path_there path.names)
      where
        by : (r : Result Ty RefusalKind) → OkThere r → WrittenThere (told_at path.place r)
        by (Ok T) a = plain_there (out-Ty T) a
        by (Err e) a = tt

    abbrev ShapeFine : Option FeatureShape → Type 0
    ShapeFine None = Unit {0}
    ShapeFine (Some s) = IsFine s

    many_fine : (k : CollKind) (o : Option TypeKind) → KindThere o → ShapeFine (option_map (many k) o)
    many_fine k None a = tt
    many_fine k (Some v) a = (refl, refl, a)

    shape_fine : (x : Ty-F Ty) → TypeThere x → ShapeFine (shape_in x)
    shape_fine (Ty-F.Coll k T) a = many_fine k (value_kind (out-Ty T)) a
    shape_fine Ty-F.Void a = tt
    shape_fine Ty-F.Boolean a = (refl, refl, tt)
    shape_fine Ty-F.Integer a = (refl, refl, tt)
    shape_fine Ty-F.Str a = (refl, refl, tt)
    shape_fine (Ty-F.Enum k e) a = (refl, refl, a)
    shape_fine (Ty-F.Class c) a = (refl, refl, a)

    abbrev FoundFine : Result FeatureShape TypingRefusal → Type 0
    FoundFine (Ok s) = IsFine s
    FoundFine (Err e) = Unit {0}

    property_shape_fine : (f : TypedName) → FoundFine (property_shape m t f)
    unfolding property_shape
    property_shape_fine f = by (written_type m t f.kind) (written_there f.kind)
      where
        or_fine : (o : Option FeatureShape) → ShapeFine o → FoundFine (shape_or (type_place f.kind) o)
        or_fine None a = tt
        or_fine (Some s) a = a

        by : (r : Result Ty TypingRefusal) → WrittenThere r → FoundFine (shape_of_type (type_place f.kind) r)
        by (Ok T) a = or_fine (shape_in (out-Ty T)) (shape_fine (out-Ty T) a)
        by (Err e) a = tt

    property_fine : (f : TypedName) → IsFine (property_of m t f).shape
    property_fine f = by (property_shape m t f) (property_shape_fine f)
      where
        by : (r : Result FeatureShape TypingRefusal) → FoundFine r → IsFine (property f.name f.place r).shape
        by (Ok s) a = a
        by (Err e) a = (refl, refl, tt)

    properties_fine : (fs : List TypedName) → AllByRecursion (λ p. IsFine p.shape) (map (property_of m t) fs)
    properties_fine [] = tt
    properties_fine (f ∷ fs) = (property_fine f, properties_fine fs)

    -- the classes as they are written
    declared_fine : (u : UnitTerm) → AllByRecursion (λ d. AllByRecursion (λ p. IsFine p.shape) d.properties) (declared_in m t u)
    unfolding declared
    declared_fine (ClassOf c) = (properties_fine c.features, tt)
    declared_fine (MainOf body place) = tt
    declared_fine (HelperOf h) = tt
    declared_fine (ConstructorOf h) = tt
    declared_fine (MappingOf u) = tt

    pub written_fine : (us : List UnitTerm) → AllByRecursion (λ d. AllByRecursion (λ p. IsFine p.shape) d.properties) (all_declared m t us)
    written_fine [] = tt
    written_fine (u ∷ us) = all_append (λ (d : Declared). AllByRecursion (λ p. IsFine p.shape) d.properties) (declared_in m t u) (all_declared m t us) (declared_fine u) (written_fine us)

    declared_supers : (u : UnitTerm) → AllByRecursion (λ d. AllByRecursion (λ s. s < length t.classes) d.supers) (declared_in m t u)
    unfolding declared
    declared_supers (ClassOf c) = (supers_there c.supers, tt)
    declared_supers (MainOf body place) = tt
    declared_supers (HelperOf h) = tt
    declared_supers (ConstructorOf h) = tt
    declared_supers (MappingOf u) = tt

    written_supers : (us : List UnitTerm) → AllByRecursion (λ d. AllByRecursion (λ s. s < length t.classes) d.supers) (all_declared m t us)
    written_supers [] = tt
    written_supers (u ∷ us) = all_append (λ (d : Declared). AllByRecursion (λ s. s < length t.classes) d.supers) (declared_in m t u) (all_declared m t us) (declared_supers u) (written_supers us)

    -- there are as many of them as the names of intermediate classes
    name_count : (u : UnitTerm) → length (class_name u) ≡ length (declared_in m t u)
    name_count (ClassOf c) = refl
    name_count (MainOf body place) = refl
    name_count (HelperOf h) = refl
    name_count (ConstructorOf h) = refl
    name_count (MappingOf u) = refl

    names_count : (us : List UnitTerm) → length (class_names us) ≡ length (all_declared m t us)
    names_count [] = refl
    names_count (u ∷ us) =
        length-append (class_name u) (class_names us)
        ∙ ap2 (λ a b. a + b) (name_count u) (names_count us)
        ∙ sym (length-append (declared_in m t u) (all_declared m t us))

    pub as_many : (us : List UnitTerm) → t.classes ≡ class_names us → length t.classes ≡ length (all_declared m t us)
    as_many us e = ap length e ∙ names_count us

    pub have_supers : (us : List UnitTerm) → t.classes ≡ class_names us → HaveSupers (all_declared m t us)
    have_supers us e = subst (λ n. AllByRecursion (λ (d : Declared). AllByRecursion (λ s. s < n) d.supers) (all_declared m t us)) (as_many us e) (written_supers us)
