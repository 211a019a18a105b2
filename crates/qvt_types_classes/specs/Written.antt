-- What intermediate classes declare (QVT 1.3, 8.2.1.1; EMOF 12.4): their superclasses, which are intermediate classes too, and
-- their properties.
use Rattle.std.specs.Prelude.{ℕ, ◌+◌, ◌-◌, nat_lt, Bool, true, false, List, [], ◌∷◌, ◌++◌, map, length, slice_index_or, Option, Some, None, option_map, Result, Ok, Err, if◌then◌else◌}
use Rattle.std.specs.List.{flat_map, range_with_len}
use Rattle.qvt_base.specs.declared.numbers.ClassNo.{ClassNo}
use Rattle.qvt_base.specs.declared.numbers.Place.{Place}
use Rattle.qvt_cycle.specs.Successors.{is_on_cycle}
use Rattle.qvt_metas.specs.Metamodels.{Metamodels, nowhere_shape}
use Rattle.qvt_metamodel.specs.Names.{is_among}
use Rattle.qvt_metamodel.specs.declared.info.FeatureShape.{FeatureShape}
use Rattle.qvt_metamodel.specs.declared.info.TypeKind.{TypeKind}
use Rattle.qvt_metamodel.specs.declared.info.TypeKind.TheVariants as kind
use Rattle.qvt_tree_types.specs.Tree.{TypeTerm, CollType, PathType}
use Rattle.qvt_tree_types.specs.Module.{TypedName, ClassTerm, UnitTerm, ClassOf, MainOf, HelperOf, ConstructorOf, MappingOf}
use Rattle.qvt_tree_types.specs.declared.types.PathTree.{PathTree}
use Rattle.qvt_tree_types.specs.declared.words.CollKind.{CollKind}
use Rattle.qvt_tree_types.specs.declared.words.CollKind.TheVariants as coll
use Rattle.qvt_types_data.specs.declared.refusal.TypingRefusal.{TypingRefusal}
use Rattle.qvt_types_data.specs.declared.refusal.RefusalKind.{RefusalKind}
use Rattle.qvt_types_data.specs.declared.refusal.RefusalKind.TheVariants.{UnknownType, SameName, WrongType, ReuseCycle}
use Rattle.qvt_types_data.specs.declared.ty.Ty.{Ty, out-Ty}
use Rattle.qvt_types_data.specs.declared.ty.Ty.TheOpen.{Ty-F}
use Rattle.qvt_types_paths.specs.ModelTypes.{NamedTypes, class_name}
use Rattle.qvt_types_paths.specs.Paths.{path_class, written_type}
use Rattle.qvt_types_paths.specs.Told.{told_if}
use Rattle.qvt_types_classes.specs.declared.declared.Property.{Property}
use Rattle.qvt_types_classes.specs.declared.declared.Declared.{Declared}

-- the place of an intermediate class; no other class is extended
abbrev pub place_of : NamedTypes → Result ClassNo RefusalKind → Result ℕ RefusalKind
place_of t (Ok c) = if nat_lt t.element c.0 then Ok (c.0 - (t.element + 1)) else Err UnknownType
place_of t (Err k) = Err k

unfoldable pub super_place : Metamodels → NamedTypes → PathTree → Result ℕ RefusalKind
super_place m t path = place_of t (path_class m t path.names)

abbrev pub list_of : {X E : Type 0} → Result X E → List X
list_of (Ok x) = x ∷ []
list_of (Err e) = []

abbrev pub told_of : {X : Type 0} → Place → Result X RefusalKind → List TypingRefusal
told_of at (Ok x) = []
told_of at (Err kind) = record { kind = kind; place = at } ∷ []

abbrev pub super_told : Metamodels → NamedTypes → PathTree → List TypingRefusal
super_told m t path = told_of path.place (super_place m t path)

-- the type of one value, where that is no collection
abbrev pub value_kind : Ty-F Ty → Option TypeKind
value_kind Ty-F.Boolean = Some kind.Bool
value_kind Ty-F.Integer = Some kind.Int
value_kind Ty-F.Str = Some kind.Str
value_kind (Ty-F.Enum k e) = Some (kind.Enum k e)
value_kind (Ty-F.Class c) = Some (kind.Class c)
value_kind Ty-F.Void = None
value_kind (Ty-F.Coll k T) = None

abbrev pub is_ordered : CollKind → Bool
is_ordered coll.Sequence = true
is_ordered coll.OrderedSet = true
is_ordered coll.Set = false
is_ordered coll.Bag = false

abbrev pub is_unique : CollKind → Bool
is_unique coll.Set = true
is_unique coll.OrderedSet = true
is_unique coll.Bag = false
is_unique coll.Sequence = false

-- a property of a collection type is multi-valued with the flags of the kind, any other has the upper bound 1
abbrev pub many : CollKind → TypeKind → FeatureShape
many k v = record { kind = v; lower = 0; upper = None; ordered = is_ordered k; unique = is_unique k; containment = false }

abbrev pub one : TypeKind → FeatureShape
one v = record { kind = v; lower = 0; upper = Some 1; ordered = false; unique = true; containment = false }

abbrev pub shape_in : Ty-F Ty → Option FeatureShape
shape_in (Ty-F.Coll k T) = option_map (many k) (value_kind (out-Ty T))
shape_in Ty-F.Void = None
shape_in Ty-F.Boolean = Some (one kind.Bool)
shape_in Ty-F.Integer = Some (one kind.Int)
shape_in Ty-F.Str = Some (one kind.Str)
shape_in (Ty-F.Enum k e) = Some (one (kind.Enum k e))
shape_in (Ty-F.Class c) = Some (one (kind.Class c))

-- the place of a type as it is written
abbrev pub type_place : TypeTerm → Place
type_place (CollType k item at) = at
type_place (PathType path) = path.place

abbrev pub shape_or : Place → Option FeatureShape → Result FeatureShape TypingRefusal
shape_or at None = Err (record { kind = WrongType; place = at })
shape_or at (Some s) = Ok s

abbrev pub shape_of_type : Place → Result Ty TypingRefusal → Result FeatureShape TypingRefusal
shape_of_type at (Ok T) = shape_or at (shape_in (out-Ty T))
shape_of_type at (Err told) = Err told

-- what a property holds: a collection of collections is WrongType
unfoldable pub property_shape : Metamodels → NamedTypes → TypedName → Result FeatureShape TypingRefusal
property_shape m t f = shape_of_type (type_place f.kind) (written_type m t f.kind)

abbrev pub property_told : Result FeatureShape TypingRefusal → List TypingRefusal
property_told (Ok s) = []
property_told (Err told) = told ∷ []

-- a property whose type is unknown is known by its name alone
abbrev pub property : List ℕ → Place → Result FeatureShape TypingRefusal → Property
property name at (Ok s) = record { name = name; shape = s; typed = true; place = at }
property name at (Err told) = record { name = name; shape = nowhere_shape; typed = false; place = at }

abbrev pub property_of : Metamodels → NamedTypes → TypedName → Property
property_of m t f = property f.name f.place (property_shape m t f)

-- a class as it is written, with its superclasses by their places
unfoldable pub declared : Metamodels → NamedTypes → ClassTerm → Declared
declared m t c = record {
  name = c.name;
  supers = flat_map (λ path. list_of (super_place m t path)) c.supers;
  properties = map (property_of m t) c.features;
  place = c.place;
}

abbrev pub declared_in : Metamodels → NamedTypes → UnitTerm → List Declared
declared_in m t (ClassOf c) = declared m t c ∷ []
declared_in m t (MainOf body at) = []
declared_in m t (HelperOf h) = []
declared_in m t (ConstructorOf h) = []
declared_in m t (MappingOf u) = []

-- the intermediate classes as they are written, in order: their places are numbers from 0
abbrev pub all_declared : Metamodels → NamedTypes → List UnitTerm → List Declared
all_declared m t units = flat_map (declared_in m t) units

-- an earlier class has the name; a superclass is no intermediate class; a type is unknown, or one of collections of collections
unfoldable pub class_told : Metamodels → NamedTypes → List (List ℕ) → ClassTerm → List TypingRefusal
class_told m t earlier c =
    told_if (is_among c.name earlier) SameName c.place
    ++ flat_map (super_told m t) c.supers
    ++ flat_map (λ f. property_told (property_shape m t f)) c.features

abbrev pub told_in : Metamodels → NamedTypes → List (List ℕ) → UnitTerm → List TypingRefusal
told_in m t earlier (ClassOf c) = class_told m t earlier c
told_in m t earlier (MainOf body at) = []
told_in m t earlier (HelperOf h) = []
told_in m t earlier (ConstructorOf h) = []
told_in m t earlier (MappingOf u) = []

abbrev pub classes_told : Metamodels → NamedTypes → List (List ℕ) → List UnitTerm → List TypingRefusal
classes_told m t earlier [] = []
classes_told m t earlier (u ∷ us) = told_in m t earlier u ++ classes_told m t (earlier ++ class_name u) us

-- the superclasses of each
abbrev pub super_lists : List Declared → List (List ℕ)
super_lists ds = map (λ d. d.supers) ds

-- which classes are above themselves
abbrev pub cycle_flags : List (List ℕ) → List Bool
cycle_flags lists = map (is_on_cycle lists) (range_with_len 0 (length lists))

abbrev pub flag_at : List Bool → ℕ → Bool
flag_at flags i = slice_index_or flags i false

-- a class that is above itself has its own properties alone
abbrev pub uncycled : Bool → Declared → Declared
uncycled is_above d = record { name = d.name; supers = if is_above then [] else d.supers; properties = d.properties; place = d.place }

abbrev pub uncycled_from : List Bool → ℕ → List Declared → List Declared
uncycled_from flags i [] = []
uncycled_from flags i (d ∷ ds) = uncycled (flag_at flags i) d ∷ uncycled_from flags (i + 1) ds

abbrev pub cycles_told : List Bool → ℕ → List Declared → List TypingRefusal
cycles_told flags i [] = []
cycles_told flags i (d ∷ ds) = told_if (flag_at flags i) ReuseCycle d.place ++ cycles_told flags (i + 1) ds
