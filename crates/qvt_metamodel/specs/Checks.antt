-- The checks of a metamodel (EMOF 12.5), in their order, each in document order: the first that fails is told.
use Rattle.std.specs.Prelude.{ℕ, suc, List, [], ◌∷◌, ◌++◌, map, Bool, false, ◌&&◌, ◌||◌, ◌==◌, not, nat_lt, length, Option, Some, None, is_some, option_map, if◌then◌else◌, find, zero}
use Rattle.std.specs.List.{list_any}
use Rattle.std.specs.Option.{option_map_or}
use Rattle.std.specs.Str.{bytes_eq}
use Rattle.qvt_json.specs.Steps.{or_next}
use Rattle.qvt_relation.specs.Closure.{reaches_by}
use Rattle.qvt_metamodel.specs.declared.info.EnumInfo.{EnumInfo}
use Rattle.qvt_metamodel.specs.declared.declared.DeclaredFeature.{DeclaredFeature}
use Rattle.qvt_metamodel.specs.declared.declared.DeclaredClass.{DeclaredClass}
use Rattle.qvt_metamodel.specs.Metamodels.{Metamodels, feature_at, features_of}
use Rattle.qvt_metamodel.specs.MetaData.{MetaData, class_names, enum_names}
use Rattle.qvt_metamodel.specs.Names.{primitive_names, is_among, repeated}
use Rattle.qvt_metamodel.specs.Added.{declared_at, place_in, numbered}

-- the first fault among these, in their order
abbrev pub first_in : {X F : Type 0} → (X → Option F) → List X → Option F
first_in f [] = None
first_in f (x ∷ xs) = or_next (f x) (first_in f xs)

-- the same with the place of each, from n on
abbrev pub first_from : {X F : Type 0} → (ℕ → X → Option F) → ℕ → List X → Option F
first_from f n [] = None
first_from f n (x ∷ xs) = or_next (f n x) (first_from f (suc n) xs)

-- a class and a name, as faults tell them
abbrev pub ClassAndName : Type 0
ClassAndName = List ℕ × List ℕ

-- of the enumerations, each its name and then its literals; then the classes
abbrev pub same_enum : List (List ℕ) → List EnumInfo → Option (List ℕ)
same_enum taken [] = None
same_enum taken (e ∷ es) = if is_among e.name taken then Some e.name else or_next (repeated [] e.literals) (same_enum (taken ++ e.name ∷ []) es)

unfoldable pub same_name : MetaData → Option (List ℕ)
same_name d = or_next (same_enum primitive_names d.enums) (repeated (primitive_names ++ enum_names d) (class_names d))

-- the first name that is not among these
abbrev pub unknown : List (List ℕ) → List (List ℕ) → Option (List ℕ)
unknown names xs = find (λ x. not (is_among x names)) xs

abbrev pub type_names : MetaData → List (List ℕ)
type_names d = primitive_names ++ enum_names d ++ class_names d

-- a superclass that is no class, then a feature's type that is neither a primitive one, an enumeration nor a class
abbrev pub unknown_in : MetaData → DeclaredClass → Option ClassAndName
unknown_in d k = option_map (λ name. (k.name, name)) (or_next (unknown (class_names d) k.supers) (unknown (type_names d) (map (λ f. f.kind) k.features)))

unfoldable pub unknown_type : MetaData → Option ClassAndName
unknown_type d = first_in (unknown_in d) d.classes

-- class j is a superclass of class i
abbrev pub is_super : MetaData → ℕ → ℕ → Bool
is_super d i j = list_any (λ name. place_in (class_names d) name == j) (declared_at d.classes i).supers

-- a class that is its own ancestor, by the closure
unfoldable pub inheritance_cycle : MetaData → Option (List ℕ)
inheritance_cycle d = first_from (λ i k. if reaches_by (is_super d) (length d.classes) i i then Some k.name else None) zero d.classes

-- a fault of a feature, told with its class
abbrev pub failing_feature : (DeclaredClass → DeclaredFeature → Bool) → DeclaredClass → Option ClassAndName
failing_feature is k = first_in (λ f. if is k f then Some (k.name, f.name) else None) k.features

abbrev pub is_below : ℕ → Option ℕ → Bool
is_below lower None = false
is_below lower (Some upper) = nat_lt upper lower

unfoldable pub bad_bounds : MetaData → Option ClassAndName
bad_bounds d = first_in (failing_feature (λ k f. is_below f.lower f.upper)) d.classes

abbrev pub is_given_name : Option (List ℕ) → List ℕ → Bool
is_given_name o name = option_map_or (bytes_eq name) o false

abbrev pub is_one_at_most : Option ℕ → Bool
is_one_at_most o = option_map_or (λ n. n == 1) o false

-- g, of the type of f, has the class of f as its type and f as its opposite
abbrev pub is_mutual : DeclaredClass → DeclaredFeature → DeclaredFeature → Bool
is_mutual k f g = is_given_name f.opposite g.name && bytes_eq g.kind k.name && is_given_name g.opposite f.name

-- the features that the type class of a feature declares itself
abbrev pub type_features : MetaData → DeclaredFeature → List DeclaredFeature
type_features d f = (declared_at d.classes (place_in (class_names d) f.kind)).features

-- the feature is a containment or has an opposite
abbrev pub declares_link : DeclaredFeature → Bool
declares_link f = f.containment || is_some f.opposite

-- the opposite is a containment
abbrev pub is_contained : MetaData → DeclaredClass → DeclaredFeature → Bool
is_contained d k f = list_any (λ g. is_mutual k f g && g.containment) (type_features d f)

-- a containment or an opposite on a type that is no class
abbrev pub has_no_class : MetaData → DeclaredFeature → Bool
has_no_class d f = declares_link f && not (is_among f.kind (class_names d))

-- a containment or an opposite that is not unique
abbrev pub may_repeat : DeclaredFeature → Bool
may_repeat f = declares_link f && not f.unique

-- an opposite that the type class itself does not declare with this class as type and this feature as its opposite
abbrev pub is_undeclared : MetaData → DeclaredClass → DeclaredFeature → Bool
is_undeclared d k f = is_some f.opposite && not (list_any (is_mutual k f) (type_features d f))

-- an opposite that is the feature itself
abbrev pub is_own_opposite : DeclaredClass → DeclaredFeature → Bool
is_own_opposite k f = bytes_eq f.kind k.name && is_given_name f.opposite f.name

-- both ends are containments
abbrev pub are_both_containments : MetaData → DeclaredClass → DeclaredFeature → Bool
are_both_containments d k f = f.containment && is_contained d k f

-- the opposite of a containment with another upper bound than 1
abbrev pub has_many_containers : MetaData → DeclaredClass → DeclaredFeature → Bool
has_many_containers d k f = not (is_one_at_most f.upper) && is_contained d k f

-- a containment or an opposite that may not be, in the order of the parts above
abbrev pub is_bad_opposite : MetaData → DeclaredClass → DeclaredFeature → Bool
is_bad_opposite d k f = has_no_class d f || may_repeat f || is_undeclared d k f || is_own_opposite k f || are_both_containments d k f || has_many_containers d k f

unfoldable pub bad_opposite : MetaData → Option ClassAndName
bad_opposite d = first_in (failing_feature (is_bad_opposite d)) d.classes

-- the first feature of a class whose name an earlier one has
abbrev pub repeated_feature : Metamodels → ℕ → Option (List ℕ)
repeated_feature m c = repeated [] (map (λ f. (feature_at m f.0).name) (features_of m c))

unfoldable pub same_feature : MetaData → Option ClassAndName
same_feature d = first_from (λ i k. option_map (λ name. (k.name, name)) (repeated_feature (numbered d) i)) zero d.classes
