-- Which classes are above a class (EMOF 12.4.1, Class::superClass): the least set that has its superclasses and what is
-- above these. The class Element, where there is one, is above every class. The subclass stands first.
use Rattle.std.specs.Prelude.{◌≡◌, ℕ, Bool, true, false, ◌==◌, ◌||◌, ◌⊎◌, length, IsTrue}
use Rattle.std.specs.List.{list_any}
use Rattle.qvt_relation.specs.Closure.{Closure, reaches_by}
use Rattle.qvt_metamodel.specs.declared.info.TypeKind.{TypeKind}
use Rattle.qvt_metamodel.specs.declared.info.TypeKind.TheVariants.{Bool as BoolKind, Int, Str, Enum, Class}
use Rattle.qvt_metamodel.specs.Metamodels.{Metamodels, class_at, is_element}

-- sup is a superclass of sub
abbrev pub is_superclass : Metamodels → ℕ → ℕ → Bool
is_superclass m sub sup = list_any (λ s. s.0 == sup) (class_at m sub).supers

-- superclasses lead from sub up to sup
abbrev pub Inherits : Metamodels → ℕ → ℕ → Type 0
Inherits m = Closure (λ c d. IsTrue (is_superclass m c d))

-- the same as a word that computes
abbrev pub reaches : Metamodels → ℕ → ℕ → Bool
reaches m = reaches_by (is_superclass m) (length m.classes)

-- sup is above sub
abbrev pub IsAncestor : Metamodels → ℕ → ℕ → Type 0
IsAncestor m sub sup = Inherits m sub sup ⊎ IsTrue (is_element m sup)

-- sub is sup, or sup is above it
abbrev pub descends : Metamodels → ℕ → ℕ → Bool
descends m sub sup = (sub == sup) || is_element m sup || reaches m sub sup

-- an object of class c conforms to the type
abbrev pub is_class_kind : Metamodels → ℕ → TypeKind → Bool
is_class_kind m c BoolKind = false
is_class_kind m c Int = false
is_class_kind m c Str = false
is_class_kind m c (Enum k e) = false
is_class_kind m c (Class d) = descends m c d.0

-- values of the type are objects
abbrev pub is_class_type : TypeKind → Bool
is_class_type BoolKind = false
is_class_type Int = false
is_class_type Str = false
is_class_type (Enum k e) = false
is_class_type (Class d) = true

-- sub is sup, or sup is among the classes above it
abbrev pub Descends : Metamodels → ℕ → ℕ → Type 0
Descends m sub sup = (sub ≡ sup) ⊎ IsAncestor m sub sup
