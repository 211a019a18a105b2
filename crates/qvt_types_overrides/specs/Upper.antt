-- Classes that others may be below (EMOF 12.4.1, Class::superClass).
use Rattle.std.specs.Prelude.{◌≡◌, ℕ, ◌==◌, ◌||◌, Bool, false, List}
use Rattle.std.specs.List.{list_any}
use Rattle.qvt_metas.specs.Metamodels.{Metamodels, is_element}
use Rattle.qvt_metamodel.specs.declared.info.ClassInfo.{ClassInfo}
use Rattle.qvt_metas.specs.NumberSets.{has_number}
use Rattle.qvt_types_groups.specs.declared.signature.HeadClass.{HeadClass}
use Rattle.qvt_types_groups.specs.declared.signature.HeadClass.TheVariants.{Missing, Unknown, Known}

-- class c is a superclass of one of these
abbrev pub is_super : List ClassInfo → ℕ → Bool
is_super ks c = list_any (λ k. list_any (λ s. s.0 == c) k.supers) ks

-- the set has their superclasses
abbrev pub AreSupers : List ClassInfo → List ℕ × ℕ → Type 0
AreSupers ks set = (c : ℕ) → has_number set c ≡ is_super ks c

-- the class is above all others, or a superclass of one
abbrev pub is_upper : Metamodels → HeadClass → Bool
is_upper m Missing = false
is_upper m Unknown = false
is_upper m (Known c) = is_element m c.0 || is_super m.classes c.0
