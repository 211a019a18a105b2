-- Objects of lists, and their numbers.
use Rattle.std.specs.Prelude.{◌≡◌, ℕ, not, List, map, filter, nat_eq}
use Rattle.std.specs.List.{list_any}
use Rattle.qvt_base.specs.declared.numbers.Oid.{Oid}
use Rattle.qvt_value.specs.declared.value.Value.{Value}
use Rattle.qvt_slots.specs.Slots.{is_object_with}
use Rattle.qvt_slots.specs.Change.{among_objects, oid_of}

-- an object is among the list exactly where its number is one of these
abbrev pub AreNumbersOf : List ℕ → List Oid → Type 0
AreNumbersOf ns os = (y : ℕ) → list_any (nat_eq y) ns ≡ among_objects os y

-- the objects of a list of values that are none of these
abbrev pub objects_past : List Oid → List Value → List Oid
objects_past os vs = map oid_of (filter (is_object_with (λ y. not (among_objects os y))) vs)
