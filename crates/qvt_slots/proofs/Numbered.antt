-- The objects of a list that another list does not hold.
use Rattle.std.proofs.Common.{◌≡◌, ℕ, ◌||◌, ◌==◌, not, refl, ap, List, [], ◌∷◌, map}
use Rattle.std.specs.Prelude.{filter}
use Rattle.qvt_value.specs.declared.value.Value.{Value}
use Rattle.qvt_value.specs.declared.value.Value.TheVariants.{Bool as BoolValue, Int as IntValue, Str as StrValue, Enum as EnumValue, Obj}
use Rattle.qvt_slots.specs.Slots.{is_object_with, has}
use Rattle.qvt_slots.specs.Change.{among_objects, oid_of, objects_beyond}
use Rattle.qvt_slots.specs.Numbers.{objects_past}

among_past : (vs : List Value) (y : ℕ) → among_objects (objects_past [] vs) y ≡ has vs y
among_past [] y = refl
among_past (Obj x ∷ vs) y = ap (λ b. (x.0 == y) || b) (among_past vs y)
among_past (BoolValue b ∷ vs) y = among_past vs y
among_past (IntValue n ∷ vs) y = among_past vs y
among_past (StrValue s ∷ vs) y = among_past vs y
among_past (EnumValue l ∷ vs) y = among_past vs y
among_past (v ∷ vs) y = among_past vs y

pub past_is_beyond : (others vs : List Value) → objects_past (objects_past [] others) vs ≡ objects_beyond others vs
past_is_beyond others vs = λ i. map oid_of (filter (is_object_with (λ y. not (among_past others y i))) vs)
