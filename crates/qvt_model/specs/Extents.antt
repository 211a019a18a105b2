-- The data of an extent of a store: its objects in order, each under an id of its own, with its slots that are not empty.
use Rattle.std.specs.Prelude.{ℕ, suc, ◌++◌, List, [], ◌∷◌, map, filter, position, Option, Some, None, option_map, codes, decimal, ◌==◌}
use Rattle.std.specs.List.{filter_map}
use Rattle.std.specs.Ordering.{nat_cmp}
use Rattle.std.specs.Cmp.Lexicographic.{slice_cmp}
use Rattle.std.specs.declared.cmp.Ordering.{Ordering}
use Rattle.qvt_base.specs.declared.numbers.FeatureNo.{FeatureNo}
use Rattle.qvt_base.specs.declared.numbers.Oid.{Oid}
use Rattle.qvt_value.specs.declared.value.Value.{Value}
use Rattle.qvt_value.specs.declared.value.Value.TheVariants.{Bool as BoolValue, Int as IntValue, Str as StrValue, Enum as EnumValue, Obj}
use Rattle.qvt_value.specs.Kept.{sorted}
use Rattle.qvt_metas.specs.Metamodels.{Metamodels, feature_at, features_of}
use Rattle.qvt_store.specs.Contents.{Contents, class_of, slot_of, members_of}
use Rattle.qvt_model.specs.Reading.{has_items, numbered_class}
use Rattle.qvt_model.specs.declared.data.Datum.{Datum}
use Rattle.qvt_model.specs.declared.data.Datum.TheVariants.{Bool as BoolDatum, Int, Str, Literal, Ref}
use Rattle.qvt_model.specs.declared.data.SlotData.{SlotData}
use Rattle.qvt_model.specs.declared.data.ObjectData.{ObjectData}

-- the id of the object that stands n-th, from 1
unfoldable pub own_id : ℕ → List ℕ
own_id n = codes "o" ++ decimal n

abbrev pub numbers : List Oid → List ℕ
numbers members = map (λ o. o.0) members

-- where object y stands among the numbers
abbrev pub place_within : List ℕ → ℕ → Option ℕ
place_within xs y = position (λ x. y == x) xs

-- the item that a value of a slot is: an object is one of the extent, and nothing else stands in a slot
abbrev pub datum_in : List ℕ → Value → Option Datum
datum_in xs (BoolValue b) = Some (BoolDatum b)
datum_in xs (IntValue z) = Some (Int z)
datum_in xs (StrValue t) = Some (Str t)
datum_in xs (EnumValue l) = Some (Literal l)
datum_in xs (Obj o) = option_map Ref (place_within xs o.0)
datum_in xs _ = None

abbrev pub slot_data_of : Contents → List ℕ → ℕ → FeatureNo → SlotData
slot_data_of s xs x f = record { feature = f; items = filter_map (datum_in xs) (slot_of s x f.0) }

abbrev pub name_of : Metamodels → SlotData → List ℕ
name_of m t = (feature_at m t.feature.0).name

-- by byte order of the names of the features
abbrev pub by_name : Metamodels → SlotData → SlotData → Ordering
by_name m t u = slice_cmp nat_cmp (name_of m t) (name_of m u)

-- the slots of an object that are not empty, by the names of the features
abbrev pub filled_slots : Contents → List ℕ → ℕ → List SlotData
filled_slots s xs x = sorted (by_name s.metas) (filter has_items (map (slot_data_of s xs x) (features_of s.metas (class_of s x))))

unfoldable pub object_data_of : Contents → List ℕ → ℕ → ℕ → ObjectData
object_data_of s xs n x = record { class = numbered_class (class_of s x); id = own_id n; slots = filled_slots s xs x }

-- the objects of these numbers, the first of which stands n-th
abbrev pub objects_from : Contents → List ℕ → ℕ → List ℕ → List ObjectData
objects_from s xs n [] = []
objects_from s xs n (y ∷ ys) = object_data_of s xs n y ∷ objects_from s xs (suc n) ys

-- the data of an extent
unfoldable pub data_of : Contents → ℕ → List ObjectData
data_of s e = objects_from s (numbers (members_of s e)) 1 (numbers (members_of s e))
