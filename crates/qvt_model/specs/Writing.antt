-- What is written for the values of a store: the values of slots of an extent whose objects have these numbers.
use Rattle.std.specs.Prelude.{ℕ, suc, codes, List, [], ◌∷◌, Option, Some, None, option_map, if◌then◌else◌}
use Rattle.std.specs.List.{filter_map}
use Rattle.serde_json.specs.Data.{Data, boolean, number, string, array, object, Members, no_members, member, put}
use Rattle.serde_json.specs.Find.{of_integer}
use Rattle.serde_json.specs.View.{items_of}
use Rattle.qvt_base.specs.declared.numbers.FeatureNo.{FeatureNo}
use Rattle.qvt_value.specs.declared.value.Value.{Value}
use Rattle.qvt_value.specs.declared.value.Value.TheVariants.{Bool as BoolValue, Int as IntValue, Str as StrValue, Enum as EnumValue, Obj}
use Rattle.qvt_metas.specs.Metamodels.{Metamodels, class_at, feature_at, features_of, is_single}
use Rattle.qvt_metas.specs.Named.{literal_at}
use Rattle.qvt_store.specs.Contents.{Contents, class_of, slot_of}
use Rattle.qvt_model.specs.Extents.{own_id, place_within}

abbrev pub id_at : ℕ → Data
id_at i = string (own_id (suc i))

abbrev pub value_written : Metamodels → List ℕ → Value → Option Data
value_written m xs (BoolValue b) = Some (boolean b)
value_written m xs (IntValue z) = Some (number (of_integer z))
value_written m xs (StrValue t) = Some (string t)
value_written m xs (EnumValue l) = Some (string (literal_at m l.metamodel l.enumeration l.literal))
value_written m xs (Obj o) = option_map id_at (place_within xs o.0)
value_written m xs _ = None

abbrev pub values_written : Contents → List ℕ → ℕ → FeatureNo → List Data
values_written s xs x f = filter_map (value_written s.metas xs) (slot_of s x f.0)

-- what is written for a slot with these items: the one of upper bound 1, or a list; nothing where there is none
abbrev pub head_of : List Data → Option Data
head_of [] = None
head_of (d ∷ ds) = Some d

abbrev pub list_value : List Data → Option Data
list_value [] = None
list_value (d ∷ ds) = Some (array (items_of (d ∷ ds)))

abbrev pub slot_written : Metamodels → FeatureNo → List Data → Option Data
slot_written m f ds = if is_single m f.0 then head_of ds else list_value ds

abbrev pub put_some : List ℕ → Option Data → Members → Members
put_some name None ms = ms
put_some name (Some d) ms = put name d ms

abbrev pub members_onto : Contents → List ℕ → ℕ → Members → List FeatureNo → Members
members_onto s xs x ms [] = ms
members_onto s xs x ms (f ∷ fs) = members_onto s xs x (put_some (feature_at s.metas f.0).name (slot_written s.metas f (values_written s xs x f)) ms) fs

abbrev pub object_written : Contents → List ℕ → ℕ → ℕ → Data
object_written s xs n x = object (
    member (codes "class") (string (class_at s.metas (class_of s x)).name)
    (member (codes "id") (string (own_id n))
    (member (codes "slots") (object (members_onto s xs x no_members (features_of s.metas (class_of s x)))) no_members)))

-- the objects of these numbers, the first of which stands n-th
abbrev pub objects_written : Contents → List ℕ → ℕ → List ℕ → List Data
objects_written s xs n [] = []
objects_written s xs n (y ∷ ys) = object_written s xs n y ∷ objects_written s xs (suc n) ys

abbrev pub model_written : Contents → List ℕ → Data
model_written s xs = object (member (codes "objects") (array (items_of (objects_written s xs 1 xs))) no_members)
