-- The model of a metamodel that a file is, or the first check that fails. Each check goes over all objects in order, over the
-- slots of an object in byte order of their names, and over the items of a slot, before the next check begins.
use Rattle.std.specs.Prelude.{ℕ, List, [], ◌∷◌, length, Bool, false, not, nat_lt, is_some, position, slice_index_or, Option, Some, None, option_map, option_and_then, Result, Ok, if◌then◌else◌, codes, ⊤}
use Rattle.std.specs.List.{list_any}
use Rattle.std.specs.Str.{bytes_eq}
use Rattle.serde_json.specs.Data.{Data, Items, Members, no_members, member}
use Rattle.serde_json.specs.Find.{as_null, as_bool, as_str, as_number, as_i64, as_array}
use Rattle.qvt_base.specs.declared.numbers.ClassNo.{ClassNo}
use Rattle.qvt_base.specs.declared.numbers.FeatureNo.{FeatureNo}
use Rattle.qvt_metamodel.specs.declared.info.TypeKind.{TypeKind}
use Rattle.qvt_metamodel.specs.declared.info.TypeKind.TheVariants.{Bool as BoolKind, Int as IntKind, Str as StrKind, Enum as EnumKind, Class as ClassKind}
use Rattle.qvt_metas.specs.Metamodels.{Metamodels, feature_at, shape_of, is_single}
use Rattle.qvt_metas.specs.Descends.{descends}
use Rattle.qvt_metas.specs.Named.{class_named, feature_named, literal_named}
use Rattle.qvt_json.specs.Json.{json, text_or, items_or, members_or, map_items}
use Rattle.qvt_json.specs.Leaves.{is_id}
use Rattle.qvt_json.specs.Shape.{shown}
use Rattle.qvt_results.specs.Bind.{◌>>=◌}
use Rattle.qvt_json.specs.Steps.{or_fault, none_of, or_next, each_item, walk_items, all_items}
use Rattle.qvt_json.specs.Repeated.{repeated}
use Rattle.qvt_model.specs.Forms.{model_form}
use Rattle.qvt_model.specs.declared.places.Places.{Places}
use Rattle.qvt_model.specs.declared.data.Datum.{Datum}
use Rattle.qvt_model.specs.declared.data.Datum.TheVariants.{Bool as BoolDatum, Int, Str, Literal, Ref}
use Rattle.qvt_model.specs.declared.data.SlotData.{SlotData}
use Rattle.qvt_model.specs.declared.data.ObjectData.{ObjectData}
use Rattle.qvt_model.specs.declared.data.ModelFault.{ModelFault}
use Rattle.qvt_model.specs.declared.data.ModelFault.TheVariants.{Json, Shape, SameId, UnknownClass, UnknownFeature, WrongValue, DanglingId}

abbrev pub id_of : Data → List ℕ
id_of d = text_or (codes "id") d

-- the ids of the objects, which differ
unfoldable pub distinct_ids : Items → Result (List (List ℕ)) ModelFault
distinct_ids ds = do
  _ ← none_of (option_map SameId (repeated [] (map_items id_of ds)))
  Ok (map_items id_of ds)

abbrev pub slots_in : Data → Members
slots_in d = members_or (codes "slots") d

abbrev pub numbered_class : ℕ → ClassNo
numbered_class c = record { 0 = c }

-- the class of metamodel k that an object names
unfoldable pub class_read : Metamodels → ℕ → Data → Result ClassNo ModelFault
class_read m k d = or_fault (UnknownClass (id_of d)) (option_map numbered_class (class_named m k (text_or (codes "class") d)))

-- the feature of the class that a slot names
unfoldable pub feature_of : Metamodels → ClassNo → List ℕ → List ℕ → Result FeatureNo ModelFault
feature_of m c id name = or_fault (UnknownFeature id) (feature_named m c.0 name)

abbrev pub features_known : Metamodels → ClassNo → List ℕ → Members → Result ⊤ ModelFault
features_known m c id no_members = Ok tt
features_known m c id (member name d ms) = do
  _ ← feature_of m c id name
  features_known m c id ms

unfoldable pub object_known : Metamodels → ℕ → Data → Result ⊤ ModelFault
object_known m k d = do
  c ← class_read m k d
  features_known m c (id_of d) (slots_in d)

abbrev pub class_at_place : Places → ℕ → ClassNo
class_at_place places i = slice_index_or places.classes i (record { 0 = 0 })

-- an object of the class or of one below it. A reference to no object is, until the last check, one past the last
abbrev pub ref_at : Metamodels → Places → ClassNo → Option ℕ → Option Datum
ref_at m places c None = Some (Ref (length places.ids))
ref_at m places c (Some i) = if descends m (class_at_place places i).0 c.0 then Some (Ref i) else None

unfoldable pub ref_of : Metamodels → Places → ClassNo → List ℕ → Option Datum
ref_of m places c id = if is_id id then ref_at m places c (position (bytes_eq id) places.ids) else None

abbrev pub literal_in : ℕ → ℕ → ℕ → Datum
literal_in k e l = Literal (record { metamodel = k; enumeration = e; literal = l })

-- the item of a type that a value is
unfoldable pub datum_of : Metamodels → Places → TypeKind → Data → Option Datum
datum_of m places BoolKind d = option_map BoolDatum (as_bool d)
datum_of m places IntKind d = option_map Int (option_and_then as_i64 (as_number d))
datum_of m places StrKind d = option_map Str (as_str d)
datum_of m places (EnumKind k e) d = option_map (literal_in k e) (option_and_then (literal_named m k e) (as_str d))
datum_of m places (ClassKind c) d = option_and_then (ref_of m places c) (as_str d)

-- the item of a slot of upper bound 1; null is empty
abbrev pub one_item : (Data → Option Datum) → Data → Option (List Datum)
one_item f d = if is_some (as_null d) then Some [] else option_map (λ x. x ∷ []) (f d)

-- the items of a slot: a list, but for an upper bound of 1
unfoldable pub items_read : Metamodels → Places → FeatureNo → Data → Option (List Datum)
items_read m places f d =
    if is_single m f.0 then one_item (datum_of m places (shape_of m f.0).kind) d
    else option_and_then (all_items (datum_of m places (shape_of m f.0).kind)) (as_array d)

unfoldable pub slot_read : Metamodels → Places → ClassNo → List ℕ → List ℕ → Data → Result SlotData ModelFault
slot_read m places c id name d = do
  f ← feature_of m c id name
  items ← or_fault (WrongValue id name) (items_read m places f d)
  Ok (record { feature = f; items = items })

abbrev pub has_items : SlotData → Bool
has_items s = nat_lt 0 (length s.items)

-- with this slot before the others, if it is not empty
abbrev pub with_filled_slot : SlotData → List SlotData → List SlotData
with_filled_slot s ss = if has_items s then s ∷ ss else ss

abbrev pub slots_of : Metamodels → Places → ClassNo → List ℕ → Members → Result (List SlotData) ModelFault
slots_of m places c id no_members = Ok []
slots_of m places c id (member name d ms) = do
  s ← slot_read m places c id name d
  ss ← slots_of m places c id ms
  Ok (with_filled_slot s ss)

unfoldable pub object_read : Metamodels → ℕ → Places → Data → Result ObjectData ModelFault
object_read m k places d = do
  c ← class_read m k d
  ss ← slots_of m places c (id_of d) (slots_in d)
  Ok (record { class = c; id = id_of d; slots = ss })

-- a reference to none of n objects
abbrev pub is_dangling : ℕ → Datum → Bool
is_dangling n (BoolDatum b) = false
is_dangling n (Int z) = false
is_dangling n (Str s) = false
is_dangling n (Literal l) = false
is_dangling n (Ref i) = not (nat_lt i n)

abbrev pub slots_dangling : Metamodels → ℕ → List ℕ → List SlotData → Option ModelFault
slots_dangling m n id [] = None
slots_dangling m n id (s ∷ ss) = if list_any (is_dangling n) s.items then Some (DanglingId id (feature_at m s.feature.0).name) else slots_dangling m n id ss

abbrev pub dangling : Metamodels → ℕ → List ObjectData → Option ModelFault
dangling m n [] = None
dangling m n (o ∷ os) = or_next (slots_dangling m n o.id o.slots) (dangling m n os)

-- what the objects of a model are, by one check after the other
unfoldable pub model_from : Metamodels → ℕ → Items → Result (List ObjectData) ModelFault
model_from m k ds = do
  ids ← distinct_ids ds
  classes ← each_item (class_read m k) ds
  _ ← walk_items (object_known m k) ds
  os ← each_item (object_read m k (record { ids = ids; classes = classes })) ds
  _ ← none_of (dangling m (length os) os)
  Ok os

-- the model of metamodel k that the bytes of a file are, or the first refusal
unfoldable pub model_of : Metamodels → ℕ → List ℕ → Result (List ObjectData) ModelFault
model_of m k bytes = do
  d ← or_fault Json (json bytes)
  _ ← none_of (option_map (λ path. Shape (shown path)) (model_form d))
  model_from m k (items_or (codes "objects") d)
