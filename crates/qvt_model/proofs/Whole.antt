-- The value that is written for a model has the form of a model, is plain, and nests little; so its text is read as the model.
use Rattle.std.proofs.Common.{◌≡◌, ◌≢◌, ℕ, ℤ, pos, negsuc, zero, suc, ◌<◌, ◌≤◌, ◌^◌, List, [], ◌∷◌, map, Bool, true, false, IsTrue, Some, None, Ok, refl, arith, IsUtf8}
use Rattle.std.specs.Prelude.{codes, FitsSigned}
use Rattle.std.specs.Int.{w64}
use Rattle.std.specs.List.{AllByRecursion}
use Rattle.std.proofs.lemmas.Str.{IsUtf8-nil, IsUtf8-from_is_utf8}
use Rattle.json.proofs.Printed.Utf8.{IsUtf8-are_ascii}
use Rattle.serde_json.specs.Data.{depth, items_depth, members_depth}
use Rattle.serde_json.specs.Find.{of_integer}
use Rattle.serde_json.specs.Read.{max_depth}
use Rattle.serde_json.specs.View.{items_of}
use Rattle.qvt_metamodel.specs.declared.info.TypeKind.{TypeKind}
use Rattle.qvt_metamodel.specs.declared.info.TypeKind.TheVariants.{Bool as BoolKind, Int as IntKind, Str as StrKind, Enum as EnumKind, Class as ClassKind}
use Rattle.qvt_metas.specs.Metamodels.{Metamodels, feature_at, shape_of, is_single}
use Rattle.qvt_metas.specs.Named.{metamodel_at}
use Rattle.qvt_metas.specs.WellFormed.{IsWellFormed}
use Rattle.qvt_json.specs.Json.{json}
use Rattle.qvt_json.specs.Plain.{IsInteger, KeysAfter, IsPlain, ItemsPlain, MembersPlain}
use Rattle.qvt_json.specs.Shape.{items_fault}
use Rattle.qvt_json.specs.Leaves.{is_id}
use Rattle.qvt_json.proofs.Back.{json-file_text}
use Rattle.qvt_model.specs.Forms.{object_form, model_form}
use Rattle.qvt_model.specs.Reading.{model_of}
use Rattle.qvt_model.specs.WellFormed.{object_data_at, IsItem, IsPlainDatum, IsPlainSlot, IsPlainObject, IsSlot, ComeAfter, AreInNameOrder, IsObjectIn, IsModel, IsStorable}
use Rattle.qvt_model.specs.Written.{datum_value, first_value, slot_value, slot_members, written_object, model_value, model_text}
use Rattle.qvt_model.specs.declared.data.Datum.{Datum}
use Rattle.qvt_model.specs.declared.data.Datum.TheVariants.{Bool as BoolDatum, Int, Str, Literal, Ref}
use Rattle.qvt_model.specs.declared.data.SlotData.{SlotData}
use Rattle.qvt_model.specs.declared.data.ObjectData.{ObjectData}
use Rattle.qvt_model.proofs.Lists.{All-weaken}
use Rattle.qvt_model.proofs.Passes.{model_from-object_values}

-- ---- its form

object-shape : (m : Metamodels) (os : List ObjectData) (o : ObjectData) → is_id o.id ≡ true → object_form (written_object m os o) ≡ None
unfolding object_form
object-shape m os o form = rw form

objects-shape : (m : Metamodels) (os ws : List ObjectData) (n : ℕ) → AllByRecursion (λ o. IsTrue (is_id o.id)) ws → items_fault object_form n (items_of (map (written_object m os) ws)) ≡ None
objects-shape m os [] n a = refl
objects-shape m os (w ∷ ws) n a = rw (object-shape m os w a.0) (objects-shape m os ws (suc n) a.1)

model-shape : (m : Metamodels) (os : List ObjectData) → AllByRecursion (λ o. IsTrue (is_id o.id)) os → model_form (model_value m os) ≡ None
unfolding model_form
model-shape m os a = rw (objects-shape m os os 0 a)

-- ---- it is plain

whole : (z : ℤ) → FitsSigned w64 z → IsInteger (of_integer z)
whole (pos n) h = let lt : n < 2 ^ 63 = h.sfits in omega arith
whole (negsuc n) h = h.sfits

id_text : (os : List ObjectData) (i : ℕ) → AllByRecursion (λ o. IsUtf8 o.id) os → IsUtf8 (object_data_at os i).id
id_text [] i a = IsUtf8-nil
id_text (o ∷ os) zero a = a.0
id_text (o ∷ os) (suc i) a = id_text os i a.1

-- an object with plain items and its slots in order
abbrev pub IsWrittenObject : Metamodels → ObjectData → Type 0
IsWrittenObject m o = IsPlainObject o × AreInNameOrder m o.slots

-- an item of a type is plain
plain-item : (m : Metamodels) (os : List ObjectData) (kind : TypeKind) (x : Datum) → IsItem m os kind x → IsPlainDatum x
plain-item m os BoolKind (BoolDatum b') h = tt
plain-item m os BoolKind (Int z) h = absurd h
plain-item m os BoolKind (Str s) h = absurd h
plain-item m os BoolKind (Literal l) h = absurd h
plain-item m os BoolKind (Ref i) h = absurd h
plain-item m os IntKind (BoolDatum b') h = absurd h
plain-item m os IntKind (Int z) h = h
plain-item m os IntKind (Str s) h = absurd h
plain-item m os IntKind (Literal l) h = absurd h
plain-item m os IntKind (Ref i) h = absurd h
plain-item m os StrKind (BoolDatum b') h = absurd h
plain-item m os StrKind (Int z) h = absurd h
plain-item m os StrKind (Str s) h = h
plain-item m os StrKind (Literal l) h = absurd h
plain-item m os StrKind (Ref i) h = absurd h
plain-item m os (EnumKind a b) (BoolDatum b') h = absurd h
plain-item m os (EnumKind a b) (Int z) h = absurd h
plain-item m os (EnumKind a b) (Str s) h = absurd h
plain-item m os (EnumKind a b) (Literal l) h = tt
plain-item m os (EnumKind a b) (Ref i) h = absurd h
plain-item m os (ClassKind c) (BoolDatum b') h = absurd h
plain-item m os (ClassKind c) (Int z) h = absurd h
plain-item m os (ClassKind c) (Str s) h = absurd h
plain-item m os (ClassKind c) (Literal l) h = absurd h
plain-item m os (ClassKind c) (Ref i) h = tt

pub plain-model : (m : Metamodels) (k : ℕ) (os ws : List ObjectData) → AllByRecursion (IsObjectIn m k os) ws → AllByRecursion (IsWrittenObject m) ws
plain-model m k os [] a = tt
plain-model m k os (w ∷ ws) a = (
  (All-weaken (IsSlot m os w.class.0) IsPlainSlot (λ s h. All-weaken (IsItem m os (shape_of m s.feature.0).kind) IsPlainDatum (λ x i. plain-item m os (shape_of m s.feature.0).kind x i) s.items h.items) w.slots a.0.slots, a.0.order),
  plain-model m k os ws a.1,
)

module _ (m : Metamodels) (os : List ObjectData) (named : IsWellFormed m) (texts : AllByRecursion (λ o. IsUtf8 o.id) os) where
  plain_datum : (x : Datum) → IsPlainDatum x → IsPlain (datum_value m os x)
  plain_datum (BoolDatum b) h = tt
  plain_datum (Int z) h = whole z h
  plain_datum (Str s) h = h
  plain_datum (Literal l) h = IsUtf8-from_is_utf8 _ (named.text_literal l.metamodel l.enumeration l.literal)
  plain_datum (Ref i) h = id_text os i texts

  plain_items : (xs : List Datum) → AllByRecursion IsPlainDatum xs → ItemsPlain (items_of (map (datum_value m os) xs))
  plain_items [] a = tt
  plain_items (x ∷ xs) a = (plain_datum x a.0, plain_items xs a.1)

  plain_first : (xs : List Datum) → AllByRecursion IsPlainDatum xs → IsPlain (first_value m os xs)
  plain_first [] a = tt
  plain_first (x ∷ xs) a = plain_datum x a.0

  plain_slot : (s : SlotData) → IsPlainSlot s → IsPlain (slot_value m os s)
  plain_slot s h = by (is_single m s.feature.0) refl
    where
      by : (b : Bool) → is_single m s.feature.0 ≡ b → IsPlain (slot_value m os s)
      by true is = rw is (plain_first s.items h)
      by false is = rw is (plain_items s.items h)

  keys_after : (name : List ℕ) (ss : List SlotData) → ComeAfter m name ss → KeysAfter name (slot_members m os ss)
  keys_after name [] h = tt
  keys_after name (s ∷ ss) h = (h.0, keys_after name ss h.1)

  plain_slots : (ss : List SlotData) → AllByRecursion IsPlainSlot ss → AreInNameOrder m ss → MembersPlain (slot_members m os ss)
  plain_slots [] h a = tt
  plain_slots (s ∷ ss) h a =
      (IsUtf8-from_is_utf8 _ (named.text_feature s.feature.0), plain_slot s h.0, keys_after (feature_at m s.feature.0).name ss a.0, plain_slots ss h.1 a.1)

  plain_object : (o : ObjectData) → IsUtf8 o.id → IsWrittenObject m o → IsPlain (written_object m os o)
  plain_object o id h = (
    IsUtf8-are_ascii (codes "class") refl,
    IsUtf8-from_is_utf8 _ (named.text_class o.class.0),
    (refl, (refl, tt)),
    (
      IsUtf8-are_ascii (codes "id") refl,
      id,
      (refl, tt),
      (
        IsUtf8-are_ascii (codes "slots") refl,
        plain_slots o.slots h.0 h.1,
        tt,
        tt,
      ),
    ),
  )

  plain_objects : (ws : List ObjectData) → AllByRecursion (λ o. IsUtf8 o.id) ws → AllByRecursion (IsWrittenObject m) ws → ItemsPlain (items_of (map (written_object m os) ws))
  plain_objects [] a h = tt
  plain_objects (o ∷ ws) a h = (plain_object o a.0 h.0, plain_objects ws a.1 h.1)

  pub IsPlain-model_value : AllByRecursion (IsWrittenObject m) os → IsPlain (model_value m os)
  IsPlain-model_value objects = (IsUtf8-are_ascii (codes "objects") refl, plain_objects os texts objects, tt, tt)

-- ---- its depth

module _ (m : Metamodels) (os : List ObjectData) where
  datum_depth : (x : Datum) → depth (datum_value m os x) ≡ 0
  datum_depth (BoolDatum b) = refl
  datum_depth (Int z) = refl
  datum_depth (Str s) = refl
  datum_depth (Literal l) = refl
  datum_depth (Ref i) = refl

  data_depth : (xs : List Datum) → items_depth (items_of (map (datum_value m os) xs)) ≡ 0
  data_depth [] = refl
  data_depth (x ∷ xs) = rw (datum_depth x, data_depth xs)

  first_depth : (xs : List Datum) → depth (first_value m os xs) ≤ 1
  first_depth [] = omega arith
  first_depth (x ∷ xs) = omega (arith, datum_depth x)

  slot_depth : (s : SlotData) → depth (slot_value m os s) ≤ 1
  slot_depth s = by (is_single m s.feature.0) refl
    where
      by : (b : Bool) → is_single m s.feature.0 ≡ b → depth (slot_value m os s) ≤ 1
      by true is = rw is (first_depth s.items)
      by false is = rw is (omega (arith, data_depth s.items))

  slots_depth : (ss : List SlotData) → members_depth (slot_members m os ss) ≤ 1
  slots_depth [] = omega arith
  slots_depth (s ∷ ss) = omega (arith, slot_depth s, slots_depth ss)

  objects_depth : (ws : List ObjectData) → items_depth (items_of (map (written_object m os) ws)) ≤ 3
  objects_depth [] = omega arith
  objects_depth (o ∷ ws) = omega (arith, slots_depth o.slots, objects_depth ws)

-- ---- the whole

pub model_of-model_text : (m : Metamodels) (k : ℕ) (os : List ObjectData) → IsWellFormed m → (metamodel_at m k).name ≢ [] → IsModel m k os → IsStorable m os → model_of m k (model_text m os) ≡ Ok os
unfolding model_of model_text
model_of-model_text m k os named name model storable =
    let shallow : depth (model_value m os) ≤ max_depth = omega (arith, objects_depth m os os) in
    let value : json (model_text m os) ≡ Some (model_value m os) = json-file_text (model_value m os) (IsPlain-model_value m os named storable.texts (plain-model m k os os model.objects)) shallow in
    rw (value, model-shape m os storable.forms) (model_from-object_values m k os named name model storable)
