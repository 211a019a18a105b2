-- Each check of what is written for a model finds no fault, and the reading gives the model back.
use Rattle.std.proofs.Common.{◌≡◌, ◌≢◌, subst, ℕ, ℤ, pos, negsuc, zero, suc, ◌<◌, ◌≤◌, ◌^◌, List, [], ◌∷◌, length, map, Bool, true, false, nat_lt, IsTrue, Option, Some, None, option_map, Ok, refl, sym, ap, ◌∙◌, arith, lt-ltb}
use Rattle.std.proofs.lemmas.List.{length-map}
use Rattle.std.specs.Prelude.{FitsSigned, position}
use Rattle.std.specs.Int.{w64}
use Rattle.std.specs.List.{AllByRecursion}
use Rattle.std.specs.Str.{bytes_eq}
use Rattle.serde_json.specs.Data.{Data}
use Rattle.serde_json.specs.Find.{as_i64, of_integer}
use Rattle.serde_json.specs.View.{items_of}
use Rattle.qvt_base.specs.declared.numbers.ClassNo.{ClassNo}
use Rattle.qvt_value.specs.declared.value.LiteralRef.{LiteralRef}
use Rattle.qvt_metamodel.specs.declared.info.TypeKind.{TypeKind}
use Rattle.qvt_metamodel.specs.declared.info.TypeKind.TheVariants.{Bool as BoolKind, Int as IntKind, Str as StrKind, Enum as EnumKind, Class as ClassKind}
use Rattle.qvt_metas.specs.Metamodels.{Metamodels, class_at, shape_of, is_single}
use Rattle.qvt_metas.specs.Descends.{descends}
use Rattle.qvt_metas.specs.Named.{metamodel_at, class_named, literal_named, literal_at}
use Rattle.qvt_metas.specs.WellFormed.{IsWellFormed}
use Rattle.qvt_json.specs.Json.{map_items}
use Rattle.qvt_json.specs.Leaves.{is_id}
use Rattle.qvt_model.specs.Reading.{id_of, class_read, feature_of, features_known, object_known, distinct_ids, class_at_place, ref_at, ref_of, literal_in, datum_of, one_item, items_read, slot_read, slots_of, object_read, is_dangling, slots_dangling, dangling, model_from}
use Rattle.qvt_model.specs.WellFormed.{object_data_at, no_object, ids, IsItem, IsSlot, IsObjectIn, IsModel, HoldsOne, IsStorable}
use Rattle.qvt_model.specs.Written.{datum_value, first_value, slot_value, slot_members, written_object, object_values}
use Rattle.qvt_model.specs.declared.places.Places.{Places}
use Rattle.qvt_model.specs.declared.data.Datum.{Datum}
use Rattle.qvt_model.specs.declared.data.Datum.TheVariants.{Bool as BoolDatum, Int, Str, Literal, Ref}
use Rattle.qvt_model.specs.declared.data.SlotData.{SlotData}
use Rattle.qvt_model.specs.declared.data.ObjectData.{ObjectData}
use Rattle.qvt_model.proofs.Lists.{All-weaken, All-both, All-index, index-map, list_any-none, each_item-is, each_item-back, walk_items-ok, all_items-back, position-differ, repeated-differ}

abbrev pub places_of : List ObjectData → Places
places_of os = record { ids = ids os; classes = map (λ o. o.class) os }

integer-back : (z : ℤ) → FitsSigned w64 z → as_i64 (of_integer z) ≡ Some z
integer-back (pos n) h = let lt : n < 2 ^ 63 = h.sfits in rw (lt-ltb n (2 ^ 63) lt)
integer-back (negsuc n) h = refl

module _ (m : Metamodels) (k : ℕ) (os : List ObjectData) (named : IsWellFormed m) (name : (metamodel_at m k).name ≢ []) (model : IsModel m k os) (storable : IsStorable m os) where
  class-back : (o : ObjectData) → IsObjectIn m k os o → class_read m k (written_object m os o) ≡ Ok o.class
  unfolding class_read
  class-back o h =
      let there : (metamodel_at m (class_at m o.class.0).metamodel).name ≢ [] = λ e. name (ap (λ n. (metamodel_at m n).name) (sym h.metamodel) ∙ e) in
      let found : class_named m k (class_at m o.class.0).name ≡ Some o.class.0 =
      subst (λ n. class_named m n (class_at m o.class.0).name ≡ Some o.class.0) h.metamodel (named.class_found o.class.0 h.class there) in
      rw found

  features-known : (c : ClassNo) (id : List ℕ) (ss : List SlotData) → AllByRecursion (IsSlot m os c.0) ss → features_known m c id (slot_members m os ss) ≡ Ok tt
  unfolding feature_of
  features-known c id [] a = refl
  features-known c id (s ∷ ss) a = rw (named.feature_found c.0 s.feature.0 a.0.own) (features-known c id ss a.1)

  object-known : (o : ObjectData) → IsObjectIn m k os o → object_known m k (written_object m os o) ≡ Ok tt
  unfolding object_known
  object-known o h = rw (class-back o h) (features-known o.class o.id o.slots h.slots)

  ref-back : (c : ClassNo) (i : ℕ) → i < length os → IsTrue (descends m (object_data_at os i).class.0 c.0) → ref_of m (places_of os) c (object_data_at os i).id ≡ Some (Ref i)
  unfolding ref_of
  ref-back c i lt conforms =
      let form : is_id (object_data_at os i).id ≡ true = All-index (λ o. is_id o.id ≡ true) os i no_object storable.forms lt in
      let within : i < length (ids os) = omega (arith, length-map os (λ o. o.id), lt) in
      let place : position (bytes_eq (object_data_at os i).id) (ids os) ≡ Some i =
      ap (λ id. position (bytes_eq id) (ids os)) (sym (index-map (λ o. o.id) os i no_object)) ∙ position-differ (ids os) i model.ids within in
      let class : class_at_place (places_of os) i ≡ (object_data_at os i).class = index-map (λ o. o.class) os i no_object in
      let fits : descends m (class_at_place (places_of os) i).0 c.0 ≡ true = ap (λ (a : ClassNo). descends m a.0 c.0) class ∙ conforms in
      rw form (ap (ref_at m (places_of os) c) place ∙ rw fits)

  literal-back : (a b : ℕ) (l : LiteralRef) → IsItem m os (EnumKind a b) (Literal l) → option_map (literal_in a b) (literal_named m a b (literal_at m l.metamodel l.enumeration l.literal)) ≡ Some (Literal l)
  literal-back a b l h =
      let found : literal_named m a b (literal_at m a b l.literal) ≡ Some l.literal = named.literal_found a b l.literal h.2 in
      (λ i. option_map (literal_in a b) (literal_named m a b (literal_at m (h.0 i) (h.1 i) l.literal))) ∙ rw found (λ i. Some (Literal (record { metamodel = sym h.0 i; enumeration = sym h.1 i; literal = l.literal })))

  datum-back : (kind : TypeKind) (x : Datum) → IsItem m os kind x → datum_of m (places_of os) kind (datum_value m os x) ≡ Some x
  unfolding datum_of
  datum-back BoolKind (BoolDatum b') h = refl
  datum-back BoolKind (Int z) h = absurd h
  datum-back BoolKind (Str s) h = absurd h
  datum-back BoolKind (Literal l) h = absurd h
  datum-back BoolKind (Ref i) h = absurd h
  datum-back IntKind (BoolDatum b') h = absurd h
  datum-back IntKind (Int z) h = rw (integer-back z h)
  datum-back IntKind (Str s) h = absurd h
  datum-back IntKind (Literal l) h = absurd h
  datum-back IntKind (Ref i) h = absurd h
  datum-back StrKind (BoolDatum b') h = absurd h
  datum-back StrKind (Int z) h = absurd h
  datum-back StrKind (Str s) h = refl
  datum-back StrKind (Literal l) h = absurd h
  datum-back StrKind (Ref i) h = absurd h
  datum-back (EnumKind a b) (BoolDatum b') h = absurd h
  datum-back (EnumKind a b) (Int z) h = absurd h
  datum-back (EnumKind a b) (Str s) h = absurd h
  datum-back (EnumKind a b) (Literal l) h = literal-back a b l h
  datum-back (EnumKind a b) (Ref i) h = absurd h
  datum-back (ClassKind c) (BoolDatum b') h = absurd h
  datum-back (ClassKind c) (Int z) h = absurd h
  datum-back (ClassKind c) (Str s) h = absurd h
  datum-back (ClassKind c) (Literal l) h = absurd h
  datum-back (ClassKind c) (Ref i) h = ref-back c i h.0 h.1

  one-back : (f : Data → Option Datum) (x : Datum) → f (datum_value m os x) ≡ Some x → one_item f (datum_value m os x) ≡ Some (x ∷ [])
  one-back f (BoolDatum b) e = ap (option_map (λ x. x ∷ [])) e
  one-back f (Int z) e = ap (option_map (λ x. x ∷ [])) e
  one-back f (Str s) e = ap (option_map (λ x. x ∷ [])) e
  one-back f (Literal l) e = ap (option_map (λ x. x ∷ [])) e
  one-back f (Ref i) e = ap (option_map (λ x. x ∷ [])) e

  first-back : (f : Data → Option Datum) (xs : List Datum) → 0 < length xs → length xs ≤ 1 → AllByRecursion (λ x. f (datum_value m os x) ≡ Some x) xs → one_item f (first_value m os xs) ≡ Some xs
  first-back f [] some one a = absurd (omega arith)
  first-back f (x ∷ []) some one a = one-back f x a.0
  first-back f (x ∷ y ∷ xs) some one a = absurd (omega arith)

  items-of-type : (c : ℕ) (s : SlotData) → IsSlot m os c s → AllByRecursion (λ x. datum_of m (places_of os) (shape_of m s.feature.0).kind (datum_value m os x) ≡ Some x) s.items
  items-of-type c s h =
      let kind = (shape_of m s.feature.0).kind in
      All-weaken (IsItem m os kind) (λ x. datum_of m (places_of os) kind (datum_value m os x) ≡ Some x) (λ x i. datum-back kind x i) s.items h.items

  items-back : (c : ℕ) (s : SlotData) → IsSlot m os c s → HoldsOne m s → items_read m (places_of os) s.feature (slot_value m os s) ≡ Some s.items
  unfolding items_read
  items-back c s h holds = by (is_single m s.feature.0) refl
    where
      by : (b : Bool) → is_single m s.feature.0 ≡ b → items_read m (places_of os) s.feature (slot_value m os s) ≡ Some s.items
      by true is = rw is (first-back (datum_of m (places_of os) (shape_of m s.feature.0).kind) s.items h.some (holds.one is) (items-of-type c s h))
      by false is = rw is (all_items-back (datum_of m (places_of os) (shape_of m s.feature.0).kind) (datum_value m os) s.items (items-of-type c s h))

  slots-back : (c : ClassNo) (id : List ℕ) (ss : List SlotData) → AllByRecursion (IsSlot m os c.0) ss → AllByRecursion (HoldsOne m) ss → slots_of m (places_of os) c id (slot_members m os ss) ≡ Ok ss
  unfolding slot_read feature_of
  slots-back c id [] a b = refl
  slots-back c id (s ∷ ss) a b =
      let some : nat_lt 0 (length s.items) ≡ true = lt-ltb 0 (length s.items) a.0.some in
      rw (named.feature_found c.0 s.feature.0 a.0.own, items-back c.0 s a.0 b.0, slots-back c id ss a.1 b.1, some)

  object-back : (o : ObjectData) → IsObjectIn m k os o → AllByRecursion (HoldsOne m) o.slots → object_read m k (places_of os) (written_object m os o) ≡ Ok o
  unfolding object_read
  object-back o h ones = rw (class-back o h, slots-back o.class o.id o.slots h.slots ones)

  not-dangling : (kind : TypeKind) (x : Datum) → IsItem m os kind x → is_dangling (length os) x ≡ false
  not-dangling BoolKind (BoolDatum b') h = refl
  not-dangling BoolKind (Int z) h = absurd h
  not-dangling BoolKind (Str s) h = absurd h
  not-dangling BoolKind (Literal l) h = absurd h
  not-dangling BoolKind (Ref i) h = absurd h
  not-dangling IntKind (BoolDatum b') h = absurd h
  not-dangling IntKind (Int z) h = refl
  not-dangling IntKind (Str s) h = absurd h
  not-dangling IntKind (Literal l) h = absurd h
  not-dangling IntKind (Ref i) h = absurd h
  not-dangling StrKind (BoolDatum b') h = absurd h
  not-dangling StrKind (Int z) h = absurd h
  not-dangling StrKind (Str s) h = refl
  not-dangling StrKind (Literal l) h = absurd h
  not-dangling StrKind (Ref i) h = absurd h
  not-dangling (EnumKind a b) (BoolDatum b') h = absurd h
  not-dangling (EnumKind a b) (Int z) h = absurd h
  not-dangling (EnumKind a b) (Str s) h = absurd h
  not-dangling (EnumKind a b) (Literal l) h = refl
  not-dangling (EnumKind a b) (Ref i) h = absurd h
  not-dangling (ClassKind c) (BoolDatum b') h = absurd h
  not-dangling (ClassKind c) (Int z) h = absurd h
  not-dangling (ClassKind c) (Str s) h = absurd h
  not-dangling (ClassKind c) (Literal l) h = absurd h
  not-dangling (ClassKind c) (Ref i) h = rw (lt-ltb i (length os) h.0)

  slots-not-dangling : (c : ℕ) (id : List ℕ) (ss : List SlotData) → AllByRecursion (IsSlot m os c) ss → slots_dangling m (length os) id ss ≡ None
  slots-not-dangling c id [] a = refl
  slots-not-dangling c id (s ∷ ss) a =
      let kind = (shape_of m s.feature.0).kind in
      rw (list_any-none (is_dangling (length os)) s.items (All-weaken (IsItem m os kind) (λ x. is_dangling (length os) x ≡ false) (λ x i. not-dangling kind x i) s.items a.0.items)) (slots-not-dangling c id ss a.1)

  none-dangling : (ws : List ObjectData) → AllByRecursion (IsObjectIn m k os) ws → dangling m (length os) ws ≡ None
  none-dangling [] a = refl
  none-dangling (w ∷ ws) a = rw (slots-not-dangling w.class.0 w.id w.slots a.0.slots) (none-dangling ws a.1)

  ids-back : (ws : List ObjectData) → map_items id_of (items_of (map (written_object m os) ws)) ≡ ids ws
  ids-back [] = refl
  ids-back (w ∷ ws) = ap (λ is. w.id ∷ is) (ids-back ws)

  pub model_from-object_values : model_from m k (object_values m os) ≡ Ok os
  unfolding model_from distinct_ids
  model_from-object_values =
      let classes = each_item-is (class_read m k) (written_object m os) (λ o. o.class) os (All-weaken (IsObjectIn m k os) (λ o. class_read m k (written_object m os o) ≡ Ok o.class) (λ o h. class-back o h) os model.objects) in
      let features = walk_items-ok (object_known m k) (written_object m os) os (All-weaken (IsObjectIn m k os) (λ o. object_known m k (written_object m os o) ≡ Ok tt) (λ o h. object-known o h) os model.objects) in
      let objects = each_item-back (object_read m k (places_of os)) (written_object m os) os
      (All-both (IsObjectIn m k os) (λ o. AllByRecursion (HoldsOne m) o.slots) (λ o. object_read m k (places_of os) (written_object m os o) ≡ Ok o) (λ o h ones. object-back o h ones) os model.objects storable.ones) in
      rw (ids-back os, repeated-differ (ids os) model.ids, classes, features, objects, none-dangling os model.objects)
