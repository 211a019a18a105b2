-- What is read as a model has the parts that a model has.
use Rattle.std.proofs.Common.{◌&&◌, ◌≡◌, ◌∙◌, ℕ, zero, suc, ◌<◌, List, [], ◌∷◌, length, map, Bool, true, false, cond, not, nat_lt, IsTrue, Option, Some, None, option_map, Greater, Ok, slice_index_or, position, refl, sym, ap, subst, arith, ltb-true, ◌==◌}
use Rattle.std.specs.Prelude.{option_and_then, is_some, codes}
use Rattle.std.specs.Ordering.{nat_cmp}
use Rattle.std.specs.Cmp.Lexicographic.{slice_cmp}
use Rattle.std.specs.List.{list_any, AllByRecursion}
use Rattle.std.specs.Str.{bytes_eq}
use Rattle.std.proofs.lemmas.Bool.{and_parts, or_parts, eqb-true, eq-eqb}
use Rattle.std.proofs.lemmas.List.{length-map}
use Rattle.std.proofs.lemmas.List.Quantifiers.{position-Some}
use Rattle.std.proofs.lemmas.Slice.Eq.{bytes_eq-Decides}
use Rattle.serde_json.specs.Data.{Data, Items, Members, no_members, member}
use Rattle.serde_json.specs.Find.{as_null, as_bool, as_str, as_number, as_i64, as_array}
use Rattle.qvt_base.specs.declared.numbers.ClassNo.{ClassNo}
use Rattle.qvt_base.specs.declared.numbers.FeatureNo.{FeatureNo}
use Rattle.qvt_metamodel.specs.declared.info.TypeKind.{TypeKind}
use Rattle.qvt_metamodel.specs.declared.info.TypeKind.TheVariants.{Bool as BoolKind, Int as IntKind, Str as StrKind, Enum as EnumKind, Class as ClassKind}
use Rattle.qvt_metas.specs.Metamodels.{Metamodels, class_at, feature_at, shape_of, is_single, features_of, has_feature, nowhere_class}
use Rattle.qvt_metas.specs.Descends.{descends}
use Rattle.qvt_metas.specs.Named.{class_named, feature_named, literal_named, enumeration_at}
use Rattle.qvt_json.specs.Json.{map_items, text_or}
use Rattle.qvt_json.specs.Leaves.{is_id}
use Rattle.qvt_json.specs.Plain.{KeysAfter}
use Rattle.qvt_json.specs.Repeated.{repeated}
use Rattle.qvt_results.specs.Bind.{◌>>=◌}
use Rattle.qvt_json.specs.Steps.{or_fault, none_of, each_item, walk_items, all_items}
use Rattle.qvt_json.proofs.Ordered.{some-injective, both-some, map-some, ItemsOrdered, MembersOrdered, members_or-ordered}
use Rattle.qvt_model.specs.Reading.{id_of, slots_in, numbered_class, distinct_ids, class_read, feature_of, object_known, class_at_place, ref_at, ref_of, literal_in, datum_of, one_item, items_read, slot_read, has_items, with_filled_slot, slots_of, object_read, is_dangling, slots_dangling, dangling, model_from}
use Rattle.qvt_model.specs.WellFormed.{object_data_at, no_object, ids, none_repeats, IsItem, IsPlainDatum, IsPlainSlot, IsPlainObject, IsSlot, ComeAfter, AreInNameOrder, IsObjectIn, IsModel}
use Rattle.qvt_model.specs.declared.places.Places.{Places}
use Rattle.qvt_model.specs.declared.data.Datum.{Datum}
use Rattle.qvt_model.specs.declared.data.Datum.TheVariants.{Bool as BoolDatum, Int, Str, Ref}
use Rattle.qvt_model.specs.declared.data.SlotData.{SlotData}
use Rattle.qvt_model.specs.declared.data.ObjectData.{ObjectData}
use Rattle.qvt_model.specs.declared.data.ModelFault.TheVariants.{SameId, UnknownClass, UnknownFeature, WrongValue, DanglingId}
use Rattle.qvt_model.proofs.Lists.{index-map}
use Rattle.qvt_model.proofs.Steps.{ok-injective, ok-bind, ok-or_fault, ok-none_of, neither, each_item-through, each_item-map, each_item-all, all_items-all, find-some, find-any, differ-repeated}

not-false : (b : Bool) → not b ≡ false → b ≡ true
not-false true e = refl
not-false false e = cc

-- ---- classes and features

class-parts : (m : Metamodels) (k : ℕ) (d : Data) (c : ClassNo) → class_read m k d ≡ Ok c → (c.0 < length m.classes) × ((class_at m c.0).metamodel ≡ k)
unfolding class_read
class-parts m k d c e =
    let name = text_or (codes "class") d in
    let found = map-some numbered_class (class_named m k name) c (ok-or_fault (UnknownClass (id_of d)) (option_map numbered_class (class_named m k name)) c e) in
    let same : found.0 ≡ c.0 = ap (λ (x : ClassNo). x.0) found.2 in
    let place = position-Some (λ x. (x.metamodel == k) && bytes_eq name x.name) m.classes found.0 nowhere_class found.1 in
    let here = and_parts ((class_at m found.0).metamodel == k) (bytes_eq name (class_at m found.0).name) place.1 in
    (subst (λ n. n < length m.classes) same place.0, ap (λ n. (class_at m n).metamodel) (sym same) ∙ eqb-true (class_at m found.0).metamodel k here.0)

feature-parts : (m : Metamodels) (c : ClassNo) (id name : List ℕ) (f : FeatureNo) → feature_of m c id name ≡ Ok f → IsTrue (has_feature m c.0 f.0) × ((feature_at m f.0).name ≡ name)
unfolding feature_of
feature-parts m c id name f e =
    let found : feature_named m c.0 name ≡ Some f = ok-or_fault (UnknownFeature id) (feature_named m c.0 name) f e in
    let named = find-some (λ g. bytes_eq name (feature_at m g.0).name) (features_of m c.0) f found in
    (find-any (λ g. bytes_eq name (feature_at m g.0).name) (λ g. g.0 == f.0) (features_of m c.0) f found (eq-eqb f.0 f.0 refl), sym ((bytes_eq-Decides name (feature_at m f.0).name).0 named))

-- ---- items

module _ (m : Metamodels) (places : Places) (os : List ObjectData) (classes : places.classes ≡ map (λ o. o.class) os) (count : length places.ids ≡ length os) where
  class-here : (i : ℕ) → class_at_place places i ≡ (object_data_at os i).class
  class-here i = ap (λ cs. slice_index_or cs i (record { 0 = 0 })) classes ∙ index-map (λ o. o.class) os i no_object

  not_past : (x : Datum) → Some (Ref (length places.ids)) ≡ Some x → is_dangling (length os) x ≡ false → ⊥
  not_past x e d =
      let here : not (nat_lt (length places.ids) (length os)) ≡ false = ap (is_dangling (length os)) (some-injective (Ref (length places.ids)) x e) ∙ d in
      let below : length places.ids < length os = ltb-true (length places.ids) (length os) (not-false (nat_lt (length places.ids) (length os)) here) in
      omega (arith, count, below)

  found-item : (c : ClassNo) (i : ℕ) (x : Datum) → i < length os → ref_at m places c (Some i) ≡ Some x → IsItem m os (ClassKind c) x
  found-item c i x lt e = by (descends m (class_at_place places i).0 c.0) refl e
    where
      by : (b : Bool) → descends m (class_at_place places i).0 c.0 ≡ b → cond b (Some (Ref i)) None ≡ Some x → IsItem m os (ClassKind c) x
      by true is e = subst (IsItem m os (ClassKind c)) (some-injective (Ref i) x e) (lt, ap (λ (a : ClassNo). descends m a.0 c.0) (sym (class-here i)) ∙ is)
      by false is e = absurd (cc)

  place-item : (c : ClassNo) (id : List ℕ) (x : Datum) → ref_at m places c (position (bytes_eq id) places.ids) ≡ Some x → is_dangling (length os) x ≡ false → IsItem m os (ClassKind c) x
  place-item c id x e d = by (position (bytes_eq id) places.ids) refl e
    where
      by : (o : Option ℕ) → position (bytes_eq id) places.ids ≡ o → ref_at m places c o ≡ Some x → IsItem m os (ClassKind c) x
      by None is e = absurd (not_past x e d)
      by (Some i) is e =
          let at = position-Some (bytes_eq id) places.ids i [] is in
          found-item c i x (omega (arith, at.0, count)) e

  ref-item : (c : ClassNo) (id : List ℕ) (x : Datum) → ref_of m places c id ≡ Some x → is_dangling (length os) x ≡ false → IsItem m os (ClassKind c) x
  unfolding ref_of
  ref-item c id x e d = by (is_id id) e
    where
      by : (b : Bool) → cond b (ref_at m places c (position (bytes_eq id) places.ids)) None ≡ Some x → IsItem m os (ClassKind c) x
      by true e = place-item c id x e d
      by false e = absurd (cc)

  datum-item : (kind : TypeKind) (v : Data) (x : Datum) → datum_of m places kind v ≡ Some x → IsPlainDatum x → is_dangling (length os) x ≡ false → IsItem m os kind x
  unfolding datum_of
  datum-item BoolKind v x e p d = let q = map-some BoolDatum (as_bool v) x e in subst (IsItem m os BoolKind) q.2 tt
  datum-item IntKind v x e p d =
      let q = map-some Int (option_and_then as_i64 (as_number v)) x e in
      let fits : IsPlainDatum (Int q.0) = subst IsPlainDatum (sym q.2) p in
      subst (IsItem m os IntKind) q.2 fits
  datum-item StrKind v x e p d =
      let q = map-some Str (as_str v) x e in
      let utf8 : IsPlainDatum (Str q.0) = subst IsPlainDatum (sym q.2) p in
      subst (IsItem m os StrKind) q.2 utf8
  datum-item (EnumKind a b) v x e p d =
      let q = map-some (literal_in a b) (option_and_then (literal_named m a b) (as_str v)) x e in
      let name = both-some (literal_named m a b) (as_str v) q.0 q.1 in
      let place = position-Some (bytes_eq name.0) (enumeration_at m a b).literals q.0 [] name.2 in
      subst (IsItem m os (EnumKind a b)) q.2 (refl, refl, place.0)
  datum-item (ClassKind c) v x e p d = let q = both-some (ref_of m places c) (as_str v) x e in ref-item c q.0 x q.2 d

  abbrev Fine : Datum → Type 0
  Fine x = IsPlainDatum x × (is_dangling (length os) x ≡ false)

  all-fine : (xs : List Datum) → AllByRecursion IsPlainDatum xs → list_any (is_dangling (length os)) xs ≡ false → AllByRecursion Fine xs
  all-fine [] a e = tt
  all-fine (x ∷ xs) a e = let p = or_parts (is_dangling (length os) x) (list_any (is_dangling (length os)) xs) e in ((a.0, p.0), all-fine xs a.1 p.1)

  one-items : (kind : TypeKind) (v : Data) (xs : List Datum) → one_item (datum_of m places kind) v ≡ Some xs → AllByRecursion Fine xs → AllByRecursion (IsItem m os kind) xs
  one-items kind v xs e a = by (is_some (as_null v)) e
    where
      by : (b : Bool) → cond b (Some []) (option_map (λ x. x ∷ []) (datum_of m places kind v)) ≡ Some xs → AllByRecursion (IsItem m os kind) xs
      by true e = subst (AllByRecursion (IsItem m os kind)) (some-injective [] xs e) tt
      by false e =
          let q = map-some (λ x. x ∷ []) (datum_of m places kind v) xs e in
          let fine : AllByRecursion Fine (q.0 ∷ []) = subst (AllByRecursion Fine) (sym q.2) a in
          subst (AllByRecursion (IsItem m os kind)) q.2 (datum-item kind v q.0 q.1 fine.0.0 fine.0.1, tt)

  list-items : (kind : TypeKind) (v : Data) (xs : List Datum) → option_and_then (all_items (datum_of m places kind)) (as_array v) ≡ Some xs → AllByRecursion Fine xs → AllByRecursion (IsItem m os kind) xs
  list-items kind v xs e a =
      let q = both-some (all_items (datum_of m places kind)) (as_array v) xs e in
      all_items-all (datum_of m places kind) Fine (IsItem m os kind) (λ d x is fine. datum-item kind d x is fine.0 fine.1) q.0 xs q.2 a

  slot-items : (f : FeatureNo) (v : Data) (xs : List Datum) → items_read m places f v ≡ Some xs → AllByRecursion Fine xs → AllByRecursion (IsItem m os (shape_of m f.0).kind) xs
  unfolding items_read
  slot-items f v xs e a = by (is_single m f.0) e
    where
      by : (b : Bool) → cond b (one_item (datum_of m places (shape_of m f.0).kind) v) (option_and_then (all_items (datum_of m places (shape_of m f.0).kind)) (as_array v)) ≡ Some xs
          → AllByRecursion (IsItem m os (shape_of m f.0).kind) xs
      by true e = one-items (shape_of m f.0).kind v xs e a
      by false e = list-items (shape_of m f.0).kind v xs e a

  -- ---- slots

  pub record HasParts (c : ClassNo) (name : List ℕ) (v : Data) (s : SlotData) : Type 0 where
    pub own : IsTrue (has_feature m c.0 s.feature.0)
    pub named : (feature_at m s.feature.0).name ≡ name
    pub items : items_read m places s.feature v ≡ Some s.items

  slot-parts : (c : ClassNo) (id name : List ℕ) (v : Data) (s : SlotData) → slot_read m places c id name v ≡ Ok s → HasParts c name v s
  unfolding slot_read
  slot-parts c id name v s e =
      let f = ok-bind (feature_of m c id name) (λ f. or_fault (WrongValue id name) (items_read m places f v) >>= λ xs. Ok (record { feature = f; items = xs })) s e in
      let xs = ok-bind (or_fault (WrongValue id name) (items_read m places f.0 v)) (λ xs. Ok (record { feature = f.0; items = xs })) s f.2 in
      let same = ok-injective (record { feature = f.0; items = xs.0 }) s xs.2 in
      let parts = feature-parts m c id name f.0 f.1 in
      subst (HasParts c name v) same (record { own = parts.0; named = parts.1; items = ok-or_fault (WrongValue id name) (items_read m places f.0 v) xs.0 xs.1 })

  dangling-parts : (id : List ℕ) (s : SlotData) (ss : List SlotData) → slots_dangling m (length os) id (s ∷ ss) ≡ None → (list_any (is_dangling (length os)) s.items ≡ false) × (slots_dangling m (length os) id ss ≡ None)
  dangling-parts id s ss e = by (list_any (is_dangling (length os)) s.items) refl e
    where
      by : (b : Bool) → list_any (is_dangling (length os)) s.items ≡ b → cond b (Some (DanglingId id (feature_at m s.feature.0).name)) (slots_dangling m (length os) id ss) ≡ None
          → (list_any (is_dangling (length os)) s.items ≡ false) × (slots_dangling m (length os) id ss ≡ None)
      by true is e = absurd (cc)
      by false is e = (is, e)

  slot-sound : (c : ClassNo) (name : List ℕ) (v : Data) (s : SlotData) → HasParts c name v s → has_items s ≡ true → IsPlainSlot s → list_any (is_dangling (length os)) s.items ≡ false → IsSlot m os c.0 s
  slot-sound c name v s h some plain none =
      record { own = h.own; some = ltb-true 0 (length s.items) some; items = slot-items s.feature v s.items h.items (all-fine s.items plain none) }

  abbrev Follows : List ℕ → Members → List SlotData → Type 0
  Follows name ms ss = KeysAfter name ms → ComeAfter m name ss

  slots-after : (c : ClassNo) (id name : List ℕ) (ms : Members) (ss : List SlotData) → slots_of m places c id ms ≡ Ok ss → KeysAfter name ms → ComeAfter m name ss
  slots-after c id name no_members ss e a = subst (ComeAfter m name) (ok-injective [] ss e) tt
  slots-after c id name (member key v ms) ss e a =
      let s = ok-bind (slot_read m places c id key v) (λ s. slots_of m places c id ms >>= λ ts. Ok (with_filled_slot s ts)) ss e in
      let ts = ok-bind (slots_of m places c id ms) (λ ts. Ok (with_filled_slot s.0 ts)) ss s.2 in
      let parts = slot-parts c id key v s.0 s.1 in
      let above : slice_cmp nat_cmp (feature_at m s.0.feature.0).name name ≡ Greater = ap (λ n. slice_cmp nat_cmp n name) parts.named ∙ a.0 in
      let rest : ComeAfter m name ts.0 = slots-after c id name ms ts.0 ts.1 a.1 in
      subst (ComeAfter m name) (ok-injective (with_filled_slot s.0 ts.0) ss ts.2) (joined (has_items s.0) s.0 ts.0 name above rest)
    where
      joined : (b : Bool) (s : SlotData) (ts : List SlotData) (name : List ℕ) → slice_cmp nat_cmp (feature_at m s.feature.0).name name ≡ Greater → ComeAfter m name ts → ComeAfter m name (cond b (s ∷ ts) ts)
      joined true s ts name above rest = (above, rest)
      joined false s ts name above rest = rest

  abbrev SlotsSound : ClassNo → List SlotData → Type 0
  SlotsSound c ss = AllByRecursion (IsSlot m os c.0) ss × AreInNameOrder m ss

  slots-sound : (c : ClassNo) (id : List ℕ) (ms : Members) (ss : List SlotData) → MembersOrdered ms → slots_of m places c id ms ≡ Ok ss → AllByRecursion IsPlainSlot ss → slots_dangling m (length os) id ss ≡ None
      → SlotsSound c ss
  slots-sound c id no_members ss o e plain none = subst (SlotsSound c) (ok-injective [] ss e) (tt, tt)
  slots-sound c id (member key v ms) ss o e plain none =
      let s = ok-bind (slot_read m places c id key v) (λ s. slots_of m places c id ms >>= λ ts. Ok (with_filled_slot s ts)) ss e in
      let ts = ok-bind (slots_of m places c id ms) (λ ts. Ok (with_filled_slot s.0 ts)) ss s.2 in
      let same = ok-injective (with_filled_slot s.0 ts.0) ss ts.2 in
      let parts = slot-parts c id key v s.0 s.1 in
      let after : ComeAfter m (feature_at m s.0.feature.0).name ts.0 = subst (λ n. ComeAfter m n ts.0) (sym parts.named) (slots-after c id key ms ts.0 ts.1 o.0) in
      let plain' : AllByRecursion IsPlainSlot (with_filled_slot s.0 ts.0) = subst (AllByRecursion IsPlainSlot) (sym same) plain in
      let none' : slots_dangling m (length os) id (with_filled_slot s.0 ts.0) ≡ None = ap (slots_dangling m (length os) id) same ∙ none in
      subst (SlotsSound c) same (joined c id key v (has_items s.0) s.0 ts.0 refl parts after (slots-sound c id ms ts.0 o.2 ts.1) plain' none')
    where
      joined : (c : ClassNo) (id key : List ℕ) (v : Data) (b : Bool) (s : SlotData) (ts : List SlotData) → has_items s ≡ b → HasParts c key v s → ComeAfter m (feature_at m s.feature.0).name ts
          → (AllByRecursion IsPlainSlot ts → slots_dangling m (length os) id ts ≡ None → SlotsSound c ts)
          → AllByRecursion IsPlainSlot (cond b (s ∷ ts) ts) → slots_dangling m (length os) id (cond b (s ∷ ts) ts) ≡ None → SlotsSound c (cond b (s ∷ ts) ts)
      joined c id key v true s ts is parts after rest plain none =
          let none-here = dangling-parts id s ts none in
          let below = rest plain.1 none-here.1 in
          ((slot-sound c key v s parts is plain.0 none-here.0, below.0), (after, below.1))
      joined c id key v false s ts is parts after rest plain none = rest plain none

-- ---- objects

pub record HasSource (m : Metamodels) (k : ℕ) (places : Places) (d : Data) (o : ObjectData) : Type 0 where
  pub class : class_read m k d ≡ Ok o.class
  pub id : o.id ≡ id_of d
  pub slots : slots_of m places o.class (id_of d) (slots_in d) ≡ Ok o.slots

object-parts : (m : Metamodels) (k : ℕ) (places : Places) (d : Data) (o : ObjectData) → object_read m k places d ≡ Ok o → HasSource m k places d o
unfolding object_read
object-parts m k places d o e =
    let c = ok-bind (class_read m k d) (λ c. slots_of m places c (id_of d) (slots_in d) >>= λ ss. Ok (record { class = c; id = id_of d; slots = ss })) o e in
    let ss = ok-bind (slots_of m places c.0 (id_of d) (slots_in d)) (λ ss. Ok (record { class = c.0; id = id_of d; slots = ss })) o c.2 in
    let same = ok-injective (record { class = c.0; id = id_of d; slots = ss.0 }) o ss.2 in
    subst (HasSource m k places d) same (record { class = c.1; id = refl; slots = ss.1 })

abbrev IsClear : Metamodels → ℕ → ObjectData → Type 0
IsClear m n o = IsPlainObject o × (slots_dangling m n o.id o.slots ≡ None)

all-clear : (m : Metamodels) (n : ℕ) (os : List ObjectData) → AllByRecursion IsPlainObject os → dangling m n os ≡ None → AllByRecursion (IsClear m n) os
all-clear m n [] a e = tt
all-clear m n (o ∷ os) a e = let p = neither (slots_dangling m n o.id o.slots) (dangling m n os) e in ((a.0, p.0), all-clear m n os a.1 p.1)

map-none : {A B : Type 0} (f : A → B) (o : Option A) → option_map f o ≡ None → o ≡ None
map-none f None e = refl
map-none f (Some x) e = absurd (cc)

sound : (m : Metamodels) (k : ℕ) (ds : Items) (places : Places) (os : List ObjectData) → ItemsOrdered ds → map_items id_of ds ≡ places.ids → repeated [] (map_items id_of ds) ≡ None
    → each_item (class_read m k) ds ≡ Ok places.classes → each_item (object_read m k places) ds ≡ Ok os → dangling m (length os) os ≡ None → AllByRecursion IsPlainObject os → IsModel m k os
sound m k ds places os ordered same_ids none classes_are objects_are clear plain =
    let classes : places.classes ≡ map (λ o. o.class) os =
    ok-injective places.classes (map (λ o. o.class) os)
    (sym classes_are ∙ each_item-through (class_read m k) (object_read m k places) (λ o. o.class) (λ d o e. (object-parts m k places d o e).class) ds os objects_are) in
    let named : map_items id_of ds ≡ ids os = sym (each_item-map id_of (object_read m k places) (λ o. o.id) (λ d o e. (object-parts m k places d o e).id) ds os objects_are) in
    let count : length places.ids ≡ length os = ap length (sym same_ids ∙ named) ∙ length-map os (λ o. o.id) in
    record {
      ids = ap none_repeats (sym named) ∙ differ-repeated (map_items id_of ds) none;
      objects = each_item-all (object_read m k places) (IsClear m (length os)) (IsObjectIn m k os)
          (λ d o in_order e c.
          let h = object-parts m k places d o e in
          let class = class-parts m k d o.class h.class in
          let slots = slots-sound m places os classes count o.class (id_of d) (slots_in d) o.slots (members_or-ordered (codes "slots") d in_order) h.slots c.0 (ap (λ id. slots_dangling m (length os) id o.slots) (sym h.id) ∙ c.1) in
          record { class = class.0; metamodel = class.1; slots = slots.0; order = slots.1 })
          ds os ordered objects_are (all-clear m (length os) os plain clear);
    }

pub IsModel-model_from : (m : Metamodels) (k : ℕ) (ds : Items) (os : List ObjectData) → ItemsOrdered ds → model_from m k ds ≡ Ok os → AllByRecursion IsPlainObject os → IsModel m k os
unfolding model_from distinct_ids
IsModel-model_from m k ds os ordered e plain =
    let all = map_items id_of ds in
    let places = λ (is : List (List ℕ)) (cs : List ClassNo). let p : Places = record { ids = is; classes = cs } in p in
    let checked = λ (ys : List ObjectData). none_of (dangling m (length ys) ys) >>= λ _. Ok ys in
    let read = λ (is : List (List ℕ)) (cs : List ClassNo). each_item (object_read m k (places is cs)) ds >>= checked in
    let known = λ (is : List (List ℕ)) (cs : List ClassNo). walk_items (object_known m k) ds >>= λ _. read is cs in
    let ids_step = ok-bind (distinct_ids ds) (λ is. each_item (class_read m k) ds >>= known is) os e in
    let id_parts = ok-bind (none_of (option_map SameId (repeated [] all))) (λ _. Ok all) ids_step.0 ids_step.1 in
    let none = map-none SameId (repeated [] all) (ok-none_of (option_map SameId (repeated [] all)) id_parts.0 id_parts.1) in
    let class_step = ok-bind (each_item (class_read m k) ds) (known ids_step.0) os ids_step.2 in
    let known_step = ok-bind (walk_items (object_known m k) ds) (λ _. read ids_step.0 class_step.0) os class_step.2 in
    let object_step = ok-bind (each_item (object_read m k (places ids_step.0 class_step.0)) ds) checked os known_step.2 in
    let last_step = ok-bind (none_of (dangling m (length object_step.0) object_step.0)) (λ _. Ok object_step.0) os object_step.2 in
    let same = ok-injective object_step.0 os last_step.2 in
    let clear = ok-none_of (dangling m (length object_step.0) object_step.0) last_step.0 last_step.1 in
    subst (IsModel m k) same (sound m k ds (places ids_step.0 class_step.0) object_step.0 ordered (ok-injective all ids_step.0 id_parts.2) none class_step.1 object_step.1 clear (subst (AllByRecursion IsPlainObject) (sym same) plain))
