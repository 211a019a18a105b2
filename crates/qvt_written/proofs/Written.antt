-- The data of a model of a sound store have no fault.
use Rattle.std.proofs.Common.{◌≡◌, ℕ, zero, suc, ◌+◌, ◌<◌, Bool, true, false, ◌==◌, ◌&&◌, not, cond, inl, inr, refl, sym, ap, ◌∙◌, subst, List, [], ◌∷◌, map, length, nat_lt, nat_le, get_or, lt-ltb, le-ltb, ltb-false, le-leb, arith}
use Rattle.std.specs.Prelude.{Option, Some, None, option_map}
use Rattle.std.specs.List.{list_any, list_all, filter_map, AllByRecursion}
use Rattle.std.proofs.lemmas.Bool.Decides.{Decides-eqb}
use Rattle.qvt_base.specs.declared.numbers.FeatureNo.{FeatureNo}
use Rattle.qvt_base.specs.declared.numbers.Oid.{Oid}
use Rattle.qvt_value.specs.declared.value.Value.{Value}
use Rattle.qvt_value.specs.declared.value.Value.TheVariants.{Bool as BoolValue, Int as IntValue, Str as StrValue, Enum as EnumValue, Obj}
use Rattle.qvt_json.specs.Steps.{or_next}
use Rattle.qvt_metamodel.specs.declared.info.TypeKind.{TypeKind}
use Rattle.qvt_metamodel.specs.declared.info.TypeKind.TheVariants.{Bool as BoolKind, Int as IntKind, Str as StrKind, Enum as EnumKind, Class as ClassKind}
use Rattle.qvt_metamodel.specs.Metamodels.{Metamodels, class_at, feature_at, features_of, among_features, has_feature, shape_of, opposite, is_opposite, is_feature_number, is_containment}
use Rattle.qvt_metamodel.proofs.Regular.{regular_of}
use Rattle.qvt_relation.proofs.Bools.{and_left, and_right, and_both, and_false, or_cases, or_left, or_right, or_none, not_of_true, either, clash}
use Rattle.qvt_store.specs.Slots.{is_object, has}
use Rattle.qvt_store.specs.Repeats.{repeats}
use Rattle.qvt_store.specs.Assign.{exceeds_bound}
use Rattle.qvt_slots.proofs.Lists.{length-map}
use Rattle.qvt_store.specs.Contents.{Contents, class_of, extent_at, is_live, is_model, slot_of, members_of}
use Rattle.qvt_store.specs.Types.{is_of_kind}
use Rattle.qvt_store.specs.Sound.{Sound}
use Rattle.qvt_store.specs.Stay.{IsStore}
use Rattle.qvt_store_laws.proofs.After.{item_object}
use Rattle.qvt_model.specs.declared.data.Datum.{Datum}
use Rattle.qvt_model.specs.declared.data.Datum.TheVariants.{Bool as BoolDatum, Int, Str, Literal, Ref}
use Rattle.qvt_model.specs.declared.data.SlotData.{SlotData}
use Rattle.qvt_model.specs.declared.data.ObjectData.{ObjectData}
use Rattle.qvt_model.specs.Extents.{place_within, datum_in, filled_slots, object_data_of, objects_from, data_of}
use Rattle.qvt_model.specs.Items.{items_in}
use Rattle.qvt_model.specs.WellFormed.{object_data_at, AreInNameOrder, IsObjectIn, IsModel}
use Rattle.qvt_model.proofs.Extents.{each-among, IsModel-data_of}
use Rattle.qvt_model.proofs.Final.{not_own, all_at}
use Rattle.qvt_model.proofs.Lists.{All-weaken}
use Rattle.qvt_model.proofs.RunIds.{none}
use Rattle.qvt_conform.specs.declared.fault.ConformFault.{ConformFault}
use Rattle.qvt_conform.specs.declared.fault.ConformFault.TheVariants.{Abstract, Bounds, NotUnique, Opposite, TwoContainers, ContainmentCycle}
use Rattle.qvt_conform.specs.declared.fault.LowFault.{LowFault}
use Rattle.qvt_conform.specs.Items.{same_item, is_at_most, is_within, is_ref, lacks, lack_opposite}
use Rattle.qvt_repeats.specs.Repeats.{repeats_by}
use Rattle.qvt_conform.specs.Containment.{contents}
use Rattle.qvt_conform.specs.Conformance.{fault_if, feature_fault, features_fault, containment_fault, object_fault, faults_from, conform_fault}
use Rattle.qvt_conform.specs.LowerBounds.{is_low, low_feature, low_object, low_of}
use Rattle.qvt_cycle.specs.Successors.{how_often_in, is_on_cycle}
use Rattle.qvt_written.specs.Law.{WrittenConforms}
use Rattle.qvt_written.proofs.Datums.{back, IsWithin, no_repeat, refers, all_stand}
use Rattle.qvt_written.proofs.Slots.{IsHeld, are_held, items_are}
use Rattle.qvt_written.proofs.Members.{members, object, count, number, member, apart, placed, count-objects, object-there}
use Rattle.qvt_written.proofs.Containments.{alone, no_cycle}

-- ---- faults

unless : (b : Bool) (f : ConformFault) → b ≡ false → fault_if b f ≡ None
unless b f n = ap (λ c. fault_if c f) n

both_none : (a b : Option ConformFault) → a ≡ None → b ≡ None → or_next a b ≡ None
both_none a b p q = ap (λ o. or_next o b) p ∙ q

at_most : (n : ℕ) (u : Option ℕ) → exceeds_bound n u ≡ false → is_at_most n u ≡ true
at_most n None h = refl
at_most n (Some most) h = le-leb n most (ltb-false most n h)

-- ---- lower bounds

abbrev low_at : Oid → FeatureNo → LowFault
low_at x f = record { object = x; feature = f }

enough : (s : Contents) (x : Oid) (fs : List FeatureNo) (f : ℕ) → low_feature s x fs ≡ None → among_features f fs ≡ true → is_low s x.0 f ≡ false
enough s x [] f e h = clash false h refl
enough s x (g ∷ fs) f e h = by (λ n m. enough s x fs f n m) (is_low s x.0 g.0) refl e
  where
    by : (low_feature s x fs ≡ None → among_features f fs ≡ true → is_low s x.0 f ≡ false) → (b : Bool) → is_low s x.0 g.0 ≡ b → cond b (Some (low_at x g)) (low_feature s x fs) ≡ None → is_low s x.0 f ≡ false
    by rest true is e = absurd (cc)
    by rest false is e = elim (or_cases (g.0 == f) (among_features f fs) h) [
      | inl here ↦ subst (λ k. is_low s x.0 k ≡ false) ((Decides-eqb g.0 f).0 here) is
      | inr later ↦ rest e later
    ]

neither : {F : Type 0} (o p : Option F) → or_next o p ≡ None → (o ≡ None) × (p ≡ None)
neither None p e = (refl, e)
neither (Some f) p e = absurd (cc)

each_enough : (s : Contents) (ms : List Oid) → low_object s ms ≡ None → (i : ℕ) → i < length ms → low_feature s (get_or ms i none) (features_of s.metas (class_of s (get_or ms i none).0)) ≡ None
each_enough s [] e i l = absurd (omega arith)
each_enough s (x ∷ ms) e zero l = (neither (low_feature s x (features_of s.metas (class_of s x.0))) (low_object s ms) e).0
each_enough s (x ∷ ms) e (suc i) l = each_enough s ms (neither (low_feature s x (features_of s.metas (class_of s x.0))) (low_object s ms) e).1 i (omega arith)

-- ---- the data of an extent

module _ (s : Contents) (e : ℕ) (store : IsStore s) (sound : Sound s) (model : is_model s e ≡ true) (bounded : low_of s e ≡ None) where
  abbrev m : Metamodels
  m = s.metas

  abbrev xs : List ℕ
  xs = members s e

  abbrev at : ℕ → ℕ
  at = object s e

  abbrev os : List ObjectData
  os = objects_from s xs 1 xs

  long : length os ≡ length xs
  long = count-objects s xs 1 xs

  inner : (i : ℕ) → i < length os → i < length xs
  inner i l = subst (λ n. i < n) long l

  there : (i : ℕ) → i < length xs → object_data_at os i ≡ object_data_of s xs (1 + i) (at i)
  there i l = object-there s xs 1 xs i l

  class : (i : ℕ) → i < length xs → (object_data_at os i).class.0 ≡ class_of s (at i)
  unfolding object_data_of
  class i l = ap (λ (o : ObjectData). o.class.0) (there i l)

  is_data : IsModel m (extent_at s e).metamodel os
  unfolding data_of
  is_data = IsModel-data_of s e store sound

  is : (i : ℕ) → i < length os → IsObjectIn m (extent_at s e).metamodel os (object_data_at os i)
  is i l = all_at m (extent_at s e).metamodel os os i is_data.objects l

  live : (i : ℕ) → i < length xs → is_live s (at i) ≡ true
  live i l = lt-ltb (at i) (length s.objects) (member s e i l).0

  -- ---- what they hold

  item_of : (k : TypeKind) (v : Value) → is_of_kind s k v ≡ true → ((y : ℕ) → is_object y v ≡ true → (i : ℕ) × (place_within xs y ≡ Some i)) → (d : Datum) × (datum_in xs v ≡ Some d)
  item_of BoolKind (BoolValue b) t p = (BoolDatum b, refl)
  item_of BoolKind _ t p = absurd (cc)
  item_of IntKind (IntValue z) t p = (Int z, refl)
  item_of IntKind _ t p = absurd (cc)
  item_of StrKind (StrValue w) t p = (Str w, refl)
  item_of StrKind _ t p = absurd (cc)
  item_of (EnumKind a b) (EnumValue l) t p = (Literal l, refl)
  item_of (EnumKind a b) _ t p = absurd (cc)
  item_of (ClassKind c) (Obj o) t p = let q = p o.0 ((Decides-eqb o.0 o.0).1 refl) in (Ref q.0, ap (λ k. option_map Ref k) q.1)
  item_of (ClassKind c) _ t p = absurd (cc)

  items_of_all : (k : TypeKind) (vs : List Value) → list_all (is_of_kind s k) vs ≡ true → ((y : ℕ) → has vs y ≡ true → (i : ℕ) × (place_within xs y ≡ Some i)) → AllByRecursion (λ v. (d : Datum) × (datum_in xs v ≡ Some d)) vs
  items_of_all k [] h p = tt
  items_of_all k (v ∷ vs) h p = (
    item_of k v (and_left (is_of_kind s k v) (list_all (is_of_kind s k) vs) h) (λ y t. p y (or_left (is_object y v) (has vs y) t)),
    items_of_all k vs (and_right (is_of_kind s k v) (list_all (is_of_kind s k) vs) h) (λ y t. p y (or_right (is_object y v) (has vs y) t)),
  )

  -- a model holds its own objects alone
  own : (i f : ℕ) → i < length xs → (y : ℕ) → has (slot_of s (at i) f) y ≡ true → (k : ℕ) × (place_within xs y ≡ Some k)
  own i f l y h =
      placed s e y (and_left (is_live s y) _ (item_object s f (slot_of s (at i) f) y (sound.parts.typed.types (at i) f) h))
      (sound.parts.own_objects (at i) f y (ap (is_model s) (member s e i l).1 ∙ model) h ∙ (member s e i l).1)

  held : (i f : ℕ) → i < length xs → (map (back at) (filter_map (datum_in xs) (slot_of s (at i) f)) ≡ slot_of s (at i) f) × AllByRecursion (IsWithin (length xs)) (filter_map (datum_in xs) (slot_of s (at i) f))
  held i f l = all_stand xs (slot_of s (at i) f) (items_of_all (shape_of m f).kind (slot_of s (at i) f) (sound.parts.typed.types (at i) f) (own i f l))

  no_slot : (i f : ℕ) → has_feature m (class_of s (at i)) f ≡ false → slot_of s (at i) f ≡ []
  no_slot i f n = elim (sound.parts.features (at i) f) [
    | inl h ↦ clash (has_feature m (class_of s (at i)) f) (and_right (is_live s (at i)) (has_feature m (class_of s (at i)) f) h) n
    | inr h ↦ h
  ]

  items : (i f : ℕ) → i < length os → items_in f (object_data_at os i).slots ≡ filter_map (datum_in xs) (slot_of s (at i) f)
  unfolding object_data_of
  items i f l = elim (either (has_feature m (class_of s (at i)) f)) [
    | inl h ↦ ap (λ (o : ObjectData). items_in f o.slots) (there i (inner i l)) ∙ items_are s xs (at i) f h
    | inr n ↦
        let o : IsObjectIn m (extent_at s e).metamodel os (object_data_at os i) = is i l in
        not_own m os (object_data_at os i).class.0 f (object_data_at os i).slots o.slots (ap (λ c. has_feature m c f) (class i (inner i l)) ∙ n)
        ∙ sym (ap (filter_map (datum_in xs)) (no_slot i f n))
  ]

  shows : (i f : ℕ) → i < length os → map (back at) (items_in f (object_data_at os i).slots) ≡ slot_of s (at i) f
  shows i f l = ap (map (back at)) (items i f l) ∙ (held i f (inner i l)).0

  withins : (i f : ℕ) → i < length os → AllByRecursion (IsWithin (length xs)) (items_in f (object_data_at os i).slots)
  withins i f l = subst (AllByRecursion (IsWithin (length xs))) (sym (items i f l)) (held i f (inner i l)).1

  slots_show : (i : ℕ) → i < length os → AllByRecursion (λ (t : SlotData). map (back at) t.items ≡ slot_of s (at i) t.feature.0) (object_data_at os i).slots
  unfolding object_data_of
  slots_show i l = subst (λ (o : ObjectData). AllByRecursion (λ (t : SlotData). map (back at) t.items ≡ slot_of s (at i) t.feature.0) o.slots) (sym (there i (inner i l)))
      (All-weaken (IsHeld s xs (at i)) (λ (t : SlotData). map (back at) t.items ≡ slot_of s (at i) t.feature.0)
      (λ t h. ap (map (back at)) h ∙ (held i t.feature.0 (inner i l)).0) (filled_slots s xs (at i)) (are_held s xs (at i)))

  -- ---- a feature of an object

  lower : (i f : ℕ) → i < length os → has_feature m (class_of s (at i)) f ≡ true → is_low s (at i) f ≡ false
  lower i f l h =
      let ms : List Oid = members_of s e in
      let l' : i < length ms = subst (λ n. i < n) (count s e) (inner i l) in
      subst (λ x. has_feature m (class_of s x) f ≡ true → is_low s x f ≡ false) (sym (number s e i))
      (enough s (get_or ms i none) (features_of m (class_of s (get_or ms i none).0)) f (each_enough s ms bounded i l')) h

  is_bounded : (i f : ℕ) → i < length os → has_feature m (class_of s (at i)) f ≡ true → is_within (shape_of m f) (length (items_in f (object_data_at os i).slots)) ≡ true
  is_bounded i f l h =
      let long : length (items_in f (object_data_at os i).slots) ≡ length (slot_of s (at i) f) = sym (length-map (back at) (items_in f (object_data_at os i).slots)) ∙ ap length (shows i f l) in
      subst (λ n. is_within (shape_of m f) n ≡ true) (sym long)
      (and_both (nat_le (shape_of m f).lower (length (slot_of s (at i) f))) (is_at_most (length (slot_of s (at i) f)) (shape_of m f).upper)
      (le-leb (shape_of m f).lower (length (slot_of s (at i) f)) (ltb-false (length (slot_of s (at i) f)) (shape_of m f).lower (lower i f l h)))
      (at_most (length (slot_of s (at i) f)) (shape_of m f).upper (sound.parts.bounds (at i) f)))

  is_unique : (i f : ℕ) → i < length os → ((shape_of m f).unique && repeats_by same_item (items_in f (object_data_at os i).slots)) ≡ false
  is_unique i f l = and_false (shape_of m f).unique (repeats_by same_item (items_in f (object_data_at os i).slots)) (λ u.
      no_repeat at (items_in f (object_data_at os i).slots) (ap repeats (shows i f l) ∙ sound.parts.unique.unique (at i) f u))

  -- each object that it holds holds it
  is_linked : (i f q : ℕ) → i < length os → is_opposite m f q ≡ true → (ds : List Datum) → AllByRecursion (IsWithin (length xs)) ds → ((y : ℕ) → has (map (back at) ds) y ≡ true → has (slot_of s (at i) f) y ≡ true)
      → list_any (lacks os q i) ds ≡ false
  is_linked i f q l o [] w h = refl
  is_linked i f q l o (d ∷ ds) w h =
      or_none (lacks os q i d) (list_any (lacks os q i) ds) (at_item d w.0 (λ y t. h y (or_left (is_object y (back at d)) (has (map (back at) ds) y) t)))
      (is_linked i f q l o ds w.1 (λ y t. h y (or_right (is_object y (back at d)) (has (map (back at) ds) y) t)))
    where
      at_item : (d : Datum) → IsWithin (length xs) d → ((y : ℕ) → is_object y (back at d) ≡ true → has (slot_of s (at i) f) y ≡ true) → lacks os q i d ≡ false
      at_item (BoolDatum b) w h = refl
      at_item (Int z) w h = refl
      at_item (Str t) w h = refl
      at_item (Literal z) w h = refl
      at_item (Ref j) w h =
          let l' : j < length os = subst (λ n. j < n) (sym long) w in
          let back_held : has (slot_of s (at j) q) (at i) ≡ true = sound.opposites.agree (at i) f (at j) q o (h (at j) ((Decides-eqb (at j) (at j)).1 refl)) in
          not_of_true (list_any (is_ref i) (items_in q (object_data_at os j).slots))
          (refers at (length xs) (apart s e) (items_in q (object_data_at os j).slots) i (inner i l) (withins j q l') (subst (λ vs. has vs (at i) ≡ true) (sym (shows j q l')) back_held))

  opposites : (i f : ℕ) → i < length os → (q : Option FeatureNo) → opposite m f ≡ q → lack_opposite q os i (items_in f (object_data_at os i).slots) ≡ false
  opposites i f l None e = refl
  opposites i f l (Some q) e =
      let o : is_opposite m f q.0 ≡ true = ap (λ k. is_feature_number k q.0) e ∙ (Decides-eqb q.0 q.0).1 refl in
      is_linked i f q.0 l o (items_in f (object_data_at os i).slots) (withins i f l) (λ y t. subst (λ vs. has vs y ≡ true) (shows i f l) t)

  no_feature_fault : (i : ℕ) → i < length os → (f : FeatureNo) → has_feature m (class_of s (at i)) f.0 ≡ true → feature_fault m os i (object_data_at os i) f ≡ None
  unfolding feature_fault
  no_feature_fault i l f h =
      let o : ObjectData = object_data_at os i in
      let ds : List Datum = items_in f.0 o.slots in
      both_none (fault_if (not (is_within (shape_of m f.0) (length ds))) (Bounds o.id (feature_at m f.0).name))
      (or_next (fault_if ((shape_of m f.0).unique && repeats_by same_item ds) (NotUnique o.id (feature_at m f.0).name)) (fault_if (lack_opposite (opposite m f.0) os i ds) (Opposite o.id (feature_at m f.0).name)))
      (unless (not (is_within (shape_of m f.0) (length ds))) (Bounds o.id (feature_at m f.0).name) (not_of_true (is_within (shape_of m f.0) (length ds)) (is_bounded i f.0 l h)))
      (both_none (fault_if ((shape_of m f.0).unique && repeats_by same_item ds) (NotUnique o.id (feature_at m f.0).name)) (fault_if (lack_opposite (opposite m f.0) os i ds) (Opposite o.id (feature_at m f.0).name))
      (unless ((shape_of m f.0).unique && repeats_by same_item ds) (NotUnique o.id (feature_at m f.0).name) (is_unique i f.0 l))
      (unless (lack_opposite (opposite m f.0) os i ds) (Opposite o.id (feature_at m f.0).name) (opposites i f.0 l (opposite m f.0) refl)))

  no_features_fault : (i : ℕ) → i < length os → (fs : List FeatureNo) → AllByRecursion (λ (f : FeatureNo). has_feature m (class_of s (at i)) f.0 ≡ true) fs → features_fault m os i (object_data_at os i) fs ≡ None
  no_features_fault i l [] h = refl
  no_features_fault i l (f ∷ fs) h = both_none (feature_fault m os i (object_data_at os i) f) (features_fault m os i (object_data_at os i) fs) (no_feature_fault i l f h.0) (no_features_fault i l fs h.1)

  -- ---- containment

  once_there : (x f : ℕ) → is_containment m f ≡ true → repeats (slot_of s x f) ≡ false
  once_there x f c = sound.parts.unique.unique x f ((regular_of m store.well_formed).unique_containments f c)

  far : (i k : ℕ) → i < length os → k < length os → at i ≡ at k → i ≡ k
  far i k l l' same = apart s e i k (inner i l) (inner k l') same

  order : (i : ℕ) → i < length os → AreInNameOrder m (object_data_at os i).slots
  order i l = let o : IsObjectIn m (extent_at s e).metamodel os (object_data_at os i) = is i l in o.order

  no_containment_fault : (i : ℕ) → i < length os → containment_fault (contents m os) i (object_data_at os i) ≡ None
  unfolding containment_fault
  no_containment_fault i l =
      let o : ObjectData = object_data_at os i in
      both_none (fault_if (nat_lt 1 (how_often_in (contents m os) i)) (TwoContainers o.id)) (fault_if (is_on_cycle (contents m os) i) (ContainmentCycle o.id))
      (unless (nat_lt 1 (how_often_in (contents m os) i)) (TwoContainers o.id)
      (le-ltb 1 (how_often_in (contents m os) i) (alone m (slot_of s) at once_there sound.parts.containers os slots_show order far i)))
      (unless (is_on_cycle (contents m os) i) (ContainmentCycle o.id)
      (no_cycle m (slot_of s) at once_there sound.parts.containers os slots_show order far sound.parts.outside_itself i))

  -- ---- the whole

  concrete : (i : ℕ) → i < length os → (class_at m (object_data_at os i).class.0).is_abstract ≡ false
  concrete i l = ap (λ c. (class_at m c).is_abstract) (class i (inner i l)) ∙ (sound.parts.classes (at i) (live i (inner i l))).concrete

  no_object_fault : (i : ℕ) → i < length os → object_fault m os i (object_data_at os i) ≡ None
  unfolding object_fault
  no_object_fault i l =
      let o : ObjectData = object_data_at os i in
      both_none (fault_if (class_at m o.class.0).is_abstract (Abstract o.id)) (or_next (features_fault m os i o (features_of m o.class.0)) (containment_fault (contents m os) i o))
      (unless (class_at m o.class.0).is_abstract (Abstract o.id) (concrete i l))
      (both_none (features_fault m os i o (features_of m o.class.0)) (containment_fault (contents m os) i o)
      (ap (λ c. features_fault m os i o (features_of m c)) (class i (inner i l)) ∙ no_features_fault i l (features_of m (class_of s (at i))) (each-among (features_of m (class_of s (at i)))))
      (no_containment_fault i l))

  no_faults : (i : ℕ) (rest : List ObjectData) → ((k : ℕ) → k < length rest → object_fault m os (i + k) (object_data_at rest k) ≡ None) → faults_from m os i rest ≡ None
  no_faults i [] h = refl
  no_faults i (o ∷ rest) h =
      both_none (object_fault m os i o) (faults_from m os (suc i) rest)
      (ap (λ k. object_fault m os k o) (let q : i ≡ i + 0 = omega arith in q) ∙ h zero (omega arith))
      (no_faults (suc i) rest (λ k l. ap (λ n. object_fault m os n (object_data_at rest k)) (let q : suc i + k ≡ i + suc k = omega arith in q) ∙ h (suc k) (omega arith)))

  pub conforms : faults_from m os 0 os ≡ None
  conforms = no_faults 0 os (λ k l. ap (λ n. object_fault m os n (object_data_at os k)) (let q : 0 + k ≡ k = omega arith in q) ∙ no_object_fault k l)

pub written_conforms : WrittenConforms
unfolding conform_fault data_of
written_conforms s e store sound model bounded = conforms s e store sound model bounded
