-- Each slot of a model can be set when its turn comes, and a sound store stays sound but for opposites.
use Rattle.std.proofs.Common.{◌≡◌, ℕ, zero, suc, ◌+◌, ◌<◌, ◌≤◌, Bool, true, false, ◌==◌, ◌&&◌, cond, inl, inr, ◌⊎◌, refl, sym, ap, ◌∙◌, subst, List, [], ◌∷◌, ◌++◌, map, length, arith}
use Rattle.std.specs.Prelude.{slice_index_or, nat_lt, All}
use Rattle.std.specs.List.{list_all, AllByRecursion}
use Rattle.std.proofs.lemmas.Bool.{cases_lt, ne_eqb, lt-ltb}
use Rattle.std.proofs.lemmas.Bool.Decides.{Decides-eqb}
use Rattle.std.proofs.lemmas.List.{length-set}
use Rattle.qvt_value.specs.declared.value.Value.{Value}
use Rattle.qvt_metamodel.specs.declared.info.TypeKind.{TypeKind}
use Rattle.qvt_metamodel.specs.declared.info.TypeKind.TheVariants.{Bool as BoolKind, Int as IntKind, Str as StrKind, Enum as EnumKind, Class as ClassKind}
use Rattle.qvt_metas.specs.Metamodels.{Metamodels, features_of, has_feature, shape_of}
use Rattle.qvt_metas.specs.Descends.{descends}
use Rattle.qvt_metas.specs.Named.{enumeration_at}
use Rattle.qvt_relation.proofs.Bools.{and_left, and_right, and_both, and_false, or_cases, none_left, none_right, clash, refuted}
use Rattle.qvt_store.specs.Slots.{has, is_object, Inside, directly, through}
use Rattle.qvt_store.specs.Contents.{Contents, Instance, no_instance, is_model, extent_of, list_of, slot_in, slot_of}
use Rattle.qvt_store.specs.Types.{is_of_kind, is_of_type, AreTyped, HasCodeType}
use Rattle.qvt_store.specs.Repeats.{repeats}
use Rattle.qvt_store.specs.Assign.{exceeds_bound}
use Rattle.qvt_store.specs.Cells.{with_list}
use Rattle.qvt_slots.proofs.Places.{no_lists, list_of-nil}
use Rattle.qvt_slots.proofs.Lists.{length-map, past_end}
use Rattle.qvt_slots.proofs.Instances as objects
use Rattle.qvt_store.specs.Place.{IsPlaceable}
use Rattle.qvt_store.specs.Sound.{SoundButOpposites, IsSoundList}
use Rattle.qvt_store_laws.proofs.SoundGrown.{place_keeps_loading}
use Rattle.qvt_store_laws.proofs.Own.{nowhere}
use Rattle.qvt_model.specs.declared.data.Datum.{Datum}
use Rattle.qvt_model.specs.declared.data.Datum.TheVariants.{Bool as BoolDatum, Int, Str, Literal, Ref}
use Rattle.qvt_model.specs.declared.data.SlotData.{SlotData}
use Rattle.qvt_model.specs.declared.data.ObjectData.{ObjectData}
use Rattle.qvt_model.specs.WellFormed.{IsItem, IsSlot, IsObjectIn, IsModel}
use Rattle.qvt_model.specs.WellFormed as parts
use Rattle.qvt_model.specs.Items.{items_in}
use Rattle.qvt_model.specs.Loaded.{value_at}
use Rattle.qvt_model.specs.Conforming.{slots_at, Conforms}
use Rattle.qvt_model.specs.Steps.{put_slot, slot_values, put_slots, put_objects, with_objects, CanPutSlots, CanPutObjects}
use Rattle.qvt_model.proofs.Shift.{HeldItem, held_item, length-shift, repeats-shift, all_plain}
use Rattle.qvt_model.proofs.Final.{final, object, at_old, at_new, count, slot-new, one_new, final_acyclic, app_left, app_right, length-app, beyond}
use Rattle.qvt_model.proofs.Filled.{listed, AreDistinct, distinct_slots, empty_of}

-- a reference of a well formed slot is one of the model
pub ref_below : (m : Metamodels) (os : List ObjectData) (k : TypeKind) (j : ℕ) (xs : List Datum) → AllByRecursion (IsItem m os k) xs → has (map (value_at 0) xs) j ≡ true → j < length os
ref_below m os k j [] h t = clash false t refl
ref_below m os k j (x ∷ xs) h t = elim (or_cases (is_object j (value_at 0 x)) (has (map (value_at 0) xs) j) t) [ inl here ↦ at k x h.0 here | inr rest ↦ ref_below m os k j xs h.1 rest ]
  where
    at : (k : TypeKind) (x : Datum) → IsItem m os k x → is_object j (value_at 0 x) ≡ true → j < length os
    at (ClassKind c) (Ref i) h t = let q : 0 + i ≡ j = (Decides-eqb (0 + i) j).0 t in subst (λ z. z < length os) (let r : i ≡ j = omega arith in r) h.0
    at k (BoolDatum a) h t = clash false t refl
    at k (Int a) h t = clash false t refl
    at k (Str a) h t = clash false t refl
    at k (Literal a) h t = clash false t refl
    at BoolKind (Ref i) h t = absurd h
    at IntKind (Ref i) h t = absurd h
    at StrKind (Ref i) h t = absurd h
    at (EnumKind a b) (Ref i) h t = absurd h

module _ (s : Contents) (e k : ℕ) (os : List ObjectData) (model : IsModel s.metas k os) (typed : AreTyped s) (acyclic : (x : ℕ) → Inside s.metas (slot_of s) x x → ⊥) (conforms : Conforms s.metas os) where
  abbrev m : Metamodels
  m = s.metas

  abbrev n : ℕ
  n = length s.objects

  abbrev fin : List Instance
  fin = final s e k os model

  -- part of the slots are set, each to the list that it is to hold
  pub record Partial (obs : List Instance) : Type 0 where
    pub count : length obs ≡ length fin
    pub classes : (x : ℕ) → (slice_index_or obs x no_instance).class ≡ (slice_index_or fin x no_instance).class
    pub extents : (x : ℕ) → (slice_index_or obs x no_instance).extent ≡ (slice_index_or fin x no_instance).extent
    pub lists : (i : ℕ) → i < length os → length (slice_index_or obs (n + i) no_instance).slots ≡ length (features_of m (slice_index_or obs (n + i) no_instance).class)
    pub subs : (x f : ℕ) → (slot_in m obs x f ≡ slot_in m fin x f) ⊎ (slot_in m obs x f ≡ [])

  -- a slot of object i
  pub record IsFor (i : ℕ) (t : SlotData) : Type 0 where
    pub is : IsSlot m os (parts.object_data_at os i).class.0 t
    pub list : items_in t.feature.0 (parts.object_data_at os i).slots ≡ t.items

  module _ (obs : List Instance) (part : Partial obs) where
    live_new : (i : ℕ) → i < length os → nat_lt (n + i) (length obs) ≡ true
    live_new i l = lt-ltb (n + i) (length obs) (let c : length obs ≡ length fin = part.count in let d : length fin ≡ n + length os = count s e k os model in omega arith)

    class_new : (i : ℕ) → i < length os → (slice_index_or obs (n + i) no_instance).class ≡ (parts.object_data_at os i).class.0
    class_new i l = part.classes (n + i) ∙ ap (λ (ob : Instance). ob.class) (at_new s e k os model i l)

    extent_new : (i : ℕ) → i < length os → (slice_index_or obs (n + i) no_instance).extent ≡ e
    extent_new i l = part.extents (n + i) ∙ ap (λ (ob : Instance). ob.extent) (at_new s e k os model i l)

    type_of : (kind : TypeKind) (x : Datum) → IsItem m os kind x → is_of_kind (with_objects s obs) kind (value_at n x) ≡ true
    type_of BoolKind (BoolDatum b) h = refl
    type_of IntKind (Int z) h = refl
    type_of StrKind (Str t) h = refl
    type_of (EnumKind a b) (Literal l) h = and_both _ _ (and_both _ _ ((Decides-eqb l.metamodel a).1 h.0) ((Decides-eqb l.enumeration b).1 h.1)) (lt-ltb l.literal (length (enumeration_at m a b).literals) h.2)
    type_of (ClassKind c) (Ref i) h = and_both _ _ (live_new i h.0) (ap (λ z. descends m z c.0) (class_new i h.0) ∙ h.1)
    type_of BoolKind (Int x) h = absurd h
    type_of BoolKind (Str x) h = absurd h
    type_of BoolKind (Literal x) h = absurd h
    type_of BoolKind (Ref x) h = absurd h
    type_of IntKind (BoolDatum x) h = absurd h
    type_of IntKind (Str x) h = absurd h
    type_of IntKind (Literal x) h = absurd h
    type_of IntKind (Ref x) h = absurd h
    type_of StrKind (BoolDatum x) h = absurd h
    type_of StrKind (Int x) h = absurd h
    type_of StrKind (Literal x) h = absurd h
    type_of StrKind (Ref x) h = absurd h
    type_of (EnumKind a b) (BoolDatum x) h = absurd h
    type_of (EnumKind a b) (Int x) h = absurd h
    type_of (EnumKind a b) (Str x) h = absurd h
    type_of (EnumKind a b) (Ref x) h = absurd h
    type_of (ClassKind c) (BoolDatum x) h = absurd h
    type_of (ClassKind c) (Int x) h = absurd h
    type_of (ClassKind c) (Str x) h = absurd h
    type_of (ClassKind c) (Literal x) h = absurd h

    all_types : (f : ℕ) (xs : List Datum) → AllByRecursion (IsItem m os (shape_of m f).kind) xs → list_all (is_of_type (with_objects s obs) f) (map (value_at n) xs) ≡ true
    all_types f [] h = refl
    all_types f (x ∷ xs) h = and_both _ _ (type_of (shape_of m f).kind x h.0) (all_types f xs h.1)

    -- what a slot holds now it holds in the end
    sub_held : (x f y : ℕ) → has (slot_in m obs x f) y ≡ true → has (slot_in m fin x f) y ≡ true
    sub_held x f y h = elim (part.subs x f) [
      | inl same ↦ ap (λ l. has l y) (sym same) ∙ h
      | inr none ↦ clash false (ap (λ l. has l y) (sym none) ∙ h) refl
    ]

    module _ (i : ℕ) (below : i < length os) (t : SlotData) (for : IsFor i t) (free : slot_in m obs (n + i) t.feature.0 ≡ []) where
      abbrev p : ℕ
      p = t.feature.0

      abbrev vs : List Value
      vs = slot_values n t

      fin_list : slot_in m fin (n + i) p ≡ vs
      fin_list = slot-new s e k os model i p ∙ ap (map (value_at n)) for.list

      no_repeat : repeats (slots_at os i p) ≡ false → repeats vs ≡ false
      no_repeat h = repeats-shift n t.items ∙ ap (λ (xs : _). repeats (map (value_at 0) xs)) (sym for.list) ∙ h

      with_held : (x f y : ℕ) → has (with_list (slot_in m obs) (n + i) p vs x f) y ≡ true → has (slot_in m fin x f) y ≡ true
      with_held x f y = go ((x == n + i) && (f == p)) refl
        where
          go : (b : Bool) → ((x == n + i) && (f == p)) ≡ b → has (cond b vs (slot_in m obs x f)) y ≡ true → has (slot_in m fin x f) y ≡ true
          go true q h =
              let xe : x ≡ n + i = (Decides-eqb x (n + i)).0 (and_left _ _ q) in
              let fe : f ≡ p = (Decides-eqb f p).0 (and_right (x == n + i) _ q) in
              subst (λ z. has (slot_in m fin z f) y ≡ true) (sym xe) (subst (λ z. has (slot_in m fin (n + i) z) y ≡ true) (sym fe) (ap (λ l. has l y) fin_list ∙ h))
          go false q h = sub_held x f y h

      with_inside : {x y : ℕ} → Inside m (with_list (slot_in m obs) (n + i) p vs) x y → Inside m (slot_in m fin) x y
      with_inside (directly {x} {y} c) = directly (record { feature = c.feature; containment = c.containment; held = with_held x c.feature y c.held })
      with_inside (through {x} {y} {z} c q) = through (record { feature = c.feature; containment = c.containment; held = with_held x c.feature y c.held }) (with_inside q)

      pub placeable : IsPlaceable (with_objects s obs) (n + i) p vs
      placeable = record {
        assignable = record { live = live_new i below; feature = ap (λ z. has_feature m z p) (class_new i below) ∙ for.is.own; types = all_types p t.items for.is.items };
        empty = free;
        free = λ c x f y c' h. refuted _ (λ h'.
            let r : (n + i ≡ x) × (p ≡ f) = one_new s e k os model typed conforms (n + i) p x f y c c' (omega arith) (ap (λ l. has l y) fin_list ∙ h) (sub_held x f y h') in
            clash false (ap (λ l. has l y) (sym free) ∙ subst (λ z. has (slot_in m obs (n + i) z) y ≡ true) (sym r.1) (subst (λ z. has (slot_in m obs z f) y ≡ true) (sym r.0) h')) refl);
        acyclic = λ c x q. final_acyclic s e k os model typed conforms acyclic x (with_inside q);
      }

      own_extent : (y : ℕ) → has vs y ≡ true → extent_of (with_objects s obs) y ≡ extent_of (with_objects s obs) (n + i)
      own_extent y h =
          let r : HeldItem n y t.items = held_item n y t.items h in
          let l : r.place < length os = ref_below m os (shape_of m p).kind r.place t.items for.is.items r.held in
          ap (λ z. (slice_index_or obs z no_instance).extent) r.number ∙ extent_new r.place l ∙ sym (extent_new i below)

      pub plain_list : All HasCodeType vs
      plain_list = all_plain m os n (shape_of m p).kind t.items for.is.items

      pub sound_list : IsSoundList (with_objects s obs) (n + i) p vs
      sound_list = record {
        bound = ap (λ z. exceeds_bound z (shape_of m p).upper) (length-shift n t.items ∙ ap (λ (xs : _). length (map (value_at 0) xs)) (sym for.list)) ∙ conforms.bounds i p;
        unique = λ u. no_repeat (conforms.unique i p u);
        own_objects = and_false (is_model (with_objects s obs) (extent_of (with_objects s obs) (n + i))) _ (λ _. nowhere (with_objects s obs) (n + i) vs own_extent);
      }

      lists_here : length (slice_index_or obs (n + i) no_instance).slots ≡ length (features_of m (slice_index_or obs (n + i) no_instance).class)
      lists_here = part.lists i below

      pub slot_now : (x f : ℕ) → slot_in m (put_slot m obs (n + i) p vs) x f ≡ with_list (slot_in m obs) (n + i) p vs x f
      slot_now = objects.slot-placed (with_objects s obs) (n + i) p vs placeable.assignable.live placeable.assignable.feature lists_here

      subs_now : (x f : ℕ) → (slot_in m (put_slot m obs (n + i) p vs) x f ≡ slot_in m fin x f) ⊎ (slot_in m (put_slot m obs (n + i) p vs) x f ≡ [])
      subs_now x f = go ((x == n + i) && (f == p)) refl (slot_now x f)
        where
          go : (b : Bool) → ((x == n + i) && (f == p)) ≡ b → slot_in m (put_slot m obs (n + i) p vs) x f ≡ cond b vs (slot_in m obs x f) → (slot_in m (put_slot m obs (n + i) p vs) x f ≡ slot_in m fin x f) ⊎ (slot_in m (put_slot m obs (n + i) p vs) x f ≡ [])
          go true q now =
              let xe : x ≡ n + i = (Decides-eqb x (n + i)).0 (and_left _ _ q) in
              let fe : f ≡ p = (Decides-eqb f p).0 (and_right (x == n + i) _ q) in
              inl (now ∙ sym (subst (λ z. slot_in m fin z f ≡ vs) (sym xe) (subst (λ z. slot_in m fin (n + i) z ≡ vs) (sym fe) fin_list)))
          go false q now = elim (part.subs x f) [ inl same ↦ inl (now ∙ same) | inr none ↦ inr (now ∙ none) ]

      pub part_now : Partial (put_slot m obs (n + i) p vs)
      part_now = record {
        count = length-set obs (n + i) _ ∙ part.count;
        classes = λ x. objects.class-placed (with_objects s obs) (n + i) p vs placeable.assignable.live placeable.assignable.feature lists_here x ∙ part.classes x;
        extents = λ x. objects.extent-placed (with_objects s obs) (n + i) p vs placeable.assignable.live placeable.assignable.feature lists_here x ∙ part.extents x;
        lists = λ j l. objects.lists-placed (with_objects s obs) (n + i) p vs placeable.assignable.live placeable.assignable.feature lists_here (n + j) (part.lists j l);
        subs = subs_now;
      }

      -- other slots stay
      pub slot_other : (x f : ℕ) → ((x == n + i) && (f == p)) ≡ false → slot_in m (put_slot m obs (n + i) p vs) x f ≡ slot_in m obs x f
      slot_other x f q = slot_now x f ∙ ap (λ b. cond b vs (slot_in m obs x f)) q

  -- all slots of object i are set
  record SlotsPut (obs : List Instance) (i : ℕ) (ts : List SlotData) : Type 0 where
    can : CanPutSlots m s.extents n (n + i) obs ts
    part : Partial (put_slots m n (n + i) obs ts)
    later : (x f : ℕ) → n + i < x → slot_in m (put_slots m n (n + i) obs ts) x f ≡ []
    sound : SoundButOpposites (with_objects s obs) → SoundButOpposites (with_objects s (put_slots m n (n + i) obs ts))

  abbrev IsFree : List Instance → ℕ → SlotData → Type 0
  IsFree obs i t = slot_in m obs (n + i) t.feature.0 ≡ []

  slots_put : (obs : List Instance) (i : ℕ) (ts : List SlotData) → Partial obs → i < length os → AllByRecursion (IsFor i) ts → AreDistinct ts → AllByRecursion (IsFree obs i) ts →
      ((x f : ℕ) → n + i < x → slot_in m obs x f ≡ []) → SlotsPut obs i ts
  slots_put obs i [] part below for distinct free later = record { can = tt; part = part; later = later; sound = λ h. h }
  slots_put obs i (t ∷ ts) part below for distinct free later =
      let can : IsPlaceable (with_objects s obs) (n + i) t.feature.0 (slot_values n t) = placeable obs part i below t for.0 free.0 in
      let r : SlotsPut next i ts = slots_put next i ts (part_now obs part i below t for.0 free.0) below for.1 distinct.1 (still_free ts distinct.0 free.1)
      (λ x f h. slot_other obs part i below t for.0 free.0 x f (ap (λ b. b && (f == t.feature.0)) (ne_eqb x (n + i) (λ q. let r : x ≡ n + i = q in omega arith))) ∙ later x f h) in
      record {
        can = (can, r.can);
        part = r.part;
        later = r.later;
        sound = λ h. r.sound (place_keeps_loading (with_objects s obs) (n + i) t.feature.0 (slot_values n t) can (plain_list obs part i below t for.0 free.0) (sound_list obs part i below t for.0 free.0) h);
      }
    where
      next : List Instance
      next = put_slot m obs (n + i) t.feature.0 (slot_values n t)

      still_free : (us : List SlotData) → listed t.feature.0 us ≡ false → AllByRecursion (IsFree obs i) us → AllByRecursion (IsFree next i) us
      still_free [] n' h = tt
      still_free (u ∷ us) n' h = (
        slot_other obs part i below t for.0 free.0 (n + i) u.feature.0 (and_false (n + i == n + i) _ (λ _. none_left (u.feature.0 == t.feature.0) (listed t.feature.0 us) n')) ∙ h.0,
        still_free us (none_right (u.feature.0 == t.feature.0) (listed t.feature.0 us) n') h.1,
      )

  -- the slots of a well formed object are for it
  all_for : (i : ℕ) (all : List SlotData) (ts : List SlotData) → AllByRecursion (IsSlot m os (parts.object_data_at os i).class.0) ts → AllByRecursion (λ (t : SlotData). items_in t.feature.0 (parts.object_data_at os i).slots ≡ t.items) ts → AllByRecursion (IsFor i) ts
  all_for i all [] h l = tt
  all_for i all (t ∷ ts) h l = (record { is = h.0; list = l.0 }, all_for i all ts h.1 l.1)

  -- in a list without repeats each slot is found by its feature
  each_found : (ts : List SlotData) → AreDistinct ts → AllByRecursion (λ (t : SlotData). items_in t.feature.0 ts ≡ t.items) ts
  each_found [] d = tt
  each_found (t ∷ ts) d = (ap (λ b. cond b t.items (items_in t.feature.0 ts)) ((Decides-eqb t.feature.0 t.feature.0).1 refl), past ts d.0 (each_found ts d.1))
    where
      past : (us : List SlotData) → listed t.feature.0 us ≡ false → AllByRecursion (λ (u : SlotData). items_in u.feature.0 ts ≡ u.items) us → AllByRecursion (λ (u : SlotData). items_in u.feature.0 (t ∷ ts) ≡ u.items) us
      past [] n' h = tt
      past (u ∷ us) n' h = (
        ap (λ b. cond b t.items (items_in u.feature.0 ts)) (refuted (t.feature.0 == u.feature.0) (λ q. clash (u.feature.0 == t.feature.0) ((Decides-eqb u.feature.0 t.feature.0).1 (sym ((Decides-eqb t.feature.0 u.feature.0).0 q))) (none_left (u.feature.0 == t.feature.0) (listed t.feature.0 us) n')))
            ∙ h.0,
        past us (none_right (u.feature.0 == t.feature.0) (listed t.feature.0 us) n') h.1,
      )

  all_free : (obs : List Instance) (i : ℕ) (ts : List SlotData) → ((f : ℕ) → slot_in m obs (n + i) f ≡ []) → AllByRecursion (IsFree obs i) ts
  all_free obs i [] h = tt
  all_free obs i (t ∷ ts) h = (h t.feature.0, all_free obs i ts h)

  -- all objects from number x on are set
  pub record ObjectsPut (x : ℕ) (obs : List Instance) (rest : List ObjectData) : Type 0 where
    pub can : CanPutObjects m s.extents n x obs rest
    pub part : Partial (put_objects m n x obs rest)
    pub sound : SoundButOpposites (with_objects s obs) → SoundButOpposites (with_objects s (put_objects m n x obs rest))

  objects_put : (obs : List Instance) (i : ℕ) (rest : List ObjectData) → Partial obs → ((j : ℕ) → parts.object_data_at rest j ≡ parts.object_data_at os (j + i)) → length rest + i ≡ length os →
      ((x f : ℕ) → n + i ≤ x → slot_in m obs x f ≡ []) → ObjectsPut (n + i) obs rest
  objects_put obs i [] part same len later = record { can = tt; part = part; sound = λ h. h }
  objects_put obs i (o ∷ rest) part same len later =
      let mine : SlotsPut obs i o.slots = slots_put obs i o.slots part below for distinct (all_free obs i o.slots (λ f. later (n + i) f (omega arith))) (λ x f h. later x f (omega arith)) in
      let r : ObjectsPut (suc (n + i)) next rest = subst (λ x. ObjectsPut x next rest) (let q : n + suc i ≡ suc (n + i) = omega arith in q)
      (objects_put next (suc i) rest mine.part (λ j. same (suc j) ∙ ap (parts.object_data_at os) (let q : suc j + i ≡ j + suc i = omega arith in q)) (let q : length rest + suc i ≡ length os = omega arith in q) (λ x f h. mine.later x f (omega arith))) in
      record { can = (mine.can, r.can); part = r.part; sound = λ h. r.sound (mine.sound h) }
    where
      next : List Instance
      next = put_slots m n (n + i) obs o.slots

      below : i < length os
      below = omega arith

      is : IsObjectIn m k os (parts.object_data_at os i)
      is = object s e k os model i below

      slots_same : o.slots ≡ (parts.object_data_at os i).slots
      slots_same = ap (λ (q : ObjectData). q.slots) (same 0 ∙ ap (parts.object_data_at os) (let q : 0 + i ≡ i = omega arith in q))

      distinct : AreDistinct o.slots
      distinct = subst AreDistinct (sym slots_same) (distinct_slots m (parts.object_data_at os i).slots is.order)

      for : AllByRecursion (IsFor i) o.slots
      for = subst (λ (ts : List SlotData). AllByRecursion (IsFor i) ts) (sym slots_same)
          (all_for i (parts.object_data_at os i).slots (parts.object_data_at os i).slots is.slots (each_found (parts.object_data_at os i).slots (distinct_slots m (parts.object_data_at os i).slots is.order)))

  -- the objects as they are added
  abbrev start : List Instance
  start = s.objects ++ map (empty_of m e) os

  start_new : (i : ℕ) → i < length os → slice_index_or start (n + i) no_instance ≡ empty_of m e (parts.object_data_at os i)
  start_new i l = app_right s.objects (map (empty_of m e) os) i no_instance ∙ mapped os i l
    where
      mapped : (xs : List ObjectData) (i : ℕ) → i < length xs → slice_index_or (map (empty_of m e) xs) i no_instance ≡ empty_of m e (parts.object_data_at xs i)
      mapped [] i l = absurd (omega arith)
      mapped (x ∷ xs) zero l = refl
      mapped (x ∷ xs) (suc i) l = mapped xs i (omega arith)

  start_count : length start ≡ n + length os
  start_count = length-app s.objects (map (empty_of m e) os) ∙ ap (λ l. n + l) (length-map (empty_of m e) os)

  start_old : (x : ℕ) → x < n → slice_index_or start x no_instance ≡ slice_index_or fin x no_instance
  start_old x l = app_left s.objects (map (empty_of m e) os) x no_instance l ∙ sym (at_old s e k os model x l)

  start_past : (i : ℕ) → length os ≤ i → slice_index_or start (n + i) no_instance ≡ slice_index_or fin (n + i) no_instance
  start_past i l = past_end start (n + i) no_instance (let c : length start ≡ n + length os = start_count in omega arith)
      ∙ sym (past_end fin (n + i) no_instance (let c : length fin ≡ n + length os = count s e k os model in omega arith))

  start_free : (x f : ℕ) → n ≤ x → slot_in m start x f ≡ []
  start_free x f h =
      let a : (i : ℕ) × (x ≡ n + i) = beyond n x h in
      subst (λ z. slot_in m start z f ≡ []) (sym a.1) (elim (cases_lt a.0 (length os)) [
        | inl l ↦ ap (λ (ob : Instance). list_of (features_of m ob.class) ob.slots f) (start_new a.0 l) ∙ no_lists (features_of m (parts.object_data_at os a.0).class.0) f
        | inr l ↦ ap (λ (ob : Instance). list_of (features_of m ob.class) ob.slots f) (past_end start (n + a.0) no_instance (let c : length start ≡ n + length os = start_count in omega arith)) ∙ list_of-nil (features_of m 0) f
      ])

  -- a fact of objects, told for the old, the new and those past the end
  each_number : (P : ℕ → Type 0) → ((x : ℕ) → x < n → P x) → ((i : ℕ) → i < length os → P (n + i)) → ((i : ℕ) → length os ≤ i → P (n + i)) → (x : ℕ) → P x
  each_number P old new past x = elim (cases_lt x n) [
    | inl l ↦ old x l
    | inr h ↦ let a : (i : ℕ) × (x ≡ n + i) = beyond n x h in subst P (sym a.1) (elim (cases_lt a.0 (length os)) [ inl l ↦ new a.0 l | inr l ↦ past a.0 l ])
  ]

  start_part : Partial start
  start_part = record {
    count = start_count ∙ sym (count s e k os model);
    classes = each_number (λ x. (slice_index_or start x no_instance).class ≡ (slice_index_or fin x no_instance).class) (λ x l. ap (λ (ob : Instance). ob.class) (start_old x l))
        (λ i l. ap (λ (ob : Instance). ob.class) (start_new i l) ∙ sym (ap (λ (ob : Instance). ob.class) (at_new s e k os model i l))) (λ i l. ap (λ (ob : Instance). ob.class) (start_past i l));
    extents = each_number (λ x. (slice_index_or start x no_instance).extent ≡ (slice_index_or fin x no_instance).extent) (λ x l. ap (λ (ob : Instance). ob.extent) (start_old x l))
        (λ i l. ap (λ (ob : Instance). ob.extent) (start_new i l) ∙ sym (ap (λ (ob : Instance). ob.extent) (at_new s e k os model i l))) (λ i l. ap (λ (ob : Instance). ob.extent) (start_past i l));
    lists = λ i l. ap (λ (ob : Instance). length ob.slots) (start_new i l) ∙ length-map (λ _. []) (features_of m (parts.object_data_at os i).class.0)
        ∙ sym (ap (λ (ob : Instance). length (features_of m ob.class)) (start_new i l));
    subs = λ x f. elim (cases_lt x n) [
      | inl l ↦ inl (ap (λ (ob : Instance). list_of (features_of m ob.class) ob.slots f) (start_old x l))
      | inr h ↦ inr (start_free x f h)
    ];
  }

  pub all_put : ObjectsPut n start os
  all_put = subst (λ x. ObjectsPut x start os) (let q : n + 0 ≡ n = omega arith in q)
      (objects_put start 0 os start_part (λ j. ap (parts.object_data_at os) (let q : j ≡ j + 0 = omega arith in q)) (let q : length os + 0 ≡ length os = omega arith in q) (λ x f h. start_free x f (omega arith)))
