-- The data of an extent are a model that a file can hold.
use Rattle.std.proofs.Common.{◌≡◌, ◌≢◌, ◌∙◌, ℕ, zero, suc, ◌+◌, ◌<◌, ◌≤◌, ◌^◌, ◌==◌, ◌&&◌, ◌||◌, List, [], ◌∷◌, length, map, Bool, true, false, cond, not, nat_lt, IsTrue, IsUtf8, Option, Some, None, option_map, Ordering, Less, Equal, Greater, Ok, slice_index_or, refl, sym, ap, subst, arith, ltb-true, lt-ltb}
use Rattle.std.specs.Prelude.{All}
use Rattle.std.specs.Cmp.{IsTotalOrder, on_total}
use Rattle.std.specs.List.{list_any, list_all, filter, filter_map, cons_option, AllByRecursion}
use Rattle.std.specs.Ordering.{nat_cmp, is_eq, is_lt, ordering_reverse}
use Rattle.std.specs.Cmp.Lexicographic.{slice_cmp}
use Rattle.std.specs.Str.{bytes_eq}
use Rattle.std.proofs.lemmas.Bool.{and_parts, eqb-true, eq-eqb, ltb-false}
use Rattle.std.proofs.lemmas.Cmp.{nat_list_cmp_total}
use Rattle.std.proofs.lemmas.List.Quantifiers.{position-Some}
use Rattle.std.proofs.lemmas.Map.Text.{is_eq-slice_cmp}
use Rattle.std.proofs.lemmas.Slice.Eq.{bytes_eq-Decides}
use Rattle.qvt_base.specs.declared.numbers.FeatureNo.{FeatureNo}
use Rattle.qvt_value.specs.declared.value.Value.{Value}
use Rattle.qvt_value.specs.declared.value.Value.TheVariants.{Bool as BoolValue, Int as IntValue, Str as StrValue, Enum as EnumValue, Obj}
use Rattle.qvt_value.specs.Kept.{put_in, sorted}
use Rattle.qvt_value.proofs.Sorting.{IsLevelWithNone, NoneAreLevel, all-sorted, apart-filter, apart-map, above, below}
use Rattle.qvt_metamodel.specs.declared.info.TypeKind.{TypeKind}
use Rattle.qvt_metamodel.specs.declared.info.TypeKind.TheVariants.{Bool as BoolKind, Int as IntKind, Str as StrKind, Enum as EnumKind, Class as ClassKind}
use Rattle.qvt_metas.specs.Metamodels.{Metamodels, feature_at, shape_of, is_one, features_of, has_feature, among_features}
use Rattle.qvt_metas.specs.Descends.{descends}
use Rattle.qvt_metas.specs.Named.{metamodel_at, enumeration_at, feature_named}
use Rattle.qvt_metas.specs.WellFormed.{IsWellFormed}
use Rattle.qvt_repeats.specs.Repeats.{repeats_by}
use Rattle.qvt_json.specs.Leaves.{is_id}
use Rattle.qvt_store.specs.Contents.{Instance, Contents, no_instance, class_of, extent_of, extent_at, is_extent, is_live, is_model, is_named, slot_of, members_from, members_of}
use Rattle.qvt_store.specs.Types.{is_of_kind, is_of_type, HasCodeType}
use Rattle.qvt_store.specs.Assign.{exceeds_bound}
use Rattle.qvt_store.specs.Sound.{Sound}
use Rattle.qvt_model.specs.Extents.{own_id, numbers, place_within, datum_in, slot_data_of, name_of, by_name, filled_slots, object_data_of, objects_from, data_of}
use Rattle.qvt_store.specs.Stay.{IsStore}
use Rattle.qvt_model.specs.Reading.{model_of, has_items}
use Rattle.qvt_model.specs.WellFormed.{object_data_at, ids, none_repeats, IsItem, IsSlot, ComeAfter, AreInNameOrder, IsObjectIn, IsModel, HoldsOne, IsStorable}
use Rattle.qvt_model.specs.Written.{model_text}
use Rattle.qvt_model.specs.declared.data.Datum.{Datum}
use Rattle.qvt_model.specs.declared.data.Datum.TheVariants.{Bool as BoolDatum, Int, Str, Literal, Ref}
use Rattle.qvt_model.specs.declared.data.SlotData.{SlotData}
use Rattle.qvt_model.specs.declared.data.ObjectData.{ObjectData}
use Rattle.qvt_json.proofs.Ordered.{some-injective}
use Rattle.qvt_model.proofs.Lists.{All-weaken}
use Rattle.qvt_model.proofs.OwnIds.{own_id-apart, is_id-own_id, IsUtf8-own_id}
use Rattle.qvt_model.proofs.Whole.{model_of-model_text}

-- ---- slots in order

pub same-text : (a b : List ℕ) → slice_cmp nat_cmp a b ≡ Equal → a ≡ b
same-text a b e = (bytes_eq-Decides a b).0 (sym (is_eq-slice_cmp a b) ∙ ap is_eq e)

pub by_name-total : (m : Metamodels) → IsTotalOrder (by_name m)
by_name-total m = on_total (name_of m) nat_list_cmp_total

turned : (a b : List ℕ) (o : Ordering) → slice_cmp nat_cmp a b ≡ o → slice_cmp nat_cmp b a ≡ ordering_reverse o
turned a b o e = nat_list_cmp_total.antisymm b a ∙ ap ordering_reverse e

greater_trans : (a b c : List ℕ) → slice_cmp nat_cmp a b ≡ Greater → slice_cmp nat_cmp b c ≡ Greater → slice_cmp nat_cmp a c ≡ Greater
greater_trans a b c g h = turned c a Less (nat_list_cmp_total.trans c b a (turned b c Greater h) (turned a b Greater g))

module _ (m : Metamodels) where
  -- what comes after a name comes after a lower one
  after-lower : (l k : List ℕ) (ts : List SlotData) → slice_cmp nat_cmp l k ≡ Greater → ComeAfter m l ts → ComeAfter m k ts
  after-lower l k [] g a = tt
  after-lower l k (t ∷ ts) g a = (greater_trans (name_of m t) l k a.0 g, after-lower l k ts g a.1)

  after-put : (l : List ℕ) (t : SlotData) (us : List SlotData) → slice_cmp nat_cmp (name_of m t) l ≡ Greater → ComeAfter m l us → ComeAfter m l (put_in (by_name m) t us)
  after-put l t [] g a = (g, tt)
  after-put l t (u ∷ us) g a = by (after-put l t us g a.1) (is_lt (by_name m u t))
    where
      by : ComeAfter m l (put_in (by_name m) t us) → (b : Bool) → ComeAfter m l (cond b (u ∷ put_in (by_name m) t us) (t ∷ u ∷ us))
      by rest true = (a.0, rest)
      by rest false = (g, a)

  order-put : (t : SlotData) (us : List SlotData) → IsLevelWithNone (by_name m) us t → AreInNameOrder m us → AreInNameOrder m (put_in (by_name m) t us)
  order-put t [] h a = (tt, tt)
  order-put t (u ∷ us) h a = by (order-put t us h.1 a.1) (is_lt (by_name m u t)) refl
    where
      by : AreInNameOrder m (put_in (by_name m) t us) → (b : Bool) → is_lt (by_name m u t) ≡ b → AreInNameOrder m (cond b (u ∷ put_in (by_name m) t us) (t ∷ u ∷ us))
      by rest true e = (after-put (name_of m u) t us (above (by_name m) (by_name-total m) t u e) a.0, rest)
      by rest false e =
          let g : slice_cmp nat_cmp (name_of m u) (name_of m t) ≡ Greater = turned (name_of m t) (name_of m u) Less (below (by_name m) (by_name-total m) t u e h.0) in
          ((g, after-lower (name_of m u) (name_of m t) us g a.0), a)

  order-sorted : (ts : List SlotData) → NoneAreLevel (by_name m) ts → AreInNameOrder m (sorted (by_name m) ts)
  order-sorted [] h = tt
  order-sorted (t ∷ ts) h = order-put t (sorted (by_name m) ts) (all-sorted (by_name m) (λ u. by_name m t u ≢ Equal) ts h.0) (order-sorted ts h.1)

or-right : (a b : Bool) → b ≡ true → (a || b) ≡ true
or-right true b e = refl
or-right false b e = e

pub each-among : (fs : List FeatureNo) → AllByRecursion (λ f. among_features f.0 fs ≡ true) fs
each-among [] = tt
each-among (g ∷ fs) = (rw (eq-eqb g.0 g.0 refl) refl, All-weaken (λ f. among_features f.0 fs ≡ true) (λ f. among_features f.0 (g ∷ fs) ≡ true) (λ f h. or-right (g.0 == f.0) (among_features f.0 fs) h) fs (each-among fs))

-- ---- the names of the features of a class differ

abbrev first_feature : FeatureNo
first_feature = record { 0 = 0 }

abbrev by_feature_name : Metamodels → FeatureNo → FeatureNo → Ordering
by_feature_name m f g = slice_cmp nat_cmp (feature_at m f.0).name (feature_at m g.0).name

module _ (m : Metamodels) (known : IsWellFormed m) (c : ℕ) where
  same_feature : (f g : FeatureNo) → has_feature m c f.0 ≡ true → has_feature m c g.0 ≡ true → (feature_at m f.0).name ≡ (feature_at m g.0).name → f.0 ≡ g.0
  same_feature f g h k e = ap (λ (n : FeatureNo). n.0) (some-injective f g (sym (known.feature_found c f.0 h) ∙ ap (feature_named m c) e ∙ known.feature_found c g.0 k))

  name-apart : (f : FeatureNo) (gs : List FeatureNo) → has_feature m c f.0 ≡ true → AllByRecursion (λ g. has_feature m c g.0 ≡ true) gs
      → ((j : ℕ) → j < length gs → f.0 ≢ (slice_index_or gs j first_feature).0) → IsLevelWithNone (by_feature_name m) gs f
  name-apart f [] h a d = tt
  name-apart f (g ∷ gs) h a d = (
    (λ e. d zero (omega arith) (same_feature f g h a.0 (same-text (feature_at m f.0).name (feature_at m g.0).name e))),
    name-apart f gs h a.1 (λ j l. d (suc j) (omega arith)),
  )

  names-apart : (fs : List FeatureNo) → AllByRecursion (λ f. has_feature m c f.0 ≡ true) fs
      → ((i j : ℕ) → i < j → j < length fs → (slice_index_or fs i first_feature).0 ≢ (slice_index_or fs j first_feature).0) → NoneAreLevel (by_feature_name m) fs
  names-apart [] a d = tt
  names-apart (f ∷ fs) a d = (name-apart f fs a.0 a.1 (λ j l. d zero (suc j) (omega arith) (omega arith)), names-apart fs a.1 (λ i j l l'. d (suc i) (suc j) (omega arith) (omega arith)))

  pub features-apart : NoneAreLevel (by_feature_name m) (features_of m c)
  features-apart = names-apart (features_of m c) (each-among (features_of m c)) (known.distinct_features c)

-- ---- the slots of an object

module _ (s : Contents) (xs : List ℕ) (x : ℕ) where
  pub slots-apart : IsWellFormed s.metas → NoneAreLevel (by_name s.metas) (map (slot_data_of s xs x) (features_of s.metas (class_of s x)))
  slots-apart known = apart-map (slot_data_of s xs x) (by_name s.metas) (features_of s.metas (class_of s x)) (features-apart s.metas known (class_of s x))

  pub filled-order : IsWellFormed s.metas → AreInNameOrder s.metas (filled_slots s xs x)
  filled-order known =
      let slots = map (slot_data_of s xs x) (features_of s.metas (class_of s x)) in
      order-sorted s.metas (filter has_items slots) (apart-filter (by_name s.metas) has_items slots (slots-apart known))

  each-filled : (P : SlotData → Type 0) (fs : List FeatureNo) → AllByRecursion (λ f. has_items (slot_data_of s xs x f) ≡ true → P (slot_data_of s xs x f)) fs → AllByRecursion P (filter has_items (map (slot_data_of s xs x) fs))
  each-filled P [] h = tt
  each-filled P (f ∷ fs) h = by (has_items (slot_data_of s xs x f)) refl (each-filled P fs h.1)
    where
      by : (b : Bool) → has_items (slot_data_of s xs x f) ≡ b → AllByRecursion P (filter has_items (map (slot_data_of s xs x) fs))
          → AllByRecursion P (cond b (slot_data_of s xs x f ∷ filter has_items (map (slot_data_of s xs x) fs)) (filter has_items (map (slot_data_of s xs x) fs)))
      by true e rest = (h.0 e, rest)
      by false e rest = rest

  pub filled-all : (P : SlotData → Type 0) → AllByRecursion (λ f. has_items (slot_data_of s xs x f) ≡ true → P (slot_data_of s xs x f)) (features_of s.metas (class_of s x)) → AllByRecursion P (filled_slots s xs x)
  filled-all P h = all-sorted (by_name s.metas) P (filter has_items (map (slot_data_of s xs x) (features_of s.metas (class_of s x)))) (each-filled P (features_of s.metas (class_of s x)) h)

-- ---- lists

pub by_recursion : {X : Type 0} (P : X → Type 0) (ys : List X) → All P ys → AllByRecursion P ys
by_recursion P [] h = tt
by_recursion P (y ∷ ys) h = (h zero y (omega arith), by_recursion P ys (λ i d lt. h (suc i) d (omega arith)))

all-passing : {X : Type 0} (p : X → Bool) (ys : List X) → list_all p ys ≡ true → AllByRecursion (λ y. p y ≡ true) ys
all-passing p [] e = tt
all-passing p (y ∷ ys) e = let q = and_parts (p y) (list_all p ys) e in (q.0, all-passing p ys q.1)

pub given-all : {X Y : Type 0} (h : X → Option Y) (P R : X → Type 0) (Q : Y → Type 0) → ((x : X) (y : Y) → h x ≡ Some y → P x → R x → Q y)
    → (ys : List X) → AllByRecursion P ys → AllByRecursion R ys → AllByRecursion Q (filter_map h ys)
given-all h P R Q step [] a b = tt
given-all {Y = Y} h P R Q step (y ∷ ys) a b = by (given-all h P R Q step ys a.1 b.1) (h y) refl
  where
    by : AllByRecursion Q (filter_map h ys) → (o : Option Y) → h y ≡ o → AllByRecursion Q (cons_option o (filter_map h ys))
    by rest None e = rest
    by rest (Some z) e = (step y z e a.0 b.0, rest)

given-fewer : {X Y : Type 0} (h : X → Option Y) (ys : List X) → length (filter_map h ys) ≤ length ys
given-fewer h [] = omega arith
given-fewer {Y = Y} h (y ∷ ys) = by (given-fewer h ys) (h y)
  where
    by : length (filter_map h ys) ≤ length ys → (o : Option Y) → length (cons_option o (filter_map h ys)) ≤ suc (length ys)
    by rest None = omega arith
    by rest (Some z) = omega arith

-- ---- the objects of an extent

abbrev pub IsMember : Contents → ℕ → ℕ → Type 0
IsMember s e x = (x < length s.objects) × (extent_of s x ≡ e)

pub members-are : (s : Contents) (e n : ℕ) (rest : List Instance) → ((i : ℕ) → slice_index_or rest i no_instance ≡ slice_index_or s.objects (n + i) no_instance) → n + length rest ≡ length s.objects
    → AllByRecursion (IsMember s e) (numbers (members_from n rest e))
members-are s e n [] same count = tt
members-are s e n (o ∷ rest) same count =
    by (members-are s e (suc n) rest (λ i. same (suc i) ∙ ap (λ j. slice_index_or s.objects j no_instance) (omega arith)) (omega (arith, count))) (o.extent == e) refl
  where
    by : AllByRecursion (IsMember s e) (numbers (members_from (suc n) rest e)) → (b : Bool) → (o.extent == e) ≡ b
        → AllByRecursion (IsMember s e) (numbers (cond b (record { 0 = n } ∷ members_from (suc n) rest e) (members_from (suc n) rest e)))
    by more true is =
        let here : slice_index_or s.objects n no_instance ≡ o = ap (λ j. slice_index_or s.objects j no_instance) (omega arith) ∙ sym (same zero) in
        ((omega (arith, count), ap (λ (p : Instance). p.extent) here ∙ eqb-true o.extent e is), more)
    by more false is = more

pub members-few : (e n : ℕ) (rest : List Instance) → length (numbers (members_from n rest e)) ≤ length rest
members-few e n [] = omega arith
members-few e n (o ∷ rest) = by (members-few e (suc n) rest) (o.extent == e)
  where
    by : length (numbers (members_from (suc n) rest e)) ≤ length rest → (b : Bool) → length (numbers (cond b (record { 0 = n } ∷ members_from (suc n) rest e) (members_from (suc n) rest e))) ≤ suc (length rest)
    by more true = omega arith
    by more false = omega arith

module _ (s : Contents) (xs : List ℕ) where
  count-objects : (n : ℕ) (ys : List ℕ) → length (objects_from s xs n ys) ≡ length ys
  count-objects n [] = refl
  count-objects n (y ∷ ys) = ap suc (count-objects (suc n) ys)

  class-there : (n : ℕ) (ys : List ℕ) (i : ℕ) → i < length ys → (object_data_at (objects_from s xs n ys) i).class.0 ≡ class_of s (slice_index_or ys i 0)
  unfolding object_data_of
  class-there n [] i lt = absurd (omega arith)
  class-there n (y ∷ ys) zero lt = refl
  class-there n (y ∷ ys) (suc i) lt = class-there (suc n) ys i (omega arith)

  ids-later : (n a : ℕ) (ys : List ℕ) → n < a → a + length ys < 2 ^ 64 → list_any (bytes_eq (own_id n)) (ids (objects_from s xs a ys)) ≡ false
  unfolding object_data_of
  ids-later n a [] lt fits = refl
  ids-later n a (y ∷ ys) lt fits = rw (own_id-apart a n lt (omega arith), ids-later n (suc a) ys (omega arith) (omega arith)) refl

  ids-differ : (n : ℕ) (ys : List ℕ) → n + length ys < 2 ^ 64 → none_repeats (ids (objects_from s xs n ys)) ≡ true
  unfolding object_data_of
  ids-differ n [] fits = refl
  ids-differ n (y ∷ ys) fits = ap (λ b. not (b || repeats_by bytes_eq (ids (objects_from s xs (suc n) ys)))) (ids-later n (suc n) ys (omega arith) (omega arith)) ∙ ids-differ (suc n) ys (omega arith)

  pub ids-texts : (n : ℕ) (ys : List ℕ) → n + length ys < 2 ^ 64 → AllByRecursion (λ o. IsUtf8 o.id) (objects_from s xs n ys)
  unfolding object_data_of
  ids-texts n [] fits = tt
  ids-texts n (y ∷ ys) fits = (IsUtf8-own_id n (omega arith), ids-texts (suc n) ys (omega arith))

  ids-forms : (n : ℕ) (ys : List ℕ) → n + length ys < 2 ^ 64 → AllByRecursion (λ o. IsTrue (is_id o.id)) (objects_from s xs n ys)
  unfolding object_data_of
  ids-forms n [] fits = tt
  ids-forms n (y ∷ ys) fits = (is_id-own_id n (omega arith), ids-forms (suc n) ys (omega arith))

  pub all-objects : (P : ℕ → Type 0) (Q : ObjectData → Type 0) → ((n y : ℕ) → P y → Q (object_data_of s xs n y)) → (n : ℕ) (ys : List ℕ) → AllByRecursion P ys → AllByRecursion Q (objects_from s xs n ys)
  all-objects P Q step n [] a = tt
  all-objects P Q step n (y ∷ ys) a = (step n y a.0, all-objects P Q step (suc n) ys a.1)

-- ---- items

module _ (s : Contents) (xs : List ℕ) (os : List ObjectData) (count : length os ≡ length xs) (there : (i : ℕ) → i < length xs → (object_data_at os i).class.0 ≡ class_of s (slice_index_or xs i 0)) where
  ref-item : (c y : ℕ) (x : Datum) → option_map Ref (place_within xs y) ≡ Some x → descends s.metas (class_of s y) c ≡ true → IsItem s.metas os (ClassKind (record { 0 = c })) x
  ref-item c y x e h = by (place_within xs y) refl e
    where
      by : (o : Option ℕ) → place_within xs y ≡ o → option_map Ref o ≡ Some x → IsItem s.metas os (ClassKind (record { 0 = c })) x
      by None is e = absurd (cc)
      by (Some i) is e =
          let at = position-Some (λ z. y == z) xs i 0 is in
          let same : y ≡ slice_index_or xs i 0 = eqb-true y (slice_index_or xs i 0) at.1 in
          let class : (object_data_at os i).class.0 ≡ class_of s y = there i at.0 ∙ ap (class_of s) (sym same) in
          let conforms : descends s.metas (object_data_at os i).class.0 c ≡ true = ap (λ a. descends s.metas a c) class ∙ h in
          subst (IsItem s.metas os (ClassKind (record { 0 = c }))) (some-injective (Ref i) x e) (omega (arith, at.0, count), conforms)

  value-item : (kind : TypeKind) (v : Value) (x : Datum) → datum_in xs v ≡ Some x → is_of_kind s kind v ≡ true → HasCodeType v → IsItem s.metas os kind x
  value-item BoolKind (BoolValue b) x e t p = subst (IsItem s.metas os BoolKind) (some-injective (BoolDatum b) x e) tt
  value-item BoolKind _ x e t p = absurd (cc)
  value-item IntKind (IntValue z) x e t p = subst (IsItem s.metas os IntKind) (some-injective (Int z) x e) p
  value-item IntKind _ x e t p = absurd (cc)
  value-item StrKind (StrValue text) x e t p = subst (IsItem s.metas os StrKind) (some-injective (Str text) x e) p
  value-item StrKind _ x e t p = absurd (cc)
  value-item (EnumKind a b) (EnumValue l) x e t p =
      let both = and_parts ((l.metamodel == a) && (l.enumeration == b)) (nat_lt l.literal (length (enumeration_at s.metas a b).literals)) t in
      let numbers = and_parts (l.metamodel == a) (l.enumeration == b) both.0 in
      subst (IsItem s.metas os (EnumKind a b)) (some-injective (Literal l) x e)
      (eqb-true l.metamodel a numbers.0, eqb-true l.enumeration b numbers.1, ltb-true l.literal (length (enumeration_at s.metas a b).literals) both.1)
  value-item (EnumKind a b) _ x e t p = absurd (cc)
  value-item (ClassKind c) (Obj o) x e t p = ref-item c.0 o.0 x e (and_parts (is_live s o.0) (descends s.metas (class_of s o.0) c.0) t).1
  value-item (ClassKind c) _ x e t p = absurd (cc)

one-bound : (n : ℕ) (upper : Option ℕ) → is_one upper ≡ true → exceeds_bound n upper ≡ false → n ≤ 1
one-bound n None single within = absurd (cc)
one-bound n (Some k) single within = omega (arith, eqb-true k 1 single, ltb-false k n within)

-- ---- the whole

module _ (s : Contents) (e : ℕ) (store : IsStore s) (sound : Sound s) where
  abbrev xs : List ℕ
  xs = numbers (members_of s e)

  abbrev os : List ObjectData
  os = objects_from s xs 1 xs

  is-slot : (x : ℕ) (f : FeatureNo) → among_features f.0 (features_of s.metas (class_of s x)) ≡ true → has_items (slot_data_of s xs x f) ≡ true → IsSlot s.metas os (class_of s x) (slot_data_of s xs x f)
  is-slot x f own some = record {
    own = own;
    some = ltb-true 0 (length (slot_data_of s xs x f).items) some;
    items = given-all (datum_in xs) (λ v. is_of_type s f.0 v ≡ true) HasCodeType (IsItem s.metas os (shape_of s.metas f.0).kind)
        (λ v y e t p. value-item s xs os (count-objects s xs 1 xs) (λ i lt. class-there s xs 1 xs i lt) (shape_of s.metas f.0).kind v y e t p)
        (slot_of s x f.0) (all-passing (is_of_type s f.0) (slot_of s x f.0) (sound.parts.typed.types x f.0)) (by_recursion HasCodeType (slot_of s x f.0) (sound.parts.plain x f.0));
  }

  is-object : (n x : ℕ) → IsMember s e x → IsObjectIn s.metas (extent_at s e).metamodel os (object_data_of s xs n x)
  unfolding object_data_of
  is-object n x h =
      let live : is_live s x ≡ true = lt-ltb x (length s.objects) h.0 in
      let features = features_of s.metas (class_of s x) in
      record {
        class = (sound.parts.classes x live).live;
        metamodel = (sound.parts.classes x live).metamodel ∙ ap (λ k. (extent_at s k).metamodel) h.1;
        slots = filled-all s xs x (IsSlot s.metas os (class_of s x))
            (All-weaken (λ f. among_features f.0 features ≡ true) (λ f. has_items (slot_data_of s xs x f) ≡ true → IsSlot s.metas os (class_of s x) (slot_data_of s xs x f)) (λ f own some. is-slot x f own some) features (each-among features));
        order = filled-order s xs x store.well_formed;
      }

  holds-one : (x : ℕ) (f : FeatureNo) → HoldsOne s.metas (slot_data_of s xs x f)
  holds-one x f = record {
    one = λ single.
        let within = one-bound (length (slot_of s x f.0)) (shape_of s.metas f.0).upper single (sound.parts.bounds x f.0) in
        omega (arith, within, given-fewer (datum_in xs) (slot_of s x f.0));
  }

  every : (fs : List FeatureNo) (x : ℕ) → AllByRecursion (λ f. has_items (slot_data_of s xs x f) ≡ true → HoldsOne s.metas (slot_data_of s xs x f)) fs
  every [] x = tt
  every (f ∷ fs) x = ((λ some. holds-one x f), every fs x)

  object-ones : (n x : ℕ) → IsMember s e x → AllByRecursion (HoldsOne s.metas) (object_data_of s xs n x).slots
  unfolding object_data_of
  object-ones n x h = filled-all s xs x (HoldsOne s.metas) (every (features_of s.metas (class_of s x)) x)

  few : 1 + length xs < 2 ^ 64
  few = omega (arith, members-few e 0 s.objects, store.few)

  members : AllByRecursion (IsMember s e) xs
  members = members-are s e 0 s.objects (λ i. ap (λ j. slice_index_or s.objects j no_instance) (omega arith)) (omega arith)

  pub IsModel-data_of : IsModel s.metas (extent_at s e).metamodel (data_of s e)
  unfolding data_of
  IsModel-data_of = record {
    ids = ids-differ s xs 1 xs few;
    objects = all-objects s xs (IsMember s e) (IsObjectIn s.metas (extent_at s e).metamodel os) (λ n x h. is-object n x h) 1 xs members;
  }

  pub IsStorable-data_of : IsStorable s.metas (data_of s e)
  unfolding data_of
  IsStorable-data_of = record {
    texts = ids-texts s xs 1 xs few;
    forms = ids-forms s xs 1 xs few;
    ones = all-objects s xs (IsMember s e) (λ o. AllByRecursion (HoldsOne s.metas) o.slots) (λ n x h. object-ones n x h) 1 xs members;
  }

pub model_of-data_of : (s : Contents) (e : ℕ) → IsStore s → Sound s → IsTrue (is_extent s e) → IsTrue (is_model s e)
    → model_of s.metas (extent_at s e).metamodel (model_text s.metas (data_of s e)) ≡ Ok (data_of s e)
model_of-data_of s e store sound live model =
    model_of-model_text s.metas (extent_at s e).metamodel (data_of s e) store.well_formed has_name (IsModel-data_of s e store sound) (IsStorable-data_of s e store sound)
  where
    has_name : (metamodel_at s.metas (extent_at s e).metamodel).name ≢ []
    has_name none =
        let here : is_named (metamodel_at s.metas (extent_at s e).metamodel).name ≡ true = sym (store.named.named e live) ∙ model in
        let never : is_named (metamodel_at s.metas (extent_at s e).metamodel).name ≡ false = ap is_named none in
        absurd (cc)
