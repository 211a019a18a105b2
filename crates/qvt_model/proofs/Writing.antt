-- What is written for the objects of an extent is what is written for its data.
use Rattle.std.proofs.Common.{◌≡◌, ◌∙◌, ℕ, zero, suc, ◌+◌, ◌<◌, ◌^◌, ◌==◌, eqb, List, [], ◌∷◌, ◌++◌, length, map, Bool, true, false, cond, nat_lt, Option, Some, None, option_map, Ordering, Less, Greater, slice_index_or, refl, sym, ap, subst, arith, lt-ltb, ne_eqb, IsTrue}
use Rattle.std.specs.Prelude.{⊤, codes}
use Rattle.std.specs.List.{list_any, filter, filter_map, cons_option, AllByRecursion}
use Rattle.std.specs.Ordering.{match_ordering, is_lt}
use Rattle.std.proofs.lemmas.List.Quantifiers.{position-Some}
use Rattle.serde_json.specs.Data.{string, array, object, no_members, member, put}
use Rattle.serde_json.specs.View.{items_of}
use Rattle.qvt_base.specs.declared.numbers.FeatureNo.{FeatureNo}
use Rattle.qvt_base.specs.declared.numbers.Oid.{Oid}
use Rattle.qvt_value.specs.declared.value.Value.{Value}
use Rattle.qvt_value.specs.declared.value.Value.TheVariants.{Bool as BoolValue, Int as IntValue, Str as StrValue, Enum as EnumValue, Obj}
use Rattle.qvt_value.specs.Kept.{put_in}
use Rattle.qvt_value.proofs.Sorting.{IsLevelWithNone, NoneAreLevel, apart-filter, above, below, put_each, put_each-sorted, still-apart}
use Rattle.qvt_repeats.specs.Repeats.{repeated_by}
use Rattle.qvt_metas.specs.Metamodels.{class_at, feature_at, features_of, is_single}
use Rattle.qvt_metas.specs.WellFormed.{IsWellFormed}
use Rattle.qvt_json.specs.Plain as written
use Rattle.qvt_json.proofs.Ordered.{some-injective, map-some}
use Rattle.qvt_store.specs.Contents.{Instance, Contents, no_instance, class_of, is_live, slot_of, members_from, members_of}
use Rattle.qvt_store.specs.Types.{HasCodeType}
use Rattle.qvt_store.specs.Sound.{Sound}
use Rattle.qvt_model.specs.Extents.{own_id, numbers, place_within, datum_in, slot_data_of, name_of, by_name, filled_slots, object_data_of, objects_from, data_of}
use Rattle.qvt_model.specs.Reading.{has_items}
use Rattle.qvt_model.specs.WellFormed.{object_data_at, IsPlainDatum, IsPlainSlot}
use Rattle.qvt_model.specs.Written.{datum_value, slot_value, slot_members, written_object, model_value}
use Rattle.qvt_model.specs.Writing.{id_at, value_written, slot_written, put_some, members_onto, object_written, objects_written, model_written}
use Rattle.qvt_model.specs.declared.data.Datum.{Datum}
use Rattle.qvt_model.specs.declared.data.Datum.TheVariants.{Bool as BoolDatum, Int, Str, Literal, Ref}
use Rattle.qvt_model.specs.declared.data.SlotData.{SlotData}
use Rattle.qvt_model.specs.declared.data.ObjectData.{ObjectData}
use Rattle.qvt_model.proofs.Extents.{IsMember, members-are, by_name-total, slots-apart, filled-all, filled-order, given-all, by_recursion, ids-texts, all-objects, members-few}
use Rattle.qvt_model.proofs.Lists.{All-weaken}
use Rattle.qvt_model.proofs.Whole.{IsWrittenObject, IsPlain-model_value}

-- ---- the numbers of an extent are new, one after the other

none-same : (n : ℕ) (earlier : List ℕ) → AllByRecursion (λ y. y < n) earlier → list_any (eqb n) earlier ≡ false
none-same n [] a = refl
none-same n (y ∷ earlier) a = let below : y < n = a.0 in rw (ne_eqb n y (λ e. omega (arith, e, below)), none-same n earlier a.1) refl

below-next : (n : ℕ) (earlier : List ℕ) → AllByRecursion (λ y. y < n) earlier → AllByRecursion (λ y. y < suc n) (earlier ++ n ∷ [])
below-next n [] a = (omega arith, tt)
below-next n (y ∷ earlier) a = let below : y < n = a.0 in (omega arith, below-next n earlier a.1)

still-below : (n : ℕ) (earlier : List ℕ) → AllByRecursion (λ y. y < n) earlier → AllByRecursion (λ y. y < suc n) earlier
still-below n [] a = tt
still-below n (y ∷ earlier) a = let below : y < n = a.0 in (omega arith, still-below n earlier a.1)

none-again : (e n : ℕ) (rest : List Instance) (earlier : List ℕ) → AllByRecursion (λ y. y < n) earlier → repeated_by eqb earlier (numbers (members_from n rest e)) ≡ None
none-again e n [] earlier a = refl
none-again e n (o ∷ rest) earlier a = by (none-again e (suc n) rest (earlier ++ n ∷ []) (below-next n earlier a)) (none-again e (suc n) rest earlier (still-below n earlier a)) (o.extent == e)
  where
    by : repeated_by eqb (earlier ++ n ∷ []) (numbers (members_from (suc n) rest e)) ≡ None → repeated_by eqb earlier (numbers (members_from (suc n) rest e)) ≡ None → (b : Bool)
        → repeated_by eqb earlier (numbers (cond b (record { 0 = n } ∷ members_from (suc n) rest e) (members_from (suc n) rest e))) ≡ None
    by more skipped true = ap (λ b. cond b (Some n) (repeated_by eqb (earlier ++ n ∷ []) (numbers (members_from (suc n) rest e)))) (none-same n earlier a) ∙ more
    by more skipped false = skipped

pub members-new : (s : Contents) (e : ℕ) → repeated_by eqb [] (numbers (members_of s e)) ≡ None
members-new s e = none-again e 0 s.objects [] tt

all-numbers : (P : ℕ → Type 0) (ms : List Oid) → AllByRecursion P (numbers ms) → AllByRecursion (λ o. P o.0) ms
all-numbers P [] a = tt
all-numbers P (o ∷ ms) a = (a.0, all-numbers P ms a.1)

pub members-live : (s : Contents) (e : ℕ) → AllByRecursion (λ o. IsTrue (is_live s o.0)) (members_of s e)
members-live s e =
    let are = members-are s e 0 s.objects (λ i. ap (λ j. slice_index_or s.objects j no_instance) (omega arith)) (omega arith) in
    all-numbers (λ x. IsTrue (is_live s x)) (members_of s e) (All-weaken (IsMember s e) (λ x. IsTrue (is_live s x)) (λ x h. lt-ltb x (length s.objects) h.0) (numbers (members_of s e)) are)

-- ---- values

cons-map : {X Y : Type 0} (g : X → Y) (o : Option X) (xs : List X) → cons_option (option_map g o) (map g xs) ≡ map g (cons_option o xs)
cons-map g None xs = refl
cons-map g (Some x) xs = refl

pub id-there : (s : Contents) (xs : List ℕ) (n : ℕ) (ys : List ℕ) (i : ℕ) → i < length ys → (object_data_at (objects_from s xs n ys) i).id ≡ own_id (n + i)
unfolding object_data_of
id-there s xs n [] i lt = absurd (omega arith)
id-there s xs n (y ∷ ys) zero lt = ap own_id (omega arith)
id-there s xs n (y ∷ ys) (suc i) lt = id-there s xs (suc n) ys i (omega arith) ∙ ap own_id (omega arith)

module _ (s : Contents) (xs : List ℕ) where
  abbrev os : List ObjectData
  os = objects_from s xs 1 xs

  value-same : (v : Value) → value_written s.metas xs v ≡ option_map (datum_value s.metas os) (datum_in xs v)
  value-same (BoolValue b) = refl
  value-same (IntValue z) = refl
  value-same (StrValue t) = refl
  value-same (EnumValue l) = refl
  value-same (Obj o) = by (place_within xs o.0) refl
    where
      by : (p : Option ℕ) → place_within xs o.0 ≡ p → option_map id_at p ≡ option_map (datum_value s.metas os) (option_map Ref p)
      by None e = refl
      by (Some i) e = ap (λ id. Some (string id)) (sym (id-there s xs 1 xs i (position-Some (λ x. o.0 == x) xs i 0 e).0 ∙ ap own_id (omega arith)))
  value-same _ = refl

  values-same : (vs : List Value) → filter_map (value_written s.metas xs) vs ≡ map (datum_value s.metas os) (filter_map (datum_in xs) vs)
  values-same [] = refl
  values-same (v ∷ vs) = (λ i. cons_option (value-same v i) (values-same vs i)) ∙ cons-map (datum_value s.metas os) (datum_in xs v) (filter_map (datum_in xs) vs)

  -- ---- slots

  members-put : (t : SlotData) (us : List SlotData) → IsLevelWithNone (by_name s.metas) us t → slot_members s.metas os (put_in (by_name s.metas) t us) ≡ put (name_of s.metas t) (slot_value s.metas os t) (slot_members s.metas os us)
  members-put t [] a = refl
  members-put t (u ∷ us) a = by (is_lt (by_name s.metas u t)) refl (members-put t us a.1)
    where
      -- where the slot is put by how the two names compare
      chosen : (o : Ordering) → by_name s.metas t u ≡ o → put (name_of s.metas t) (slot_value s.metas os t) (slot_members s.metas os (u ∷ us))
          ≡ match_ordering o (member (name_of s.metas t) (slot_value s.metas os t) (slot_members s.metas os (u ∷ us))) (member (name_of s.metas u) (slot_value s.metas os t) (slot_members s.metas os us))
          (member (name_of s.metas u) (slot_value s.metas os u) (put (name_of s.metas t) (slot_value s.metas os t) (slot_members s.metas os us)))
      chosen o e = ap (λ r. match_ordering r (member (name_of s.metas t) (slot_value s.metas os t) (slot_members s.metas os (u ∷ us))) (member (name_of s.metas u) (slot_value s.metas os t) (slot_members s.metas os us))
          (member (name_of s.metas u) (slot_value s.metas os u) (put (name_of s.metas t) (slot_value s.metas os t) (slot_members s.metas os us)))) e

      by : (b : Bool) → is_lt (by_name s.metas u t) ≡ b → slot_members s.metas os (put_in (by_name s.metas) t us) ≡ put (name_of s.metas t) (slot_value s.metas os t) (slot_members s.metas os us)
          → slot_members s.metas os (cond b (u ∷ put_in (by_name s.metas) t us) (t ∷ u ∷ us)) ≡ put (name_of s.metas t) (slot_value s.metas os t) (slot_members s.metas os (u ∷ us))
      by true e rest = ap (member (name_of s.metas u) (slot_value s.metas os u)) rest ∙ sym (chosen Greater (above (by_name s.metas) (by_name-total s.metas) t u e))
      by false e rest = sym (chosen Less (below (by_name s.metas) (by_name-total s.metas) t u e a.0))

  slot-same : (f : FeatureNo) (ds : List Datum) (us : List SlotData) → IsLevelWithNone (by_name s.metas) us (record { feature = f; items = ds })
      → put_some (feature_at s.metas f.0).name (slot_written s.metas f (map (datum_value s.metas os) ds)) (slot_members s.metas os us)
      ≡ slot_members s.metas os (cond (has_items (record { feature = f; items = ds })) (put_in (by_name s.metas) (record { feature = f; items = ds }) us) us)
  slot-same f [] us a = by (is_single s.metas f.0)
    where
      by : (b : Bool) → put_some (feature_at s.metas f.0).name (cond b None None) (slot_members s.metas os us) ≡ slot_members s.metas os us
      by true = refl
      by false = refl
  slot-same f (d ∷ ds) us a = by (is_single s.metas f.0) refl
    where
      by : (b : Bool) → is_single s.metas f.0 ≡ b
          → put_some (feature_at s.metas f.0).name (slot_written s.metas f (map (datum_value s.metas os) (d ∷ ds))) (slot_members s.metas os us)
          ≡ slot_members s.metas os (cond (nat_lt 0 (suc (length ds))) (put_in (by_name s.metas) (record { feature = f; items = d ∷ ds }) us) us)
      by true is = rw (is, lt-ltb 0 (suc (length ds)) (omega arith)) (sym (members-put (record { feature = f; items = d ∷ ds }) us a ∙ rw is refl))
      by false is = rw (is, lt-ltb 0 (suc (length ds)) (omega arith)) (sym (members-put (record { feature = f; items = d ∷ ds }) us a ∙ rw is refl))

  -- the slots put among others, which are level with none of them
  members-same : (x : ℕ) (ts : List SlotData) (fs : List FeatureNo) → NoneAreLevel (by_name s.metas) (map (slot_data_of s xs x) fs) → AllByRecursion (IsLevelWithNone (by_name s.metas) ts) (map (slot_data_of s xs x) fs)
      → members_onto s xs x (slot_members s.metas os ts) fs ≡ slot_members s.metas os (put_each (by_name s.metas) ts (filter has_items (map (slot_data_of s xs x) fs)))
  members-same x ts [] a l = refl
  members-same x ts (f ∷ fs) a l =
      ap (λ ds. members_onto s xs x (put_some (feature_at s.metas f.0).name (slot_written s.metas f ds) (slot_members s.metas os ts)) fs) (values-same (slot_of s x f.0))
      ∙ ap (λ ms. members_onto s xs x ms fs) (slot-same f (slot_data_of s xs x f).items ts l.0)
      ∙ members-same x (cond (has_items (slot_data_of s xs x f)) (put_in (by_name s.metas) (slot_data_of s xs x f) ts) ts) fs a.1 (level (has_items (slot_data_of s xs x f)))
      ∙ ap (slot_members s.metas os) (each (has_items (slot_data_of s xs x f)) (filter has_items (map (slot_data_of s xs x) fs)))
    where
      level : (b : Bool) → AllByRecursion (IsLevelWithNone (by_name s.metas) (cond b (put_in (by_name s.metas) (slot_data_of s xs x f) ts) ts)) (map (slot_data_of s xs x) fs)
      level true = still-apart (by_name s.metas) (by_name-total s.metas) (slot_data_of s xs x f) ts (map (slot_data_of s xs x) fs) a.0 l.1
      level false = l.1

      each : (b : Bool) (us : List SlotData) → put_each (by_name s.metas) (cond b (put_in (by_name s.metas) (slot_data_of s xs x f) ts) ts) us ≡ put_each (by_name s.metas) ts (cond b (slot_data_of s xs x f ∷ us) us)
      each true us = refl
      each false us = refl

  from_none : (us : List SlotData) → AllByRecursion (IsLevelWithNone (by_name s.metas) []) us
  from_none [] = tt
  from_none (u ∷ us) = (tt, from_none us)

  filled-same : (x : ℕ) → IsWellFormed s.metas → members_onto s xs x no_members (features_of s.metas (class_of s x)) ≡ slot_members s.metas os (filled_slots s xs x)
  filled-same x known =
      let slots = map (slot_data_of s xs x) (features_of s.metas (class_of s x)) in
      let apart = slots-apart s xs x known in
      members-same x [] (features_of s.metas (class_of s x)) apart (from_none slots)
      ∙ ap (slot_members s.metas os) (put_each-sorted (by_name s.metas) (by_name-total s.metas) (filter has_items slots) (apart-filter (by_name s.metas) has_items slots apart))

  -- ---- objects

  object-same : (n x : ℕ) → IsWellFormed s.metas → object_written s xs n x ≡ written_object s.metas os (object_data_of s xs n x)
  unfolding object_data_of
  object-same n x known =
      ap (λ ms. object (member (codes "class") (string (class_at s.metas (class_of s x)).name) (member (codes "id") (string (own_id n)) (member (codes "slots") (object ms) no_members))))
      (filled-same x known)

  objects-same : (n : ℕ) (ys : List ℕ) → IsWellFormed s.metas → objects_written s xs n ys ≡ map (written_object s.metas os) (objects_from s xs n ys)
  objects-same n [] known = refl
  objects-same n (y ∷ ys) known = λ i. object-same n y known i ∷ objects-same (suc n) ys known i

  -- ---- what is written is plain

  value-plain : (v : Value) (x : Datum) → datum_in xs v ≡ Some x → HasCodeType v → IsPlainDatum x
  value-plain (BoolValue b) x e p = subst IsPlainDatum (some-injective (BoolDatum b) x e) tt
  value-plain (IntValue z) x e p = subst IsPlainDatum (some-injective (Int z) x e) p
  value-plain (StrValue t) x e p = subst IsPlainDatum (some-injective (Str t) x e) p
  value-plain (EnumValue l) x e p = subst IsPlainDatum (some-injective (Literal l) x e) tt
  value-plain (Obj o) x e p = subst IsPlainDatum (map-some Ref (place_within xs o.0) x e).2 tt
  value-plain _ x e p = absurd (cc)

  slots-plain : Sound s → (x : ℕ) (fs : List FeatureNo) → AllByRecursion (λ f. has_items (slot_data_of s xs x f) ≡ true → IsPlainSlot (slot_data_of s xs x f)) fs
  slots-plain sound x [] = tt
  slots-plain sound x (f ∷ fs) = (
    (λ some. let plain = by_recursion HasCodeType (slot_of s x f.0) (sound.parts.plain x f.0) in
        given-all (datum_in xs) HasCodeType HasCodeType IsPlainDatum (λ v y e p q. value-plain v y e p) (slot_of s x f.0) plain plain),
    slots-plain sound x fs,
  )

  object-plain : IsWellFormed s.metas → Sound s → (n x : ℕ) → IsWrittenObject s.metas (object_data_of s xs n x)
  unfolding object_data_of
  object-plain known sound n x =
      (filled-all s xs x IsPlainSlot (slots-plain sound x (features_of s.metas (class_of s x))), filled-order s xs x known)

  any : (ys : List ℕ) → AllByRecursion (λ _. ⊤) ys
  any [] = tt
  any (y ∷ ys) = (tt, any ys)

pub model_written-is : (s : Contents) (e : ℕ) → IsWellFormed s.metas → model_written s (numbers (members_of s e)) ≡ model_value s.metas (data_of s e)
unfolding data_of
model_written-is s e known = ap (λ ds. object (member (codes "objects") (array (items_of ds)) no_members)) (objects-same s (numbers (members_of s e)) 1 (numbers (members_of s e)) known)

pub IsPlain-model_written : (s : Contents) (e : ℕ) → IsWellFormed s.metas → Sound s → length s.objects < 2 ^ 32 → written.IsPlain (model_written s (numbers (members_of s e)))
unfolding data_of
IsPlain-model_written s e named sound few =
    let xs = numbers (members_of s e) in
    let fits : 1 + length xs < 2 ^ 64 = omega (arith, members-few e 0 s.objects, few) in
    let texts = ids-texts s xs 1 xs fits in
    let objects = all-objects s xs (λ _. ⊤) (IsWrittenObject s.metas) (λ n x _. object-plain s xs named sound n x) 1 xs (any s xs xs) in
    subst written.IsPlain (sym (model_written-is s e named)) (IsPlain-model_value s.metas (data_of s e) named texts objects)
