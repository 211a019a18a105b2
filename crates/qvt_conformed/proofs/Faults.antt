-- A model without a fault conforms in the terms of a store.
use Rattle.std.proofs.Common.{◌≡◌, ℕ, zero, suc, ◌+◌, ◌<◌, ◌≤◌, Bool, true, false, ◌==◌, ◌||◌, ◌&&◌, not, cond, inl, inr, refl, sym, ap, ◌∙◌, subst, List, [], ◌∷◌, map, length, nat_lt, arith}
use Rattle.std.specs.Prelude.{Option, Some, None, slice_index_or}
use Rattle.std.specs.List.{list_any, AllByRecursion}
use Rattle.std.proofs.lemmas.Bool.{cases_lt, cases_eq, eq-eqb, ne_eqb, le-ltb, leb-true, ltb-false}
use Rattle.std.proofs.lemmas.Bool.Decides.{Decides-eqb}
use Rattle.qvt_base.specs.declared.numbers.FeatureNo.{FeatureNo}
use Rattle.qvt_repeats.specs.Repeats.{repeats_by}
use Rattle.qvt_repeats.proofs.Repeating.{repeats-map, repeats-fewer}
use Rattle.qvt_value.specs.declared.value.Value.{Value}
use Rattle.qvt_value.specs.declared.value.Value.TheVariants.{Bool as BoolValue, Int as IntValue, Str as StrValue, Enum as EnumValue, Obj}
use Rattle.qvt_value.specs.Kept.{is_same}
use Rattle.qvt_value.specs.Order.{order_of}
use Rattle.qvt_metamodel.specs.Metamodels.{Metamodels, class_at, feature_at, features_of, among_features, has_feature, shape_of, opposite, is_opposite, is_feature_number, is_containment}
use Rattle.qvt_relation.specs.Closure.{Closure}
use Rattle.qvt_relation.specs.Closure.Closure.{directly as one_step, through as more_steps}
use Rattle.qvt_relation.proofs.Bools.{and_right, and_both, or_cases, none_left, none_right, either, clash, refuted}
use Rattle.qvt_relation.proofs.Closures.{closure-reaches}
use Rattle.qvt_json.specs.Steps.{or_next}
use Rattle.qvt_model.proofs.Steps.{neither}
use Rattle.qvt_store.specs.Slots.{is_object, has, Inside, directly, through}
use Rattle.qvt_store.specs.Repeats.{repeats}
use Rattle.qvt_slots.proofs.Repeating.{same_true}
use Rattle.qvt_store.specs.Assign.{exceeds_bound}
use Rattle.qvt_slots.proofs.Lists.{length-map, past_end}
use Rattle.qvt_model.specs.declared.data.Datum.{Datum}
use Rattle.qvt_model.specs.declared.data.Datum.TheVariants.{Bool as BoolDatum, Int, Str, Literal, Ref}
use Rattle.qvt_model.specs.declared.data.SlotData.{SlotData}
use Rattle.qvt_model.specs.declared.data.ObjectData.{ObjectData}
use Rattle.qvt_model.specs.WellFormed.{object_data_at, no_object, IsItem, IsSlot, IsObjectIn, IsModel}
use Rattle.qvt_cycle.specs.Successors.{among, leads, is_on_cycle, how_often, how_often_in}
use Rattle.qvt_conform.specs.declared.fault.ConformFault.{ConformFault}
use Rattle.qvt_conform.specs.declared.fault.ConformFault.TheVariants.{Bounds, NotUnique, Opposite, Abstract, TwoContainers, ContainmentCycle}
use Rattle.qvt_conform.specs.Items.{is_at_most, is_within, same_item, is_ref, lacks, lack_opposite}
use Rattle.qvt_conform.proofs.SameItems.{same_itself}
use Rattle.qvt_conform.specs.Containment.{contents_of_slots, contents_of_object, contents}
use Rattle.qvt_conform.specs.Conformance.{fault_if, feature_fault, features_fault, containment_fault, object_fault, faults_from, conform_fault}
use Rattle.qvt_model.specs.Items.{items_in}
use Rattle.qvt_model.specs.Loaded.{value_at}
use Rattle.qvt_model.specs.Conforming.{slots_at, Conforms}
use Rattle.qvt_model.proofs.Final.{not_own, all_at}
use Rattle.qvt_model.proofs.Placing.{ref_below}
use Rattle.qvt_model.proofs.Lists.{index-map}
use Rattle.qvt_conformed.proofs.Counts.{held_among, in_slots, two_slots, once_in_lists, at_most_here}
use Rattle.qvt_conformed.specs.Law.{FaultlessConforms}

no_fault : (b : Bool) (f : ConformFault) → fault_if b f ≡ None → b ≡ false
no_fault true f e = cc
no_fault false f e = refl

-- ---- each object, each feature

objects_none : (m : Metamodels) (all : List ObjectData) (i : ℕ) (os : List ObjectData) → faults_from m all i os ≡ None → (j : ℕ) → j < length os → object_fault m all (j + i) (object_data_at os j) ≡ None
objects_none m all i [] e j l = absurd (omega arith)
objects_none m all i (o ∷ os) e zero l = ap (λ k. object_fault m all k o) (let q : 0 + i ≡ i = omega arith in q) ∙ (neither (object_fault m all i o) (faults_from m all (suc i) os) e).0
objects_none m all i (o ∷ os) e (suc j) l =
    ap (λ k. object_fault m all k (object_data_at os j)) (let q : suc j + i ≡ j + suc i = omega arith in q)
    ∙ objects_none m all (suc i) os (neither (object_fault m all i o) (faults_from m all (suc i) os) e).1 j (omega arith)

features_none : (m : Metamodels) (os : List ObjectData) (i : ℕ) (o : ObjectData) (fs : List FeatureNo) (f : ℕ) → features_fault m os i o fs ≡ None → among_features f fs ≡ true → feature_fault m os i o (record { 0 = f }) ≡ None
features_none m os i o [] f e h = clash false h refl
features_none m os i o (g ∷ gs) f e h = elim (or_cases (g.0 == f) (among_features f gs) h) [
  | inl here ↦ ap (λ n. feature_fault m os i o (record { 0 = n })) (sym ((Decides-eqb g.0 f).0 here)) ∙ (neither (feature_fault m os i o g) (features_fault m os i o gs) e).0
  | inr rest ↦ features_none m os i o gs f (neither (feature_fault m os i o g) (features_fault m os i o gs) e).1 rest
]

record SlotFine (m : Metamodels) (os : List ObjectData) (i f : ℕ) (xs : List Datum) : Type 0 where
  bound : is_at_most (length xs) (shape_of m f).upper ≡ true
  unique : ((shape_of m f).unique && repeats_by same_item xs) ≡ false
  linked : lack_opposite (opposite m f) os i xs ≡ false

not_out : (b : Bool) → not b ≡ false → b ≡ true
not_out true e = refl
not_out false e = cc

slot_fine : (m : Metamodels) (os : List ObjectData) (i f : ℕ) (o : ObjectData) → feature_fault m os i o (record { 0 = f }) ≡ None → SlotFine m os i f (items_in f o.slots)
unfolding feature_fault
slot_fine m os i f o e =
    let xs : List Datum = items_in f o.slots in
    let a = neither (fault_if (not (is_within (shape_of m f) (length xs))) (Bounds o.id (feature_at m f).name)) (or_next (fault_if ((shape_of m f).unique && repeats_by same_item xs) (NotUnique o.id (feature_at m f).name)) (fault_if (lack_opposite (opposite m f) os i xs) (Opposite o.id (feature_at m f).name))) e in
    let b = neither (fault_if ((shape_of m f).unique && repeats_by same_item xs) (NotUnique o.id (feature_at m f).name)) (fault_if (lack_opposite (opposite m f) os i xs) (Opposite o.id (feature_at m f).name)) a.1 in
    record {
      bound = and_right _ _ (not_out (is_within (shape_of m f) (length xs)) (no_fault (not (is_within (shape_of m f) (length xs))) (Bounds o.id (feature_at m f).name) a.0));
      unique = no_fault ((shape_of m f).unique && repeats_by same_item xs) (NotUnique o.id (feature_at m f).name) b.0;
      linked = no_fault (lack_opposite (opposite m f) os i xs) (Opposite o.id (feature_at m f).name) b.1;
    }

record ObjectFine (m : Metamodels) (os : List ObjectData) (i : ℕ) (o : ObjectData) : Type 0 where
  concrete : (class_at m o.class.0).is_abstract ≡ false
  slots : (f : ℕ) → has_feature m o.class.0 f ≡ true → SlotFine m os i f (items_in f o.slots)
  alone : nat_lt 1 (how_often_in (contents m os) i) ≡ false
  outside : is_on_cycle (contents m os) i ≡ false

object_fine : (m : Metamodels) (os : List ObjectData) (i : ℕ) (o : ObjectData) → object_fault m os i o ≡ None → ObjectFine m os i o
unfolding object_fault containment_fault
object_fine m os i o e =
    let a = neither (fault_if (class_at m o.class.0).is_abstract (Abstract o.id)) (or_next (features_fault m os i o (features_of m o.class.0)) (containment_fault (contents m os) i o)) e in
    let b = neither (features_fault m os i o (features_of m o.class.0)) (containment_fault (contents m os) i o) a.1 in
    let d = neither (fault_if (nat_lt 1 (how_often_in (contents m os) i)) (TwoContainers o.id)) (fault_if (is_on_cycle (contents m os) i) (ContainmentCycle o.id)) b.1 in
    record {
      concrete = no_fault (class_at m o.class.0).is_abstract (Abstract o.id) a.0;
      slots = λ f h. slot_fine m os i f o (features_none m os i o (features_of m o.class.0) f b.0 h);
      alone = no_fault (nat_lt 1 (how_often_in (contents m os) i)) (TwoContainers o.id) d.0;
      outside = no_fault (is_on_cycle (contents m os) i) (ContainmentCycle o.id) d.1;
    }

-- ---- items as values

within_bound : (n : ℕ) (u : Option ℕ) → is_at_most n u ≡ true → exceeds_bound n u ≡ false
within_bound n None h = refl
within_bound n (Some most) h = le-ltb most n (leb-true n most h)

-- the item that a value stands for
item_of : Value → Datum
item_of (BoolValue b) = BoolDatum b
item_of (IntValue n) = Int n
item_of (StrValue t) = Str t
item_of (EnumValue l) = Literal l
item_of (Obj o) = Ref o.0
item_of v = BoolDatum false

item_back : (d : Datum) → item_of (value_at 0 d) ≡ d
unfolding item_of
item_back (BoolDatum b) = refl
item_back (Int n) = refl
item_back (Str t) = refl
item_back (Literal l) = refl
item_back (Ref i) = ap Ref (let q : 0 + i ≡ i = omega arith in q)

same_back : (a b : Datum) → is_same order_of (value_at 0 a) (value_at 0 b) ≡ true → same_item a b ≡ true
same_back a b h = subst (λ d. same_item a d ≡ true) (sym (item_back a) ∙ ap item_of (same_true (value_at 0 a) (value_at 0 b) h) ∙ item_back b) (same_itself a)

no_repeat : (xs : List Datum) → repeats_by same_item xs ≡ false → repeats (map (value_at 0) xs) ≡ false
no_repeat xs n = repeats-map (is_same order_of) (value_at 0) xs ∙ repeats-fewer (λ a b. is_same order_of (value_at 0 a) (value_at 0 b)) same_item same_back xs n

eq_turned : (i j : ℕ) → (i == j) ≡ (j == i)
eq_turned i j = elim (cases_eq i j) [ inl e ↦ eq-eqb i j e ∙ sym (eq-eqb j i (sym e)) | inr n ↦ ne_eqb i j n ∙ sym (ne_eqb j i (λ q. n (sym q))) ]

ref_item : (j : ℕ) (x : Datum) → is_object j (value_at 0 x) ≡ is_ref j x
ref_item j (BoolDatum a) = refl
ref_item j (Int a) = refl
ref_item j (Str a) = refl
ref_item j (Literal a) = refl
ref_item j (Ref i) = ap (λ k. k == j) (let q : 0 + i ≡ i = omega arith in q) ∙ eq_turned i j

has_ref : (xs : List Datum) (j : ℕ) → has (map (value_at 0) xs) j ≡ list_any (is_ref j) xs
has_ref [] j = refl
has_ref (x ∷ xs) j = ap (λ b. b || has (map (value_at 0) xs) j) (ref_item j x) ∙ ap (λ b. is_ref j x || b) (has_ref xs j)

-- an item that is an object holds this one for the opposite
none_lacks : (os : List ObjectData) (g i j : ℕ) (xs : List Datum) → list_any (lacks os g i) xs ≡ false → has (map (value_at 0) xs) j ≡ true → has (slots_at os j g) i ≡ true
none_lacks os g i j [] n h = clash false h refl
none_lacks os g i j (x ∷ xs) n h = elim (or_cases (is_object j (value_at 0 x)) (has (map (value_at 0) xs) j) h) [
  | inl here ↦ at x here (none_left (lacks os g i x) (list_any (lacks os g i) xs) n)
  | inr rest ↦ none_lacks os g i j xs (none_right (lacks os g i x) (list_any (lacks os g i) xs) n) rest
]
  where
    at : (x : Datum) → is_object j (value_at 0 x) ≡ true → lacks os g i x ≡ false → has (slots_at os j g) i ≡ true
    at (BoolDatum a) h n = clash false h refl
    at (Int a) h n = clash false h refl
    at (Str a) h n = clash false h refl
    at (Literal a) h n = clash false h refl
    at (Ref k) h n = has_ref (items_in g (object_data_at os j).slots) i
        ∙ not_out _ (subst (λ z. not (list_any (is_ref i) (items_in g (object_data_at os z).slots)) ≡ false) (let q : 0 + k ≡ j = (Decides-eqb (0 + k) j).0 h in let r : k ≡ j = omega arith in r) n)

linked_back : (m : Metamodels) (os : List ObjectData) (q : Option FeatureNo) (g i j : ℕ) (xs : List Datum) → is_feature_number q g ≡ true → lack_opposite q os i xs ≡ false → has (map (value_at 0) xs) j ≡ true → has (slots_at os j g) i ≡ true
linked_back m os None g i j xs o n h = clash false o refl
linked_back m os (Some q) g i j xs o n h = subst (λ z. has (slots_at os j z) i ≡ true) ((Decides-eqb q.0 g).0 o) (none_lacks os q.0 i j xs n h)

-- ---- the model

no_bound : (u : Option ℕ) → exceeds_bound 0 u ≡ false
no_bound None = refl
no_bound (Some n) = le-ltb n 0 (omega arith)

item_types : (m : Metamodels) (os : List ObjectData) (c f : ℕ) (ts : List SlotData) → AllByRecursion (IsSlot m os c) ts → AllByRecursion (IsItem m os (shape_of m f).kind) (items_in f ts)
item_types m os c f [] h = tt
item_types m os c f (t ∷ ts) h = go (t.feature.0 == f) refl (item_types m os c f ts h.1)
  where
    go : (b : Bool) → (t.feature.0 == f) ≡ b → AllByRecursion (IsItem m os (shape_of m f).kind) (items_in f ts) → AllByRecursion (IsItem m os (shape_of m f).kind) (cond b t.items (items_in f ts))
    go true e rest = let is : IsSlot m os c t = h.0 in subst (λ g. AllByRecursion (IsItem m os (shape_of m g).kind) t.items) ((Decides-eqb t.feature.0 f).0 e) is.items
    go false e rest = rest

module _ (m : Metamodels) (k : ℕ) (os : List ObjectData) (model : IsModel m k os) (none : faults_from m os 0 os ≡ None) where
  is : (i : ℕ) → i < length os → IsObjectIn m k os (object_data_at os i)
  is i l = all_at m k os os i model.objects l

  fine : (i : ℕ) → i < length os → ObjectFine m os i (object_data_at os i)
  fine i l = object_fine m os i (object_data_at os i) (ap (λ z. object_fault m os z (object_data_at os i)) (let q : i ≡ i + 0 = omega arith in q) ∙ objects_none m os 0 os none i l)

  -- a fact of each slot: of those that are there, and of no items
  each_slot : (P : ℕ → ℕ → List Datum → Type 0) → ((i f : ℕ) → P i f []) → ((i f : ℕ) (l : i < length os) → has_feature m (object_data_at os i).class.0 f ≡ true → P i f (items_in f (object_data_at os i).slots)) → (i f : ℕ) → P i f (items_in f (object_data_at os i).slots)
  each_slot P empty some i f = elim (cases_lt i (length os)) [
    | inl l ↦ elim (either (has_feature m (object_data_at os i).class.0 f)) [
      | inl h ↦ some i f l h
      | inr n ↦ let o : IsObjectIn m k os (object_data_at os i) = is i l in subst (P i f) (sym (not_own m os (object_data_at os i).class.0 f (object_data_at os i).slots o.slots n)) (empty i f)
    ]
    | inr l ↦ subst (P i f) (sym (ap (λ (o : ObjectData). items_in f o.slots) (past_end os i no_object l))) (empty i f)
  ]

  bounds : (i f : ℕ) → exceeds_bound (length (slots_at os i f)) (shape_of m f).upper ≡ false
  bounds = each_slot (λ i f xs. exceeds_bound (length (map (value_at 0) xs)) (shape_of m f).upper ≡ false) (λ i f. no_bound (shape_of m f).upper)
      (λ i f l h. let s : SlotFine m os i f (items_in f (object_data_at os i).slots) = (fine i l).slots f h in
      ap (λ n. exceeds_bound n (shape_of m f).upper) (length-map (value_at 0) (items_in f (object_data_at os i).slots)) ∙ within_bound (length (items_in f (object_data_at os i).slots)) (shape_of m f).upper s.bound)

  unique : (i f : ℕ) → (shape_of m f).unique ≡ true → repeats (slots_at os i f) ≡ false
  unique = each_slot (λ i f xs. (shape_of m f).unique ≡ true → repeats (map (value_at 0) xs) ≡ false) (λ i f u. refl)
      (λ i f l h u. let s : SlotFine m os i f (items_in f (object_data_at os i).slots) = (fine i l).slots f h in
      (no_repeat (items_in f (object_data_at os i).slots) (refuted _ (λ t. clash _ (and_both _ _ u t) s.unique))))

  linked : (g j i f : ℕ) → is_opposite m f g ≡ true → has (slots_at os i f) j ≡ true → has (slots_at os j g) i ≡ true
  linked g j = each_slot (λ i f xs. is_opposite m f g ≡ true → has (map (value_at 0) xs) j ≡ true → has (slots_at os j g) i ≡ true) (λ i f o h. clash false h refl)
      (λ i f l h o held. let s : SlotFine m os i f (items_in f (object_data_at os i).slots) = (fine i l).slots f h in
      linked_back m os (opposite m f) g i j (items_in f (object_data_at os i).slots) o s.linked held)

  below : (j i f : ℕ) → has (slots_at os i f) j ≡ true → j < length os
  below j = each_slot (λ i f xs. has (map (value_at 0) xs) j ≡ true → j < length os) (λ i f h. clash false h refl)
      (λ i f l h held. let o : IsObjectIn m k os (object_data_at os i) = is i l in
      ref_below m os (shape_of m f).kind j (items_in f (object_data_at os i).slots) (item_types m os (object_data_at os i).class.0 f (object_data_at os i).slots o.slots) held)

  lists_at : (i : ℕ) → slice_index_or (contents m os) i [] ≡ contents_of_object m (object_data_at os i)
  lists_at i = index-map (contents_of_object m) os i no_object

  few : (j : ℕ) → j < length os → how_often_in (contents m os) j ≤ 1
  few j l = ltb-false 1 (how_often_in (contents m os) j) (fine j l).alone

  member : (i f j : ℕ) → is_containment m f ≡ true → has (slots_at os i f) j ≡ true → among (slice_index_or (contents m os) i []) j ≡ true
  member i f j c h = ap (λ l. among l j) (lists_at i) ∙ in_slots m (object_data_at os i).slots f j c (held_among (items_in f (object_data_at os i).slots) j h)

  one : (i f i' f' j : ℕ) → is_containment m f ≡ true → is_containment m f' ≡ true → has (slots_at os i f) j ≡ true → has (slots_at os i' f') j ≡ true → (i ≡ i') × (f ≡ f')
  one i f i' f' j c c' h h' =
      let less : how_often_in (contents m os) j ≤ 1 = few j (below j i f h) in
      let same : i ≡ i' = once_in_lists (contents m os) i i' j less (member i f j c h) (member i' f' j c' h') in (
        same,
        elim (cases_eq f f') [
          | inl e ↦ e
          | inr n ↦
              let two : 2 ≤ how_often j (contents_of_slots m (object_data_at os i).slots) = two_slots m (object_data_at os i).slots f f' j c c' n (held_among (items_in f (object_data_at os i).slots) j h)
              (held_among (items_in f' (object_data_at os i).slots) j (subst (λ z. has (slots_at os z f') j ≡ true) (sym same) h')) in
              let most : how_often j (slice_index_or (contents m os) i []) ≤ 1 = at_most_here (contents m os) i j less in
              let here : how_often j (slice_index_or (contents m os) i []) ≡ how_often j (contents_of_slots m (object_data_at os i).slots) = ap (how_often j) (lists_at i) in
              absurd (omega (arith, two, most, here))
        ],
      )

  leading : {x y : ℕ} → Inside m (slots_at os) x y → Closure (λ a b. leads (contents m os) a b ≡ true) x y
  leading (directly {x} {y} c) = one_step (member x c.feature y c.containment c.held)
  leading (through {x} {y} {z} c p) = more_steps (member x c.feature y c.containment c.held) (leading p)

  starts : (x y : ℕ) → leads (contents m os) x y ≡ true → x < length (contents m os)
  starts x y h = elim (cases_lt x (length (contents m os))) [ inl l ↦ l | inr l ↦ clash false (ap (λ t. among t y) (sym (past_end (contents m os) x [] l)) ∙ h) refl ]

  first_held : {x y : ℕ} → Inside m (slots_at os) x y → x < length os
  first_held (directly {x} {y} c) = is_below x c.feature y c.held
    where
      is_below : (i f y : ℕ) → has (slots_at os i f) y ≡ true → i < length os
      is_below i f y h = elim (cases_lt i (length os)) [ inl l ↦ l | inr l ↦ clash false (ap (λ (o : ObjectData). has (map (value_at 0) (items_in f o.slots)) y) (sym (past_end os i no_object l)) ∙ h) refl ]
  first_held (through {x} {y} {z} c p) = is_below x c.feature y c.held
    where
      is_below : (i f y : ℕ) → has (slots_at os i f) y ≡ true → i < length os
      is_below i f y h = elim (cases_lt i (length os)) [ inl l ↦ l | inr l ↦ clash false (ap (λ (o : ObjectData). has (map (value_at 0) (items_in f o.slots)) y) (sym (past_end os i no_object l)) ∙ h) refl ]

  outside : (i : ℕ) → Inside m (slots_at os) i i → ⊥
  outside i p = clash _
      (closure-reaches (leads (contents m os)) (λ a b. leads (contents m os) a b ≡ true) (record { sound = λ x y h. h; complete = λ x y h. h }) (length (contents m os)) (record { starts = starts }) (leading p))
      (fine i (first_held p)).outside

  pub conforms : Conforms m os
  conforms = record {
    concrete = λ i l. (fine i l).concrete;
    bounds = bounds;
    unique = unique;
    opposites = record { agree = λ x f y g o h. linked g y x f o h };
    containers = record { one = one };
    outside_itself = outside;
  }

pub faultless_conforms : FaultlessConforms
unfolding conform_fault
faultless_conforms m k os model none = conforms m k os model none
