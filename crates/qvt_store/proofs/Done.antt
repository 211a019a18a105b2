-- A change that is carried out keeps the store whole and gives the store after the change.
use Rattle.std.proofs.Common.{◌≡◌, ℕ, zero, suc, ◌<◌, ◌≤◌, Bool, true, false, ◌||◌, ◌&&◌, ◌==◌, not, cond, ◌⊎◌, inl, inr, refl, sym, ap, ◌∙◌, subst, List, [], ◌∷◌, ◌++◌, map, length, get_or, arith}
use Rattle.std.specs.Prelude.{All, Option, Some, None}
use Rattle.std.specs.List.{list_all, flat_map}
use Rattle.std.proofs.lemmas.List.{same_lists, get_or_default}
use Rattle.std.proofs.lemmas.List.Elements.{All-head, All-tail}
use Rattle.std.proofs.lemmas.Bool.{cases_lt, ltb-true}
use Rattle.std.proofs.lemmas.Bool.Decides.{Decides-eqb}
use Rattle.qvt_base.specs.declared.numbers.FeatureNo.{FeatureNo}
use Rattle.qvt_base.specs.declared.numbers.Oid.{Oid}
use Rattle.qvt_value.specs.declared.value.Value.{Value}
use Rattle.qvt_metamodel.specs.Metamodels.{Metamodels, features_of, is_containment}
use Rattle.qvt_metamodel.specs.WellFormed.{IsWellFormed}
use Rattle.qvt_relation.proofs.Bools.{and_left, and_right, and_both, or_cases, or_left, or_right, not_true, not_of_false, either, clash, refuted}
use Rattle.qvt_slots.specs.declared.cell.Holder.{Holder}
use Rattle.qvt_slots.specs.declared.cell.Cell.{Cell}
use Rattle.qvt_slots.specs.declared.cell.Marks.{Marks}
use Rattle.qvt_slots.specs.declared.commit.Write.{Write}
use Rattle.qvt_slots.specs.declared.draft.Draft.{Draft}
use Rattle.qvt_slots.specs.declared.extent.Extent.{Extent}
use Rattle.qvt_slots.specs.Slots.{Slots, has, OneContainer, Inside}
use Rattle.qvt_slots.specs.Change.{Change, is_linked, among_objects, objects_beyond, is_here, is_added, slot_elsewhere, slot_after}
use Rattle.qvt_slots.specs.Contents.{Contents, Instance, HoldOwn, no_instance, is_live, is_model, extent_of, is_slot, list_of, slot_in, slot_of, with_slot}
use Rattle.qvt_slots.specs.Limits.{most_objects}
use Rattle.qvt_slots.specs.Types.{is_of_type}
use Rattle.qvt_slots.specs.Repeats.{repeats}
use Rattle.qvt_slots.specs.Assign.{change_to, instance_after, instances_after, store_after}
use Rattle.qvt_store_laws.specs.Law.{HasDifferences}
use Rattle.qvt_store.specs.Draft.{change_with, drafted, IsDraft}
use Rattle.qvt_slots.specs.Cells.{instances, instance_in, contents_of, holder_at, holder_in, AreWhole, IsStoreKept, SameObjects, IsPut, with_list}
use Rattle.qvt_slots.specs.Writes.{IsWrite, AllLive, written, or_else, held_by, last_holder, held_here, holder_after, IsSettled, released_by, released_here}
use Rattle.qvt_store.specs.Plan.{is_write_of, listed, IsRight, IsPlan}
use Rattle.qvt_slots.proofs.Cells.{length-instances, no_holder}
use Rattle.qvt_slots.proofs.Objects.{beyond-is}
use Rattle.qvt_store_laws.proofs.Held.{given, kept, gained, held_after, added_new, adds}
use Rattle.qvt_store_laws.proofs.Opposites.{here, here_again}
use Rattle.qvt_store_laws.proofs.Containers.{keeps_one_container}
use Rattle.qvt_slots.proofs.Typed.{all_kept}
use Rattle.qvt_store_laws.proofs.Attributes.{stays_live, listed_same}
use Rattle.qvt_store.specs.Ready.{Ready}
use Rattle.qvt_store_laws.proofs.After.{instance-after, length-after, no_slot_empty, empty_after, item_object}
use Rattle.qvt_store_laws.proofs.Told.{lists_told}
use Rattle.qvt_store_laws.proofs.SoundKept.{types_after, unique_after}
use Rattle.qvt_store_laws.proofs.Own.{own_after, in_model}

-- the writes leave the lists of the slots that they list, and the others as they are
right_written : (s : Contents) (c : Change) (ws : List Write) (t : Slots) → All (IsRight s c) ws → (x f : ℕ) → written ws t x f ≡ cond (listed ws x f) (slot_elsewhere c x f) (t x f)
right_written s c [] t right x f = refl
right_written s c (w ∷ ws) t right x f =
    right_written s c ws (with_list t w.object.0 w.feature.0 w.items) (All-tail (IsRight s c) w ws right) x f
    ∙ go (is_write_of x f w) refl (listed ws x f)
  where
    is : IsRight s c w
    is = All-head (IsRight s c) w ws right

    go : (b : Bool) → is_write_of x f w ≡ b → (l : Bool) → cond l (slot_elsewhere c x f) (cond b w.items (t x f)) ≡ cond (b || l) (slot_elsewhere c x f) (t x f)
    go true e true = refl
    go true e false = is.items
        ∙ ap (λ n. slot_elsewhere c n w.feature.0) (sym ((Decides-eqb x w.object.0).0 (and_left _ _ e)))
        ∙ ap (λ n. slot_elsewhere c x n) (sym ((Decides-eqb f w.feature.0).0 (and_right (x == w.object.0) _ e)))
    go false e true = refl
    go false e false = refl

listed_elsewhere : (s : Contents) (c : Change) (ws : List Write) (x f : ℕ) → All (IsRight s c) ws → listed ws x f ≡ true → is_here c x f ≡ false
listed_elsewhere s c [] x f right l = clash false l refl
listed_elsewhere s c (w ∷ ws) x f right l = elim (or_cases (is_write_of x f w) (listed ws x f) l) [
  | inl a ↦ let is : IsRight s c w = All-head (IsRight s c) w ws right in
      subst (λ n. is_here c x n ≡ false) (sym ((Decides-eqb f w.feature.0).0 (and_right (x == w.object.0) _ a))) (subst (λ n. is_here c n w.feature.0 ≡ false) (sym ((Decides-eqb x w.object.0).0 (and_left _ _ a))) is.elsewhere)
  | inr a ↦ listed_elsewhere s c ws x f (All-tail (IsRight s c) w ws right) a
]

among-both : (us vs : List Oid) (y : ℕ) → among_objects (us ++ vs) y ≡ true → (among_objects us y ≡ true) ⊎ (among_objects vs y ≡ true)
among-both [] vs y h = inr h
among-both (u ∷ us) vs y h = elim (or_cases (u.0 == y) (among_objects (us ++ vs) y) h) [
  | inl a ↦ inl (or_left _ _ a)
  | inr a ↦ elim (among-both us vs y a) [ inl b ↦ inl (or_right (u.0 == y) _ b) | inr b ↦ inr b ]
]

among-left : (us vs : List Oid) (y : ℕ) → among_objects us y ≡ true → among_objects (us ++ vs) y ≡ true
among-left [] vs y h = clash false h refl
among-left (u ∷ us) vs y h = elim (or_cases (u.0 == y) (among_objects us y) h) [ inl a ↦ or_left _ _ a | inr a ↦ or_right (u.0 == y) _ (among-left us vs y a) ]

among-right : (us vs : List Oid) (y : ℕ) → among_objects vs y ≡ true → among_objects (us ++ vs) y ≡ true
among-right [] vs y h = h
among-right (u ∷ us) vs y h = or_right (u.0 == y) _ (among-right us vs y h)

-- all objects of a list are beyond the empty one
among_all : (vs : List Value) (y : ℕ) → has vs y ≡ true → among_objects (objects_beyond [] vs) y ≡ true
among_all vs y h = beyond-is [] vs y ∙ and_both _ _ h refl

all_among : (vs : List Value) (y : ℕ) → among_objects (objects_beyond [] vs) y ≡ true → has vs y ≡ true
all_among vs y h = and_left _ _ (sym (beyond-is [] vs y) ∙ h)

released_all : (m : Metamodels) (s : Slots) (ws : List Write) (x f y : ℕ) → listed ws x f ≡ true → is_containment m f ≡ true → has (s x f) y ≡ true → among_objects (flat_map (released_by m s) ws) y ≡ true
released_all m s [] x f y l k h = clash false l refl
released_all m s (w ∷ ws) x f y l k h = elim (or_cases (is_write_of x f w) (listed ws x f) l) [
  | inl a ↦
      let x_is : x ≡ w.object.0 = (Decides-eqb x w.object.0).0 (and_left _ _ a) in
      let f_is : f ≡ w.feature.0 = (Decides-eqb f w.feature.0).0 (and_right (x == w.object.0) _ a) in
      let k' : is_containment m w.feature.0 ≡ true = subst (λ n. is_containment m n ≡ true) f_is k in
      let h' : has (s w.object.0 w.feature.0) y ≡ true = subst (λ n. has (s w.object.0 n) y ≡ true) f_is (subst (λ n. has (s n f) y ≡ true) x_is h) in
      among-left (released_by m s w) (flat_map (released_by m s) ws) y (ap (λ b. among_objects (cond b (objects_beyond [] (s w.object.0 w.feature.0)) []) y) k' ∙ among_all (s w.object.0 w.feature.0) y h')
  | inr a ↦ among-right (released_by m s w) (flat_map (released_by m s) ws) y (released_all m s ws x f y a k h)
]

record Source (m : Metamodels) (s : Slots) (ws : List Write) (y : ℕ) : Type 0 where
  object : ℕ
  feature : ℕ
  is_listed : listed ws object feature ≡ true
  cont : is_containment m feature ≡ true
  held : has (s object feature) y ≡ true

released_from : (m : Metamodels) (s : Slots) (ws : List Write) (y : ℕ) → among_objects (flat_map (released_by m s) ws) y ≡ true → Source m s ws y
released_from m s [] y h = clash false h refl
released_from m s (w ∷ ws) y h = elim (among-both (released_by m s w) (flat_map (released_by m s) ws) y h) [
  | inl a ↦ at (is_containment m w.feature.0) refl a
  | inr a ↦ let r : Source m s ws y = released_from m s ws y a in record { object = r.object; feature = r.feature; is_listed = or_right (is_write_of r.object r.feature w) _ r.is_listed; cont = r.cont; held = r.held }
]
  where
    at : (b : Bool) → is_containment m w.feature.0 ≡ b → among_objects (cond b (objects_beyond [] (s w.object.0 w.feature.0)) []) y ≡ true → Source m s (w ∷ ws) y
    at true e a = record { object = w.object.0; feature = w.feature.0; is_listed = or_left _ _ (and_both _ _ ((Decides-eqb w.object.0 w.object.0).1 refl) ((Decides-eqb w.feature.0 w.feature.0).1 refl)); cont = e; held = all_among (s w.object.0 w.feature.0) y a }
    at false e a = clash false a refl

held_all : (s : Contents) (c : Change) (m : Metamodels) (ws : List Write) (x f y : ℕ) → All (IsRight s c) ws → listed ws x f ≡ true → is_containment m f ≡ true → has (slot_elsewhere c x f) y ≡ true → last_holder m ws y ≡ None → ⊥
held_all s c m [] x f y right l k h e = clash false l refl
held_all s c m (w ∷ ws) x f y right l k h e = rest (last_holder m ws y) refl e (λ a eq. held_all s c m ws x f y (All-tail (IsRight s c) w ws right) a k h eq)
  where
    is : IsRight s c w
    is = All-head (IsRight s c) w ws right

    at : is_write_of x f w ≡ true → held_by m w y ≡ Some (holder_in w.object.0 w.feature.0)
    at a =
        let x_is : x ≡ w.object.0 = (Decides-eqb x w.object.0).0 (and_left _ _ a) in
        let f_is : f ≡ w.feature.0 = (Decides-eqb f w.feature.0).0 (and_right (x == w.object.0) _ a) in
        let k' : is_containment m w.feature.0 ≡ true = subst (λ n. is_containment m n ≡ true) f_is k in
        let h' : has w.items y ≡ true = ap (λ l'. has l' y) is.items ∙ subst (λ n. has (slot_elsewhere c w.object.0 n) y ≡ true) f_is (subst (λ n. has (slot_elsewhere c n f) y ≡ true) x_is h) in
        ap (λ b. cond b (Some (holder_in w.object.0 w.feature.0)) None) (and_both _ _ k' h')

    rest : (o : Option Holder) → last_holder m ws y ≡ o → or_else o (held_by m w y) ≡ None → (listed ws x f ≡ true → last_holder m ws y ≡ None → ⊥) → ⊥
    rest (Some g) eq n ih = cc
    rest None eq n ih = elim (or_cases (is_write_of x f w) (listed ws x f) l) [
      | inl a ↦ let t : held_by m w y ≡ Some (holder_in w.object.0 w.feature.0) = at a in cc
      | inr a ↦ ih a eq
    ]

record HeldBack (m : Metamodels) (after : Slots) (y : ℕ) (h : Holder) : Type 0 where
  cont : is_containment m h.feature.0 ≡ true
  held : has (after h.object.0 h.feature.0) y ≡ true

held_right : (s : Contents) (c : Change) (m : Metamodels) (ws : List Write) (y : ℕ) (h : Holder) → All (IsRight s c) ws → last_holder m ws y ≡ Some h → HeldBack m (slot_after c) y h
held_right s c m [] y h right e = cc
held_right s c m (w ∷ ws) y h right e = rest (last_holder m ws y) refl e (held_right s c m ws y h (All-tail (IsRight s c) w ws right))
  where
    is : IsRight s c w
    is = All-head (IsRight s c) w ws right

    after_is : slot_after c w.object.0 w.feature.0 ≡ w.items
    after_is = ap (λ b. cond b c.items (slot_elsewhere c w.object.0 w.feature.0)) is.elsewhere ∙ sym is.items

    by : (b : Bool) → (is_containment m w.feature.0 && has w.items y) ≡ b → cond b (Some (holder_in w.object.0 w.feature.0)) None ≡ Some h → HeldBack m (slot_after c) y h
    by true t n =
        let same : ◌≡◌ {A = Holder} (holder_in w.object.0 w.feature.0) h = cc in
        subst (HeldBack m (slot_after c) y) same (record { cont = and_left _ _ t; held = ap (λ l. has l y) after_is ∙ and_right (is_containment m w.feature.0) _ t })
    by false t n = cc

    rest : (o : Option Holder) → last_holder m ws y ≡ o → or_else o (held_by m w y) ≡ Some h → (last_holder m ws y ≡ Some h → HeldBack m (slot_after c) y h) → HeldBack m (slot_after c) y h
    rest (Some g) eq n ih = ih (eq ∙ n)
    rest None eq n ih = by (is_containment m w.feature.0 && has w.items y) refl n

same_instance : (a b : Instance) → a.class ≡ b.class → a.extent ≡ b.extent → a.slots ≡ b.slots → a ≡ b
same_instance a b p q r = λ i. record { class = p i; extent = q i; slots = r i }

-- cells that kept classes and extents and have the slots of the change are the objects after it
instances_told : (m : Metamodels) (well : IsWellFormed m) (c : Change) (metas : c.metas ≡ m) (old new : List Cell) → SameObjects m old new →
    ((x f : ℕ) → slot_in m (instances new) x f ≡ slot_after c x f) → instances new ≡ instances_after c 0 (instances old)
instances_told m well c metas old new same told = same_lists (instances new) (instances_after c 0 (instances old)) (length-instances new ∙ same.same_length ∙ sym (length-instances old) ∙ sym (length-after c 0 (instances old)))
    (λ k d b.
    let live : k < length old = subst (λ n. k < n) (length-instances new ∙ same.same_length) b in
    let live' : k < length (instances old) = subst (λ n. k < n) (sym (length-instances old)) live in
    get_or_default (instances new) k d no_instance b
    ∙ same_instance (instance_in new k) (instance_after c k (instance_in old k)) (same.classes k) (same.extents k) (slots_told k live)
    ∙ sym (instance-after c (instances old) 0 k k no_instance (omega arith) live')
    ∙ get_or_default (instances_after c 0 (instances old)) k no_instance d (subst (λ n. k < n) (sym (length-after c 0 (instances old))) live'))
  where
    slots_told : (k : ℕ) → k < length old → (instance_in new k).slots ≡ map (λ (g : FeatureNo). slot_after c k g.0) (features_of c.metas (instance_in old k).class)
    slots_told k live =
        lists_told m well (instance_in old k).class (instance_in new k).slots (slot_after c k)
        (same.have_slots.slots k (subst (λ n. k < n) (sym same.same_length) live) ∙ ap (λ n. length (features_of m n)) (same.classes k))
        (λ f is. ap (λ n. list_of (features_of m n) (instance_in new k).slots f) (sym (same.classes k)) ∙ told k f)
        ∙ ap (λ mm. map (λ (g : FeatureNo). slot_after c k g.0) (features_of mm (instance_in old k).class)) (sym metas)

-- a store without change
pub nothing_told : (m : Metamodels) (extents : List Extent) (cells : List Cell) → AreWhole m cells → (c : Change) → c.metas ≡ m →
    ((x f : ℕ) → slot_of (contents_of m extents cells) x f ≡ slot_after c x f) → store_after (contents_of m extents cells) c ≡ contents_of m extents cells
nothing_told m extents cells whole c metas told = ap (λ (l : List Instance). record { metas = m; extents = extents; objects = l })
    (sym (instances_told m whole.well_formed c metas cells cells (record { same_length = refl; classes = λ x. refl; extents = λ x. refl; have_slots = whole.have_slots }) told))

same_both : (m : Metamodels) (old mid new : List Cell) → SameObjects m old mid → SameObjects m mid new → SameObjects m old new
same_both m old mid new a b = record {
  same_length = b.same_length ∙ a.same_length;
  classes = λ x. b.classes x ∙ a.classes x;
  extents = λ x. b.extents x ∙ a.extents x;
  have_slots = b.have_slots;
}

pub same_change : (s : Contents) (d : Draft) (ws : List Value) → IsDraft s d ws → change_with s d ws ≡ change_to s d.object.0 d.feature.0 ws
same_change s d ws is = λ i. record { metas = s.metas; slots = slot_of s; object = d.object.0; feature = d.feature.0; items = ws; added = is.adds i; removed = is.removes i }

plan_with : (s : Contents) (d : Draft) (ws : List Value) (writes : List Write) → IsPlan s (drafted s d) writes → IsPlan s (change_with s d ws) writes
plan_with s d ws writes plan = record {
  right = λ k w h. let r : IsRight s (drafted s d) (get_or writes k w) = plan.right k w h in record { slot = r.slot; elsewhere = r.elsewhere; items = r.items };
  others = plan.others;
}

module _ (m : Metamodels) (extents : List Extent) (old : List Cell) (d : Draft) (items : List Value) (ws : List Write) (released : List Oid) (store : AreWhole m old)
    (ready : Ready (contents_of m extents old) d items ws released) where
  abbrev s : Contents
  s = contents_of m extents old

  abbrev o : ℕ
  o = d.object.0

  abbrev p : ℕ
  p = d.feature.0

  abbrev c : Change
  c = change_to s o p items

  made : HasDifferences c
  made = record { adds = refl; removes = refl }

  plan : IsPlan s c ws
  plan = subst (λ (k : Change). IsPlan s k ws) (same_change s d items ready.draft) (plan_with s d items ws ready.plan)

  one_old : OneContainer m (slot_of s)
  one_old = record {
    one = λ x f x' f' y k k' h h'.
        let e : ◌≡◌ {A = Option Holder} (Some (holder_in x f)) (Some (holder_in x' f')) = sym (store.holders.held x f y k h) ∙ store.holders.held x' f' y k' h' in
        let g : ◌≡◌ {A = Holder} (holder_in x f) (holder_in x' f') = cc in
        (ap (λ (h'' : Holder). h''.object.0) g, ap (λ (h'' : Holder). h''.feature.0) g);
  }

  one_after : OneContainer m (slot_after c)
  one_after = keeps_one_container c made store.well_formed ready.single one_old

  others : (x f : ℕ) → is_here c x f ≡ false → listed ws x f ≡ false → slot_after c x f ≡ slot_of s x f
  others x f away l = elim (either (is_slot s x f)) [
    | inl yes' ↦ ap (λ b. cond b items (slot_elsewhere c x f)) away ∙ plan.others x f yes' away l
    | inr no' ↦ empty_after s o p items store.well_formed ready.fit x f no' ∙ sym (no_slot_empty s x f no')
  ]

  here_after : (x f : ℕ) → is_here c x f ≡ true → slot_after c x f ≡ items
  here_after x f at = ap (λ b. cond b items (slot_elsewhere c x f)) at

  listed_after : (x f : ℕ) → listed ws x f ≡ true → slot_after c x f ≡ slot_elsewhere c x f
  listed_after x f l = ap (λ b. cond b items (slot_elsewhere c x f)) (listed_elsewhere s c ws x f plan.right l)

  all_written : (x f : ℕ) → written ws (with_list (slot_of s) o p items) x f ≡ slot_after c x f
  all_written x f = right_written s c ws (with_list (slot_of s) o p items) plan.right x f ∙ elim (either (listed ws x f)) [
    | inl l ↦ ap (λ b. cond b (slot_elsewhere c x f) (with_list (slot_of s) o p items x f)) l ∙ sym (listed_after x f l)
    | inr l ↦ ap (λ b. cond b (slot_elsewhere c x f) (with_list (slot_of s) o p items x f)) l ∙ elim (either (is_here c x f)) [
      | inl at ↦ ap (λ b. cond b items (slot_of s x f)) at ∙ sym (here_after x f at)
      | inr away ↦ ap (λ b. cond b items (slot_of s x f)) away ∙ sym (others x f away l)
    ]
  ]

  is_below : (y : ℕ) → is_live s y ≡ true → y < length old
  is_below y live = subst (λ k. y < k) (length-instances old) (ltb-true y (length (instances old)) live)

  held_live : (x f y : ℕ) → is_containment m f ≡ true → has (slot_of s x f) y ≡ true → y < length old
  held_live x f y k h = elim (cases_lt y (length old)) [
    | inl l ↦ l
    | inr l ↦ let e : ◌≡◌ {A = Option Holder} None (Some (holder_in x f)) = sym (no_holder old y l) ∙ store.holders.held x f y k h in cc
  ]

  item_live : (y : ℕ) → has items y ≡ true → y < length old
  item_live y h = is_below y (and_left _ _ (item_object s p items y ready.fit.types h))

  after_live : (x f y : ℕ) → is_containment m f ≡ true → has (slot_after c x f) y ≡ true → y < length old
  after_live x f y k h = elim (held_after c x f y h) [
    | given at new ↦ item_live y new
    | kept n was stays ↦ held_live x f y k was
    | gained n g at ↦ subst (λ i. i < length old) at (is_below o (and_left _ _ ready.fit.slot))
  ]

  -- added and removed, as the draft has them
  draft_added : (y : ℕ) → among_objects d.added y ≡ is_added c y
  draft_added y = ap (λ l. among_objects l y) ready.draft.adds

  released_is : (y : ℕ) → among_objects released y ≡ true → (among_objects (released_here m d) y ≡ true) ⊎ Source m (slot_of s) ws y
  released_is y h = elim (among-both (released_here m d) (flat_map (released_by m (slot_of s)) ws) y (ap (λ l. among_objects l y) (sym ready.is_released) ∙ h)) [
    | inl a ↦ inl a
    | inr a ↦ inr (released_from m (slot_of s) ws y a)
  ]

  -- what the changed slot, a containment, loses
  record Removed (y : ℕ) : Type 0 where
    cont : is_containment m p ≡ true
    was : has (slot_of s o p) y ≡ true
    gone : has items y ≡ false

  removed_is : (y : ℕ) → among_objects (released_here m d) y ≡ true → Removed y
  removed_is y = go (is_containment m p) refl
    where
      go : (b : Bool) → is_containment m p ≡ b → among_objects (cond b d.removed []) y ≡ true → Removed y
      go false e h = clash false h refl
      go true e h =
          let k : (has (slot_of s o p) y && not (has items y)) ≡ true = sym (ap (λ l. among_objects l y) ready.draft.removes ∙ beyond-is items (slot_of s o p) y) ∙ h in
          record { cont = e; was = and_left _ _ k; gone = not_true _ (and_right (has (slot_of s o p) y) _ k) }

  pub released_live : AllLive old (among_objects released)
  released_live = record {
    live = λ y h. elim (released_is y h) [
      | inl a ↦ let r : Removed y = removed_is y a in held_live o p y r.cont r.was
      | inr r ↦ held_live r.object r.feature y r.cont r.held
    ];
  }

  pub added_live : AllLive old (among_objects d.added)
  added_live = record { live = λ y h. item_live y (added_new c made y (sym (draft_added y) ∙ h)) }

  pub writes_live : (k : ℕ) (w : Write) → k < length ws → IsWrite m old (get_or ws k w)
  writes_live k w h = record { live = is_below (get_or ws k w).object.0 (and_left _ _ is.slot); there = and_right (is_live s (get_or ws k w).object.0) _ is.slot }
    where
      is : IsRight s c (get_or ws k w)
      is = plan.right k w h

  pub items_live : (k : ℕ) (w : Write) → k < length ws → is_containment m (get_or ws k w).feature.0 ≡ true → AllLive old (has (get_or ws k w).items)
  items_live k w h cont = record {
    live = λ y i. after_live (get_or ws k w).object.0 (get_or ws k w).feature.0 y cont
        (ap (λ b. has (cond b items (slot_elsewhere c (get_or ws k w).object.0 (get_or ws k w).feature.0)) y) is.elsewhere ∙ ap (λ l. has l y) (sym is.items) ∙ i);
  }
    where
      is : IsRight s c (get_or ws k w)
      is = plan.right k w h

  abbrev held_now : ℕ → Option Holder
  held_now y = or_else (last_holder m ws y) (held_here m d y)

  assoc : (a b e : Option Holder) → or_else a (or_else b e) ≡ or_else (or_else a b) e
  assoc None b e = refl
  assoc (Some h) b e = refl

  here_is : is_here c o p ≡ true
  here_is = here_again c

  -- a holder that is given is right
  given_right : (y : ℕ) (h : Holder) → held_now y ≡ Some h → HeldBack m (slot_after c) y h
  given_right y h = go (last_holder m ws y) refl
    where
      by : (b : Bool) → (is_containment m p && among_objects d.added y) ≡ b → cond b (Some (holder_in o p)) None ≡ Some h → HeldBack m (slot_after c) y h
      by true t n =
          let same : ◌≡◌ {A = Holder} (holder_in o p) h = cc in
          subst (HeldBack m (slot_after c) y) same (record {
            cont = and_left _ _ t;
            held = ap (λ l. has l y) (here_after o p here_is) ∙ added_new c made y (sym (draft_added y) ∙ and_right (is_containment m p) _ t);
          })
      by false t n = cc

      go : (r : Option Holder) → last_holder m ws y ≡ r → or_else r (held_here m d y) ≡ Some h → HeldBack m (slot_after c) y h
      go (Some g) e n = held_right s c m ws y h plan.right (e ∙ n)
      go None e n = by (is_containment m p && among_objects d.added y) refl n

  -- an object of a written containment slot is given a holder
  listed_given : (x f y : ℕ) → listed ws x f ≡ true → is_containment m f ≡ true → has (slot_after c x f) y ≡ true → held_now y ≡ None → ⊥
  listed_given x f y l k h = go (last_holder m ws y) refl
    where
      go : (r : Option Holder) → last_holder m ws y ≡ r → or_else r (held_here m d y) ≡ None → ⊥
      go (Some g) e n = cc
      go None e n = held_all s c m ws x f y plan.right l k (ap (λ t. has t y) (sym (listed_after x f l)) ∙ h) e

  -- an object of the changed slot is given a holder, or keeps its own
  here_given : (y : ℕ) → is_containment m p ≡ true → has items y ≡ true → held_now y ≡ None → (has (slot_of s o p) y ≡ true) × (among_objects released y ≡ false)
  here_given y k h none = elim (either (has (slot_of s o p) y)) [
    | inl was ↦ (
      was,
      refuted _ (λ r. elim (released_is y r) [
        | inl a ↦ clash _ h (removed_is y a).gone
        | inr t ↦
            let same : (t.object ≡ o) × (t.feature ≡ p) = one_old.one t.object t.feature o p y t.cont k t.held was in
            clash (is_here c o p) here_is (subst (λ n. is_here c o n ≡ false) same.1 (subst (λ n. is_here c n t.feature ≡ false) same.0 (listed_elsewhere s c ws t.object t.feature plan.right t.is_listed)))
      ]),
    )
    | inr free ↦ absurd (go (last_holder m ws y) none (and_both _ _ k (draft_added y ∙ adds c made y h free)))
  ]
    where
      go : (r : Option Holder) → or_else r (held_here m d y) ≡ None → (is_containment m p && among_objects d.added y) ≡ true → ⊥
      go (Some g) n t = cc
      go None n t = let q : held_here m d y ≡ Some (holder_in o p) = ap (λ b. cond b (Some (holder_in o p)) None) t in cc

  module _ (mid new : List Cell) (put : IsPut m old mid o p items) (done : IsSettled m d mid new ws released) where
    same : SameObjects m old new
    same = same_both m old mid new put.objects done.objects

    written_same : (ws : List Write) (t u : Slots) → ((x f : ℕ) → t x f ≡ u x f) → (x f : ℕ) → written ws t x f ≡ written ws u x f
    written_same [] t u e x f = e x f
    written_same (w ∷ ws) t u e x f = written_same ws (with_list t w.object.0 w.feature.0 w.items) (with_list u w.object.0 w.feature.0 w.items) (λ x f. ap (λ l. cond ((x == w.object.0) && (f == w.feature.0)) w.items l) (e x f)) x f

    slots_are : (x f : ℕ) → slot_in m (instances new) x f ≡ slot_after c x f
    slots_are x f = done.slots x f ∙ written_same ws (slot_in m (instances mid)) (with_list (slot_of s) o p items) put.slots x f ∙ all_written x f

    new_holder : (y : ℕ) → holder_at new y ≡ or_else (held_now y) (cond (among_objects released y) None (holder_at old y))
    new_holder y = done.holders y ∙ ap (λ h. holder_after m d ws released y h) (put.holders y) ∙ assoc (last_holder m ws y) (held_here m d y) (cond (among_objects released y) None (holder_at old y))

    find : (x f y : ℕ) → is_containment m f ≡ true → has (slot_after c x f) y ≡ true → (g : Option Holder) → held_now y ≡ g → or_else g (cond (among_objects released y) None (holder_at old y)) ≡ Some (holder_in x f)
    find x f y k h (Some g) e =
        let right : HeldBack m (slot_after c) y g = given_right y g e in
        let at : (g.object.0 ≡ x) × (g.feature.0 ≡ f) = one_after.one g.object.0 g.feature.0 x f y right.cont k right.held h in
        λ i. Some (holder_in (at.0 i) (at.1 i))
    find x f y k h None e = elim (either (listed ws x f)) [
      | inl yes' ↦ absurd (listed_given x f y yes' k h e)
      | inr no' ↦ elim (either (is_here c x f)) [
        | inl at ↦
            let x_is : x ≡ o = (here c x f at).0 in
            let f_is : f ≡ p = (here c x f at).1 in
            let r : (has (slot_of s o p) y ≡ true) × (among_objects released y ≡ false) = here_given y (subst (λ n. is_containment m n ≡ true) f_is k) (ap (λ l. has l y) (sym (here_after x f at)) ∙ h) e in
            ap (λ b. cond b None (holder_at old y)) r.1 ∙ store.holders.held x f y k (subst (λ n. has (slot_of s n f) y ≡ true) (sym x_is) (subst (λ n. has (slot_of s o n) y ≡ true) (sym f_is) r.0))
        | inr away ↦
            let was : has (slot_of s x f) y ≡ true = subst (λ l. has l y ≡ true) (others x f away no') h in
            let free : among_objects released y ≡ false = refuted _ (λ r. elim (released_is y r) [
              | inl a ↦
                  let g : Removed y = removed_is y a in
                  let at : (o ≡ x) × (p ≡ f) = one_old.one o p x f y g.cont k g.was was in
                  clash (is_here c x f) (and_both _ _ ((Decides-eqb x o).1 (sym at.0)) ((Decides-eqb f p).1 (sym at.1))) away
              | inr t ↦
                  let at : (t.object ≡ x) × (t.feature ≡ f) = one_old.one t.object t.feature x f y t.cont k t.held was in
                  clash (listed ws x f) (subst (λ n. listed ws x n ≡ true) at.1 (subst (λ n. listed ws n t.feature ≡ true) at.0 t.is_listed)) no'
            ]) in
            ap (λ b. cond b None (holder_at old y)) free ∙ store.holders.held x f y k was
      ]
    ]

    back : (h : Holder) (y : ℕ) (g : Option Holder) → held_now y ≡ g → (b : Bool) → among_objects released y ≡ b → or_else g (cond b None (holder_at old y)) ≡ Some h → HeldBack m (slot_after c) y h
    back h y (Some g) e b r is = given_right y h (e ∙ is)
    back h y None e true r is = cc
    back h y None e false r is =
        let was : (is_containment m h.feature.0 ≡ true) × (has (slot_of s h.object.0 h.feature.0) y ≡ true) = store.holders.contains h y is in
        record {
          cont = was.0;
          held = elim (either (listed ws h.object.0 h.feature.0)) [
            | inl yes' ↦ clash _ (ap (λ l. among_objects l y) ready.is_released ∙ among-right (released_here m d) (flat_map (released_by m (slot_of s)) ws) y (released_all m (slot_of s) ws h.object.0 h.feature.0 y yes' was.0 was.1)) r
            | inr no' ↦ elim (either (is_here c h.object.0 h.feature.0)) [
              | inl at ↦
                  let x_is : h.object.0 ≡ o = (here c h.object.0 h.feature.0 at).0 in
                  let f_is : h.feature.0 ≡ p = (here c h.object.0 h.feature.0 at).1 in
                  let was' : has (slot_of s o p) y ≡ true = subst (λ n. has (slot_of s o n) y ≡ true) f_is (subst (λ n. has (slot_of s n h.feature.0) y ≡ true) x_is was.1) in
                  ap (λ l. has l y) (here_after h.object.0 h.feature.0 at) ∙ elim (either (has items y)) [
                    | inl stays ↦ stays
                    | inr gone ↦ clash _ (ap (λ l. among_objects l y) ready.is_released ∙ among-left (released_here m d) (flat_map (released_by m (slot_of s)) ws) y
                        (ap (λ b. among_objects (cond b d.removed []) y) (subst (λ n. is_containment m n ≡ true) f_is was.0)
                        ∙ ap (λ l. among_objects l y) ready.draft.removes ∙ beyond-is items (slot_of s o p) y ∙ and_both _ _ was' (not_of_false _ gone))) r
                  ]
              | inr away ↦ subst (λ l. has l y ≡ true) (sym (others h.object.0 h.feature.0 away no')) was.1
            ]
          ];
        }

    whole_after : AreWhole m new
    whole_after = record {
      well_formed = store.well_formed;
      few = subst (λ n. n ≤ most_objects) (sym same.same_length) store.few;
      have_slots = same.have_slots;
      holders = record {
        held = λ x f y k h. new_holder y ∙ find x f y k (subst (λ l. has l y ≡ true) (slots_are x f) h) (held_now y) refl;
        contains = λ h y e.
            let r : HeldBack m (slot_after c) y h = back h y (held_now y) refl (among_objects released y) refl (sym (new_holder y) ∙ e) in
            (r.cont, subst (λ l. has l y ≡ true) (sym (slots_are h.object.0 h.feature.0)) r.held);
      };
      acyclic = λ x i. ready.acyclic (record { object = x; inside = subst (λ (t : Slots). Inside m t x x) (λ j y f. slots_are y f j) i });
    }

    own_new : HoldOwn s → (is_model s (extent_of s o) || not (is_linked m p)) ≡ true → HoldOwn (contents_of m extents new)
    own_new before inside = record {
      own = λ x f y model h.
          same.extents y
          ∙ own_after s o p items before ready.own (in_model s o p items inside) x f y (subst (λ n. is_model s n ≡ true) (same.extents x) model) (subst (λ l. has l y ≡ true) (slots_are x f) h)
          ∙ sym (same.extents x);
    }

    pub kept_whole : (members : List (List Oid)) (marks marks' : Marks) → IsStoreKept m extents old members marks → marks'.distinct ≡ marks.distinct →
        (marks'.own ≡ true → (marks.own ≡ true) × ((is_model s (extent_of s o) || not (is_linked m p)) ≡ true)) → IsStoreKept m extents new members marks'
    kept_whole members marks marks' kept' same_mark only = record {
      whole = whole_after;
      typed = record {
        types = λ x f. subst (λ (l : List Value). list_all (is_of_type (contents_of m extents new) f) l ≡ true) (sym (slots_are x f))
            (all_kept s (contents_of m extents new) refl (stays_live m extents old new same) f (slot_after c x f) (types_after s o p items store.well_formed ready.fit kept'.typed x f));
      };
      named = kept'.named;
      listed = listed_same m extents old new members same kept'.listed;
      unique = λ t. record { unique = λ x f u. ap repeats (slots_are x f) ∙ unique_after s o p items ready.unique (kept'.unique (sym same_mark ∙ t)) x f u };
      own = λ t. let r : (marks.own ≡ true) × ((is_model s (extent_of s o) || not (is_linked m p)) ≡ true) = only t in own_new (kept'.own r.0) r.1;
    }

    pub gives_store : contents_of m extents new ≡ store_after s c
    gives_store = ap (λ (l : List Instance). record { metas = m; extents = extents; objects = l }) (instances_told m store.well_formed c refl old new same slots_are)

    -- where the other slots stay, only the changed one is set
    pub gives_slot : ((x f : ℕ) → slot_after c x f ≡ with_list (slot_of s) o p items x f) → contents_of m extents new ≡ with_slot s o p items
    gives_slot plain = ap (λ (l : List Instance). record { metas = m; extents = extents; objects = l })
        (instances_told m store.well_formed c refl old new same slots_are
        ∙ sym (instances_told m store.well_formed c refl old mid put.objects (λ x f. put.slots x f ∙ sym (plain x f)))
        ∙ put.whole)
