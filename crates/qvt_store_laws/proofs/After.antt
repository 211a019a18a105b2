-- The slots of the store after a change are those that the change says.
use Rattle.std.proofs.Common.{◌≡◌, ℕ, zero, suc, ◌+◌, ◌<◌, ◌≤◌, Bool, true, false, ◌||◌, ◌&&◌, ◌==◌, not, cond, ◌⊎◌, inl, inr, refl, sym, ap, ◌∙◌, subst, List, [], ◌∷◌, map, length, arith}
use Rattle.std.specs.Prelude.{Option, Some, None, filter, slice_index_or, nat_lt}
use Rattle.std.specs.List.{list_all}
use Rattle.std.proofs.lemmas.Bool.{ltb-true, ltb-false}
use Rattle.std.proofs.lemmas.Bool.Decides.{Decides-eqb}
use Rattle.qvt_base.specs.declared.numbers.FeatureNo.{FeatureNo}
use Rattle.qvt_value.specs.declared.value.Value.{Value}
use Rattle.qvt_metamodel.specs.declared.info.TypeKind.{TypeKind}
use Rattle.qvt_metamodel.specs.declared.info.TypeKind.TheVariants.{Bool as BoolKind, Int as IntKind, Str as StrKind, Enum as EnumKind, Class as ClassKind}
use Rattle.qvt_metamodel.specs.Metamodels.{Metamodels, is_opposite, features_of, has_feature, among_features, shape_of}
use Rattle.qvt_metamodel.specs.Descends.{descends, is_class_kind}
use Rattle.qvt_metamodel.specs.WellFormed.{IsWellFormed}
use Rattle.qvt_relation.proofs.Bools.{and_left, and_right, and_both, either, clash, refuted}
use Rattle.qvt_slots.specs.Slots.{has, object_in, passes}
use Rattle.qvt_slots.specs.Change.{Change, object_value, is_here, is_added, gains, keeps, with_end, slot_after}
use Rattle.qvt_slots.specs.Contents.{Contents, Instance, no_instance, object_at, class_of, extent_of, is_live, is_slot, list_of, slot_of}
use Rattle.qvt_slots.specs.Types.{is_of_kind, is_of_type, IsAssignable}
use Rattle.qvt_value.specs.Kept.{is_same, firsts}
use Rattle.qvt_value.specs.Order.{order_of}
use Rattle.qvt_slots.specs.Repeats.{new_list}
use Rattle.qvt_slots.specs.Assign.{instance_after, instances_after, store_after, change_to}
use Rattle.qvt_store_laws.specs.Law.{HasDifferences}
use Rattle.qvt_store_laws.specs.Law.{IsFit}
use Rattle.qvt_slots.proofs.Lists.{past_end, length-map}
use Rattle.qvt_slots.proofs.Places.{list_of-absent, list_of-nil}
use Rattle.qvt_slots.proofs.Objects.{in_list}
use Rattle.qvt_slots.proofs.Typed.{no_object}
use Rattle.qvt_store_laws.proofs.Held.{added_new}
use Rattle.qvt_store_laws.proofs.Opposites.{here}

pub length-after : (c : Change) (k : ℕ) (objects : List Instance) → length (instances_after c k objects) ≡ length objects
length-after c k [] = refl
length-after c k (object ∷ objects) = ap suc (length-after c (suc k) objects)

pub instance-after : (c : Change) (objects : List Instance) (k x n : ℕ) (d : Instance) → k + x ≡ n → x < length objects →
    slice_index_or (instances_after c k objects) x d ≡ instance_after c n (slice_index_or objects x d)
instance-after c [] k x n d e h = absurd (omega arith)
instance-after c (object ∷ objects) k zero n d e h = let same : k ≡ n = omega arith in ap (λ i. instance_after c i object) same
instance-after c (object ∷ objects) k (suc x) n d e h = instance-after c objects (suc k) x n d (omega arith) (omega arith)

pub list_of-map : (gs : List FeatureNo) (h : ℕ → List Value) (f : ℕ) → list_of gs (map (λ g. h g.0) gs) f ≡ cond (among_features f gs) (h f) []
list_of-map [] h f = refl
list_of-map (g ∷ gs) h f = go (g.0 == f) refl (list_of-map gs h f)
  where
    go : (b : Bool) → (g.0 == f) ≡ b → list_of gs (map (λ g. h g.0) gs) f ≡ cond (among_features f gs) (h f) [] →
        cond b (h g.0) (list_of gs (map (λ g. h g.0) gs) f) ≡ cond (b || among_features f gs) (h f) []
    go true e ih = ap h ((Decides-eqb g.0 f).0 e)
    go false e ih = ih

pub all-filter : (test keep : Value → Bool) (vs : List Value) → list_all test vs ≡ true → list_all test (filter keep vs) ≡ true
all-filter test keep [] all = refl
all-filter test keep (v ∷ vs) all = go (keep v) (all-filter test keep vs (and_right (test v) _ all))
  where
    go : (b : Bool) → list_all test (filter keep vs) ≡ true → list_all test (cond b (v ∷ filter keep vs) (filter keep vs)) ≡ true
    go true ih = and_both _ _ (and_left _ _ all) ih
    go false ih = ih

all-without : (test : Value → Bool) (vs : List Value) → list_all test vs ≡ true → list_all test (firsts order_of vs) ≡ true
all-without test [] all = refl
all-without test (v ∷ vs) all = and_both _ _ (and_left _ _ all) (all-filter test (λ w. not (is_same order_of v w)) (firsts order_of vs) (all-without test vs (and_right (test v) _ all)))

pub all-new_list : (m : Metamodels) (p : ℕ) (test : Value → Bool) (vs : List Value) → list_all test vs ≡ true → list_all test (new_list m p vs) ≡ true
all-new_list m p test vs all = go (shape_of m p).unique
  where
    go : (b : Bool) → list_all test (cond b (firsts order_of vs) vs) ≡ true
    go true = all-without test vs all
    go false = all

-- an object of a type is there, and its class conforms to the type
pub object_of_kind : (s : Contents) (k : TypeKind) (v : Value) (y : ℕ) → is_of_kind s k v ≡ true → object_in v ≡ Some y → (is_live s y && is_class_kind s.metas (class_of s y) k) ≡ true
object_of_kind s (ClassKind c) v y h e = sym (ap (passes (λ y. is_live s y && descends s.metas (class_of s y) c.0)) e) ∙ h
object_of_kind s BoolKind v y h e = let n : ◌≡◌ {A = Option ℕ} None (Some y) = sym (no_object s BoolKind v refl h) ∙ e in cc
object_of_kind s IntKind v y h e = let n : ◌≡◌ {A = Option ℕ} None (Some y) = sym (no_object s IntKind v refl h) ∙ e in cc
object_of_kind s StrKind v y h e = let n : ◌≡◌ {A = Option ℕ} None (Some y) = sym (no_object s StrKind v refl h) ∙ e in cc
object_of_kind s (EnumKind k i) v y h e = let n : ◌≡◌ {A = Option ℕ} None (Some y) = sym (no_object s (EnumKind k i) v refl h) ∙ e in cc

pub kind_of_object : (s : Contents) (k : TypeKind) (x : ℕ) → is_live s x ≡ true → is_class_kind s.metas (class_of s x) k ≡ true → is_of_kind s k (object_value x) ≡ true
kind_of_object s BoolKind x live t = t
kind_of_object s IntKind x live t = t
kind_of_object s StrKind x live t = t
kind_of_object s (EnumKind k i) x live t = t
kind_of_object s (ClassKind c) x live t = and_both _ _ live t

-- the objects of a list of a type
pub item_object : (s : Contents) (f : ℕ) (vs : List Value) (y : ℕ) → list_all (is_of_type s f) vs ≡ true → has vs y ≡ true → (is_live s y && is_class_kind s.metas (class_of s y) (shape_of s.metas f).kind) ≡ true
item_object s f vs y all h = in_list (is_of_type s f) (λ x. is_live s x && is_class_kind s.metas (class_of s x) (shape_of s.metas f).kind)
    (λ v x t e. object_of_kind s (shape_of s.metas f).kind v x t e) vs y all h

pub dead_empty : (s : Contents) (x f : ℕ) → is_live s x ≡ false → slot_of s x f ≡ []
dead_empty s x f dead =
    ap (λ (ob : Instance). list_of (features_of s.metas ob.class) ob.slots f) (past_end s.objects x no_instance (ltb-false x (length s.objects) dead))
    ∙ list_of-nil (features_of s.metas 0) f

pub no_slot_empty : (s : Contents) (x f : ℕ) → is_slot s x f ≡ false → slot_of s x f ≡ []
no_slot_empty s x f n = elim (either (is_live s x)) [
  | inl live ↦ elim (either (has_feature s.metas (class_of s x) f)) [
    | inl has' ↦ clash _ (and_both _ _ live has') n
    | inr no' ↦ list_of-absent (features_of s.metas (class_of s x)) (object_at s x).slots f no'
  ]
  | inr dead ↦ dead_empty s x f dead
]

pub features_always : (s : Contents) (x f : ℕ) → (is_slot s x f ≡ true) ⊎ (slot_of s x f ≡ [])
features_always s x f = elim (either (is_slot s x f)) [ inl yes' ↦ inl yes' | inr no' ↦ inr (no_slot_empty s x f no') ]

pub holder_slot : (s : Contents) (x f y : ℕ) → has (slot_of s x f) y ≡ true → is_slot s x f ≡ true
holder_slot s x f y h = elim (either (is_slot s x f)) [
  | inl yes' ↦ yes'
  | inr no' ↦ clash false (sym (ap (λ l. has l y) (no_slot_empty s x f no')) ∙ h) refl
]

pub fit_of : (s : Contents) (o p : ℕ) (vs : List Value) → IsAssignable s o p vs → IsFit s o p (new_list s.metas p vs)
fit_of s o p vs can = record { slot = and_both _ _ can.live can.feature; types = all-new_list s.metas p (is_of_type s p) vs can.types }

module _ (s : Contents) (o p : ℕ) (ws : List Value) (well : IsWellFormed s.metas) (fit : IsFit s o p ws) where
  abbrev c : Change
  c = change_to s o p ws

  made : HasDifferences c
  made = record { adds = refl; removes = refl }

  pub added_object : (x : ℕ) → is_added c x ≡ true → (is_live s x && is_class_kind s.metas (class_of s x) (shape_of s.metas p).kind) ≡ true
  added_object x h = item_object s p ws x fit.types (added_new c made x h)

  pub gains_slot : (x f : ℕ) → gains c x f ≡ true → is_slot s x f ≡ true
  gains_slot x f g =
      let opp : is_opposite s.metas p f ≡ true = and_left _ _ g in
      let typed : (is_live s x && is_class_kind s.metas (class_of s x) (shape_of s.metas p).kind) ≡ true = added_object x (and_right (is_opposite s.metas p f) _ g) in
      and_both _ _ (and_left _ _ typed) (well.type_has_opposite p f (class_of s x) opp (and_right (is_live s x) _ typed))

  pub empty_after : (x f : ℕ) → is_slot s x f ≡ false → slot_after c x f ≡ []
  empty_after x f n = go (is_here c x f) refl (gains c x f) refl
    where
      kept_none : filter (keeps c x f) (c.slots x f) ≡ []
      kept_none = ap (filter (keeps c x f)) (no_slot_empty s x f n)

      go : (b : Bool) → is_here c x f ≡ b → (g : Bool) → gains c x f ≡ g → cond b c.items (cond g (with_end c f (filter (keeps c x f) (c.slots x f))) (filter (keeps c x f) (c.slots x f))) ≡ []
      go true e g k = clash (is_slot s x f) (subst (λ i. is_slot s i f ≡ true) (sym (here c x f e).0) (subst (λ i. is_slot s o i ≡ true) (sym (here c x f e).1) fit.slot)) n
      go false e true k = clash (is_slot s x f) (gains_slot x f k) n
      go false e false k = kept_none

  pub same_instance : (x : ℕ) → is_live s x ≡ true → object_at (store_after s c) x ≡ instance_after c x (object_at s x)
  same_instance x live = instance-after c s.objects 0 x x no_instance (omega arith) (ltb-true x (length s.objects) live)

  pub slot-after : (x f : ℕ) → slot_of (store_after s c) x f ≡ slot_after c x f
  slot-after x f = elim (either (is_live s x)) [
    | inl live ↦
        ap (λ (ob : Instance). list_of (features_of s.metas ob.class) ob.slots f) (same_instance x live)
        ∙ list_of-map (features_of s.metas (class_of s x)) (slot_after c x) f
        ∙ elim (either (has_feature s.metas (class_of s x) f)) [
          | inl has' ↦ ap (λ b. cond b (slot_after c x f) []) has'
          | inr no' ↦ ap (λ b. cond b (slot_after c x f) []) no'
              ∙ sym (empty_after x f (refuted _ (λ slot. clash _ (and_right (is_live s x) _ slot) no')))
        ]
    | inr dead ↦
        ap (λ (ob : Instance). list_of (features_of s.metas ob.class) ob.slots f)
        (past_end (instances_after c 0 s.objects) x no_instance (subst (λ n. n ≤ x) (sym (length-after c 0 s.objects)) (ltb-false x (length s.objects) dead)))
        ∙ list_of-nil (features_of s.metas 0) f
        ∙ sym (empty_after x f (refuted _ (λ slot. clash _ (and_left _ _ slot) dead)))
  ]

  pub slots-after : slot_of (store_after s c) ≡ slot_after c
  slots-after = λ i x f. slot-after x f i

  pub live-after : (x : ℕ) → is_live (store_after s c) x ≡ is_live s x
  live-after x = ap (λ n. nat_lt x n) (length-after c 0 s.objects)

  kept_field : {A : Type 0} (field : Instance → A) → ((x : ℕ) (ob : Instance) → field (instance_after c x ob) ≡ field ob) → (x : ℕ) → field (object_at (store_after s c) x) ≡ field (object_at s x)
  kept_field field same x = elim (either (is_live s x)) [
    | inl live ↦ ap field (same_instance x live) ∙ same x (object_at s x)
    | inr dead ↦ ap field (past_end (instances_after c 0 s.objects) x no_instance (subst (λ n. n ≤ x) (sym (length-after c 0 s.objects)) (ltb-false x (length s.objects) dead))
        ∙ sym (past_end s.objects x no_instance (ltb-false x (length s.objects) dead)))
  ]

  pub class-after : (x : ℕ) → class_of (store_after s c) x ≡ class_of s x
  class-after x = kept_field (λ ob. ob.class) (λ _ _. refl) x

  pub extent-after : (x : ℕ) → extent_of (store_after s c) x ≡ extent_of s x
  extent-after x = kept_field (λ ob. ob.extent) (λ _ _. refl) x

  pub lists-after : (x : ℕ) → is_live s x ≡ true → length (object_at (store_after s c) x).slots ≡ length (features_of s.metas (class_of (store_after s c) x))
  lists-after x live =
      ap (λ (ob : Instance). length ob.slots) (same_instance x live)
      ∙ length-map (λ (g : FeatureNo). slot_after c x g.0) (features_of s.metas (class_of s x))
      ∙ ap (λ n. length (features_of s.metas n)) (sym (class-after x))
