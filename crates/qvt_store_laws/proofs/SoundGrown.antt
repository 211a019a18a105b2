-- Sound stores made and loaded: no objects, one more object, one slot placed.
use Rattle.std.proofs.Common.{◌≡◌, ℕ, ◌<◌, Bool, true, false, ◌==◌, ◌&&◌, cond, inl, inr, refl, sym, ap, ◌∙◌, subst, List, [], length, arith}
use Rattle.std.specs.Prelude.{Option, Some, None, nat_lt, All}
use Rattle.std.specs.List.{list_all}
use Rattle.std.proofs.lemmas.Bool.{le-ltb, ltb-true}
use Rattle.std.proofs.lemmas.Bool.Decides.{Decides-eqb}
use Rattle.std.proofs.lemmas.List.Elements.{All-nil}
use Rattle.qvt_value.specs.declared.value.Value.{Value}
use Rattle.qvt_base.specs.declared.numbers.FeatureNo.{FeatureNo}
use Rattle.qvt_metamodel.specs.Metamodels.{Metamodels, class_at, features_of, is_containment, is_feature_number, is_opposite, opposite, shape_of}
use Rattle.qvt_metamodel.specs.WellFormed.{IsWellFormed}
use Rattle.qvt_relation.proofs.Bools.{and_left, and_right, either, refuted, clash}
use Rattle.qvt_slots.specs.declared.extent.Extent.{Extent}
use Rattle.qvt_slots.specs.Slots.{Slots, has, OppositesAgree, OneContainer, Contains, Inside, directly, through}
use Rattle.qvt_slots.specs.Change.{is_some_feature}
use Rattle.qvt_slots.specs.Contents.{Contents, Instance, object_at, class_of, extent_of, extent_at, is_extent, is_live, is_model, slot_of, with_new, with_slot}
use Rattle.qvt_slots.specs.Types.{is_of_type, HasCodeType}
use Rattle.qvt_slots.specs.Repeats.{repeats}
use Rattle.qvt_slots.specs.Cells.{with_list}
use Rattle.qvt_store_laws.specs.Place.{IsPlaceable}
use Rattle.qvt_slots.specs.Assign.{exceeds_bound}
use Rattle.qvt_store_laws.specs.Sound.{IsClassFor, Sound, SoundButOpposites, IsSoundList, NewIsSound, AddKeepsSound, AddKeepsLoading, PlaceKeepsLoading, PlaceKeepsSound}
use Rattle.qvt_slots.proofs.Lists.{length-map}
use Rattle.qvt_slots.proofs.Typed.{all_kept}
use Rattle.qvt_store_laws.proofs.Own.{own_grown, same_extent}
use Rattle.qvt_store_laws.proofs.Attributes.{each_put}
use Rattle.qvt_store_laws.proofs.After.{features_always}
use Rattle.qvt_slots.proofs.Added.{first_contained, no_slots}
use Rattle.qvt_slots.proofs.Instances as objects

-- what is asked of a class and an extent tells nothing of the objects
class_for : (s s' : Contents) (c c' e e' : ℕ) → s.metas ≡ s'.metas → s.extents ≡ s'.extents → c ≡ c' → e ≡ e' → IsClassFor s c e → IsClassFor s' c' e'
class_for s s' c c' e e' metas extents same_class same_extent k = record {
  extent = subst (λ n. is_extent s' n ≡ true) same_extent (subst (λ (l : List Extent). nat_lt e (length l) ≡ true) extents k.extent);
  live = subst (λ n. n < length s'.metas.classes) same_class (subst (λ (m : Metamodels). c < length m.classes) metas k.live);
  metamodel = sym (ap (λ n. (class_at s'.metas n).metamodel) same_class) ∙ sym (ap (λ (m : Metamodels). (class_at m c).metamodel) metas) ∙ k.metamodel
      ∙ ap (λ (l : List Extent). (extent_at (record s { extents = l }) e).metamodel) extents ∙ ap (λ n. (extent_at s' n).metamodel) same_extent;
  concrete = sym (ap (λ n. (class_at s'.metas n).is_abstract) same_class) ∙ sym (ap (λ (m : Metamodels). (class_at m c).is_abstract) metas) ∙ k.concrete;
}

module _ (m : Metamodels) (extents : List Extent) where
  abbrev s0 : Contents
  s0 = record { metas = m; extents = extents; objects = [] }

  holds_none : (x f y : ℕ) → has (slot_of s0 x f) y ≡ true → ⊥
  holds_none x f y h = clash false (ap (λ (l : List Value). has l y) (sym (no_slots m x f)) ∙ h) refl

  dead : (x : ℕ) → is_live s0 x ≡ true → ⊥
  dead x live = let h : x < length s0.objects = ltb-true x (length s0.objects) live in omega arith

  no_bound : (f : ℕ) → exceeds_bound 0 (shape_of m f).upper ≡ false
  no_bound f = go (shape_of m f).upper
    where
      go : (u : Option ℕ) → exceeds_bound 0 u ≡ false
      go None = refl
      go (Some n) = le-ltb n 0 (omega arith)

  pub empty_sound : Sound s0
  empty_sound = record {
    parts = record {
      classes = λ x live. absurd (dead x live);
      lists = λ x live. absurd (dead x live);
      features = features_always s0;
      typed = record { types = λ x f. ap (list_all (is_of_type s0 f)) (no_slots m x f) };
      plain = λ x f. subst (λ (l : List Value). All HasCodeType l) (sym (no_slots m x f)) (All-nil HasCodeType);
      bounds = λ x f. ap (λ (l : List Value). exceeds_bound (length l) (shape_of m f).upper) (no_slots m x f) ∙ no_bound f;
      unique = record { unique = λ x f t. ap repeats (no_slots m x f) };
      containers = record { one = λ x f x' f' y k k' h h'. absurd (holds_none x f y h) };
      outside_itself = λ x i. let r : (z : ℕ) × Contains m (slot_of s0) x z = first_contained m (slot_of s0) i in
          let k : Contains m (slot_of s0) x r.0 = r.1 in holds_none x k.feature r.0 k.held;
      own_objects = λ x f y model h. absurd (holds_none x f y h);
    };
    opposites = record { agree = λ x f y g o h. absurd (holds_none x f y h) };
  }

pub new_is_sound : NewIsSound
new_is_sound m extents = empty_sound m extents

module _ (s : Contents) (c e : ℕ) (own : IsClassFor s c e) (kept' : SoundButOpposites s) where
  abbrev grown : Contents
  grown = with_new s c e

  same : (x f : ℕ) → slot_of grown x f ≡ slot_of s x f
  same = objects.slot-new s c e

  extent-grown : (x : ℕ) → is_live s x ≡ true → extent_of grown x ≡ extent_of s x
  extent-grown x live = ap (λ (i : Instance). i.extent) (objects.object-new s c e x live)

  stays : (y : ℕ) → is_live s y ≡ true → (is_live grown y ≡ true) × (class_of s y ≡ class_of grown y)
  stays y live = (objects.live-new s c e y live, sym (ap (λ (i : Instance). i.class) (objects.object-new s c e y live)))

  classes_grown : (x : ℕ) → is_live grown x ≡ true → IsClassFor grown (class_of grown x) (extent_of grown x)
  classes_grown = objects.each_object s c e (λ x. IsClassFor grown (class_of grown x) (extent_of grown x))
      (λ x live. class_for s grown (class_of s x) (class_of grown x) (extent_of s x) (extent_of grown x) refl refl (stays x live).1 (sym (extent-grown x live)) (kept'.classes x live))
      (class_for s grown c (class_of grown (length s.objects)) e (extent_of grown (length s.objects)) refl refl
      (sym (ap (λ (i : Instance). i.class) (objects.object-last s c e))) (sym (ap (λ (i : Instance). i.extent) (objects.object-last s c e))) own)

  lists_grown : (x : ℕ) → is_live grown x ≡ true → length (object_at grown x).slots ≡ length (features_of s.metas (class_of grown x))
  lists_grown = objects.each_object s c e (λ x. length (object_at grown x).slots ≡ length (features_of s.metas (class_of grown x)))
      (λ x live. ap (λ (i : Instance). length i.slots) (objects.object-new s c e x live) ∙ kept'.lists x live ∙ ap (λ n. length (features_of s.metas n)) (stays x live).1)
      (ap (λ (i : Instance). length i.slots) (objects.object-last s c e) ∙ length-map (λ _. []) (features_of s.metas c)
      ∙ sym (ap (λ (i : Instance). length (features_of s.metas i.class)) (objects.object-last s c e)))

  pub grown_kept : SoundButOpposites grown
  grown_kept = record {
    classes = classes_grown;
    lists = lists_grown;
    features = features_always grown;
    typed = record {
      types = λ x f. subst (λ (l : List Value). list_all (is_of_type grown f) l ≡ true) (sym (same x f)) (all_kept s grown refl stays f (slot_of s x f) (kept'.typed.types x f));
    };
    plain = λ x f. subst (λ (l : List Value). All HasCodeType l) (sym (same x f)) (kept'.plain x f);
    bounds = λ x f. ap (λ (l : List Value). exceeds_bound (length l) (shape_of s.metas f).upper) (same x f) ∙ kept'.bounds x f;
    unique = record { unique = λ x f t. ap repeats (same x f) ∙ kept'.unique.unique x f t };
    containers = subst (OneContainer s.metas) (sym (objects.slots-new s c e)) kept'.containers;
    outside_itself = λ x i. kept'.outside_itself x (subst (λ (t : Slots). Inside s.metas t x x) (objects.slots-new s c e) i);
    own_objects = (own_grown s c e kept'.typed (record { own = kept'.own_objects })).own;
  }

pub add_keeps_loading : AddKeepsLoading
add_keeps_loading s c e own kept' = grown_kept s c e own kept'

pub add_keeps_sound : AddKeepsSound
add_keeps_sound s c e own sound = record {
  parts = grown_kept s c e own sound.parts;
  opposites = subst (OppositesAgree s.metas) (sym (objects.slots-new s c e)) sound.opposites;
}

module _ (s : Contents) (o p : ℕ) (vs : List Value) (can : IsPlaceable s o p vs) (plain : All HasCodeType vs) (fits : IsSoundList s o p vs) (kept' : SoundButOpposites s) where
  abbrev placed : Contents
  placed = with_slot s o p vs

  lists_here : length (object_at s o).slots ≡ length (features_of s.metas (class_of s o))
  lists_here = kept'.lists o can.assignable.live

  slots : (x f : ℕ) → slot_of placed x f ≡ with_list (slot_of s) o p vs x f
  slots = objects.slot-placed s o p vs can.assignable.live can.assignable.feature lists_here

  all_slots : slot_of placed ≡ with_list (slot_of s) o p vs
  all_slots = objects.slots-placed s o p vs can.assignable.live can.assignable.feature lists_here

  live-same : (x : ℕ) → is_live placed x ≡ is_live s x
  live-same = objects.live-placed s o p vs can.assignable.live can.assignable.feature lists_here

  class-same : (x : ℕ) → class_of placed x ≡ class_of s x
  class-same = objects.class-placed s o p vs can.assignable.live can.assignable.feature lists_here

  extent-same : (x : ℕ) → extent_of placed x ≡ extent_of s x
  extent-same = objects.extent-placed s o p vs can.assignable.live can.assignable.feature lists_here

  at_here : (x f : ℕ) → ((x == o) && (f == p)) ≡ true → (x ≡ o) × (f ≡ p)
  at_here x f e = ((Decides-eqb x o).0 (and_left _ _ e), (Decides-eqb f p).0 (and_right (x == o) _ e))

  -- what a slot holds is new, or was there
  held : (P : Type 0) (x f y : ℕ) → (x ≡ o → f ≡ p → has vs y ≡ true → P) → (has (slot_of s x f) y ≡ true → P) → has (with_list (slot_of s) o p vs x f) y ≡ true → P
  held P x f y new old h = go ((x == o) && (f == p)) refl h
    where
      go : (b : Bool) → ((x == o) && (f == p)) ≡ b → has (cond b vs (slot_of s x f)) y ≡ true → P
      go true e h = new (at_here x f e).0 (at_here x f e).1 h
      go false e h = old h

  one_placed : (x f x' f' y : ℕ) → is_containment s.metas f ≡ true → is_containment s.metas f' ≡ true → has (with_list (slot_of s) o p vs x f) y ≡ true → has (with_list (slot_of s) o p vs x' f') y ≡ true → (x ≡ x') × (f ≡ f')
  one_placed x f x' f' y k k' h h' = held ((x ≡ x') × (f ≡ f')) x f y
      (λ e q new. held ((x ≡ x') × (f ≡ f')) x' f' y
      (λ e' q' new'. (e ∙ sym e', q ∙ sym q'))
      (λ old'. clash _ old' (can.free (subst (λ n. is_containment s.metas n ≡ true) q k) x' f' y k' new)) h')
      (λ old. held ((x ≡ x') × (f ≡ f')) x' f' y
      (λ e' q' new'. clash _ old (can.free (subst (λ n. is_containment s.metas n ≡ true) q' k') x f y k new'))
      (λ old'. kept'.containers.one x f x' f' y k k' old old') h') h

  old_contains : is_containment s.metas p ≡ false → (x y : ℕ) → Contains s.metas (with_list (slot_of s) o p vs) x y → Contains s.metas (slot_of s) x y
  old_contains plain x y k = record {
    feature = k.feature;
    containment = k.containment;
    held = held (has (slot_of s x k.feature) y ≡ true) x k.feature y (λ e q new. clash _ (subst (λ n. is_containment s.metas n ≡ true) q k.containment) plain) (λ old. old) k.held;
  }

  old_inside : is_containment s.metas p ≡ false → {x y : ℕ} → Inside s.metas (with_list (slot_of s) o p vs) x y → Inside s.metas (slot_of s) x y
  old_inside plain (directly {x} {y} k) = directly (old_contains plain x y k)
  old_inside plain (through {x} {y} {z} k i) = through (old_contains plain x y k) (old_inside plain i)

  outside : (x : ℕ) → Inside s.metas (with_list (slot_of s) o p vs) x x → ⊥
  outside x i = elim (either (is_containment s.metas p)) [
    | inl cont ↦ can.acyclic cont x i
    | inr plain ↦ kept'.outside_itself x (old_inside plain i)
  ]

  own_placed : (x f y : ℕ) → is_model s (extent_of s x) ≡ true → has (with_list (slot_of s) o p vs x f) y ≡ true → extent_of s y ≡ extent_of s x
  own_placed x f y model h = held (extent_of s y ≡ extent_of s x) x f y
      (λ e q new. same_extent s o vs fits.own_objects y (subst (λ n. is_model s (extent_of s n) ≡ true) e model) new ∙ ap (extent_of s) (sym e))
      (λ old. kept'.own_objects x f y model old) h

  pub placed_kept : SoundButOpposites placed
  placed_kept = record {
    classes = λ x live. class_for s placed (class_of s x) (class_of placed x) (extent_of s x) (extent_of placed x) refl refl (sym (class-same x)) (sym (extent-same x)) (kept'.classes x (sym (live-same x) ∙ live));
    lists = λ x live. objects.lists-placed s o p vs can.assignable.live can.assignable.feature lists_here x (kept'.lists x (sym (live-same x) ∙ live));
    features = features_always placed;
    typed = record {
      types = λ x f. subst (λ (l : List Value). list_all (is_of_type placed f) l ≡ true) (sym (slots x f))
          (all_kept s placed refl (λ y live. (live-same y ∙ live, sym (class-same y))) f (with_list (slot_of s) o p vs x f)
          (each_put (λ _ g l. list_all (is_of_type s g) l ≡ true) (slot_of s) o p vs can.assignable.types kept'.typed.types x f));
    };
    plain = λ x f. subst (λ (l : List Value). All HasCodeType l) (sym (slots x f)) (each_put (λ _ _ l. All HasCodeType l) (slot_of s) o p vs plain kept'.plain x f);
    bounds = λ x f. ap (λ (l : List Value). exceeds_bound (length l) (shape_of s.metas f).upper) (slots x f)
        ∙ each_put (λ _ g l. exceeds_bound (length l) (shape_of s.metas g).upper ≡ false) (slot_of s) o p vs fits.bound kept'.bounds x f;
    unique = record {
      unique = λ x f t. ap repeats (slots x f) ∙ each_put (λ _ g l. (shape_of s.metas g).unique ≡ true → repeats l ≡ false) (slot_of s) o p vs fits.unique kept'.unique.unique x f t;
    };
    containers = subst (OneContainer s.metas) (sym all_slots) (record { one = one_placed });
    outside_itself = λ x i. outside x (subst (λ (t : Slots). Inside s.metas t x x) all_slots i);
    own_objects = λ x f y model h.
        extent-same y ∙ own_placed x f y (subst (λ n. is_model s n ≡ true) (extent-same x) model) (ap (λ (l : List Value). has l y) (sym (slots x f)) ∙ h) ∙ sym (extent-same x);
  }

pub place_keeps_loading : PlaceKeepsLoading
place_keeps_loading s o p vs can plain fits kept' = placed_kept s o p vs can plain fits kept'

-- where the feature of the placed slot has no opposite, the slots of other features agree as before
agree_placed : (s : Contents) (o p : ℕ) (vs : List Value) → IsWellFormed s.metas → is_some_feature (opposite s.metas p) ≡ false → OppositesAgree s.metas (slot_of s) → OppositesAgree s.metas (with_list (slot_of s) o p vs)
agree_placed s o p vs well alone old = record {
  agree = λ x f y g opp h. other y g x (none g f (well.mutual_opposites f g opp)) (old.agree x f y g opp (other_old x f y (none f g opp) h));
}
  where
    -- a feature that has an opposite is not p
    none : (f g : ℕ) → is_opposite s.metas f g ≡ true → f ≡ p → ⊥
    none f g opp e = some (opposite s.metas p) alone (subst (λ n. is_feature_number (opposite s.metas n) g ≡ true) e opp)
      where
        some : (q : Option FeatureNo) → is_some_feature q ≡ false → is_feature_number q g ≡ true → ⊥
        some None a h = clash false h refl
        some (Some q) a h = clash true refl a

    apart : (x f : ℕ) → (f ≡ p → ⊥) → ((x == o) && (f == p)) ≡ false
    apart x f n = refuted _ (λ e. n ((Decides-eqb f p).0 (and_right (x == o) _ e)))

    other : (x f y : ℕ) → (f ≡ p → ⊥) → has (slot_of s x f) y ≡ true → has (with_list (slot_of s) o p vs x f) y ≡ true
    other x f y n h = ap (λ b. has (cond b vs (slot_of s x f)) y) (apart x f n) ∙ h

    other_old : (x f y : ℕ) → (f ≡ p → ⊥) → has (with_list (slot_of s) o p vs x f) y ≡ true → has (slot_of s x f) y ≡ true
    other_old x f y n h = sym (ap (λ b. has (cond b vs (slot_of s x f)) y) (apart x f n)) ∙ h

pub place_keeps_sound : PlaceKeepsSound
place_keeps_sound s o p vs well can plain fits alone sound = record {
  parts = placed_kept s o p vs can plain fits sound.parts;
  opposites = subst (OppositesAgree s.metas) (sym (objects.slots-placed s o p vs can.assignable.live can.assignable.feature (sound.parts.lists o can.assignable.live))) (agree_placed s o p vs well alone sound.opposites);
}
