-- An assignment that is not refused keeps a store sound.
use Rattle.std.proofs.Common.{◌≡◌, ℕ, ◌<◌, Bool, true, false, ◌==◌, not, cond, inl, inr, refl, sym, ap, ◌∙◌, subst, List, [], ◌∷◌, ◌++◌, length}
use Rattle.std.specs.Prelude.{Option, Some, None, Ok, filter, All}
use Rattle.std.specs.List.{list_any, list_all}
use Rattle.std.proofs.lemmas.Bool.{ltb-true}
use Rattle.std.proofs.lemmas.Bool.Decides.{Decides-eqb}
use Rattle.std.proofs.lemmas.List.Elements.{All-filter, All-head, All-tail, All-nil, All-cons, All-push, All-append}
use Rattle.qvt_base.specs.declared.numbers.FeatureNo.{FeatureNo}
use Rattle.qvt_base.specs.declared.numbers.Oid.{Oid}
use Rattle.qvt_value.specs.declared.value.Value.{Value}
use Rattle.qvt_metamodel.specs.Metamodels.{Metamodels, opposite, is_opposite, is_feature_number, is_single, shape_of, class_at}
use Rattle.qvt_metamodel.specs.Named.{metamodel_at}
use Rattle.qvt_metamodel.specs.WellFormed.{IsWellFormed}
use Rattle.qvt_relation.proofs.Bools.{and_left, and_right, and_both, or_cases, none_left, none_right, either, clash}
use Rattle.qvt_slots.specs.declared.fault.StoreFault.{StoreFault}
use Rattle.qvt_slots.specs.declared.fault.StoreFault.TheVariants.{TooMany, ContainmentCycle, ReadOnly, CrossModel}
use Rattle.qvt_slots.specs.declared.op.SetOp.TheVariants.{Put, Add}
use Rattle.qvt_slots.specs.Slots.{Slots, has, OppositesAgree, OneContainer, Inside}
use Rattle.qvt_slots.specs.Change.{Change, object_value, is_here, among_objects, gains, keeps, with_object, with_end, slot_after}
use Rattle.qvt_slots.specs.Contents.{Contents, AreNamed, class_of, extent_of, extent_at, is_extent, is_live, is_model, is_named, slot_of}
use Rattle.qvt_slots.specs.Types.{is_of_type, AreTyped, HasCodeType, IsAssignable}
use Rattle.qvt_value.specs.Kept.{is_same, firsts}
use Rattle.qvt_value.specs.Order.{order_of}
use Rattle.qvt_slots.specs.Repeats.{repeats, new_list, AreUnique}
use Rattle.qvt_slots.specs.Assign.{change_to, change_of, exceeds_bound, is_overfull, overfills_end, is_too_many, is_cyclic, is_read_only, crosses, refusal_of, store_after, ok_unless, assign}
use Rattle.qvt_store_laws.specs.Law.{HasDifferences, FitsSingle}
use Rattle.qvt_store_laws.specs.Sound.{IsClassFor, Sound, AssignKeepsSound, AppendKeepsSound, WriteKeepsSound}
use Rattle.qvt_store_laws.proofs.Opposites.{here, keeps_opposites}
use Rattle.qvt_store_laws.proofs.Containers.{keeps_one_container}
use Rattle.qvt_store_laws.proofs.Own.{own_after}
use Rattle.qvt_slots.proofs.Cyclic.{Bounded, inside-cyclic}
use Rattle.qvt_slots.proofs.Typed.{all_kept}
use Rattle.qvt_slots.proofs.Repeating.{length-filter, fewer_fit, single_fits, repeats-filter, repeats-with_object, new_no_repeats}
use Rattle.qvt_store_laws.specs.Law.{IsFit}
use Rattle.qvt_store_laws.proofs.After.{fit_of, all-filter, kind_of_object, features_always, holder_slot, slot-after, slots-after, live-after, class-after, extent-after, lists-after}

pub no_refusal : (a b d e : Bool) → cond a (Some TooMany) (cond b (Some ContainmentCycle) (cond d (Some ReadOnly) (cond e (Some CrossModel) None))) ≡ None →
    (a ≡ false) × (b ≡ false) × (d ≡ false) × (e ≡ false)
no_refusal true b d e h = cc
no_refusal false true d e h = cc
no_refusal false false true e h = cc
no_refusal false false false true h = cc
no_refusal false false false false h = (refl, refl, refl, refl)

pub accepted : (r : Option StoreFault) (s s' : Contents) → ok_unless r s ≡ Ok s' → (r ≡ None) × (s ≡ s')
accepted None s s' e = (refl, cc)
accepted (Some fault) s s' e = cc

pub all-push : (test : Value → Bool) (vs : List Value) (v : Value) → list_all test vs ≡ true → test v ≡ true → list_all test (vs ++ v ∷ []) ≡ true
all-push test [] v all t = and_both _ _ t refl
all-push test (w ∷ vs) v all t = and_both _ _ (and_left _ _ all) (all-push test vs v (and_right (test w) _ all) t)

pub all-append : (test : Value → Bool) (vs us : List Value) → list_all test vs ≡ true → list_all test us ≡ true → list_all test (vs ++ us) ≡ true
all-append test [] us all more = more
all-append test (w ∷ vs) us all more = and_both _ _ (and_left _ _ all) (all-append test vs us (and_right (test w) _ all) more)

-- a fact of the list of an opposite slot that gets the changed object
end_list : (c : Change) (f : ℕ) (P : List Value → Type 0) (vs : List Value) → P (object_value c.object ∷ []) → P (with_object c.object vs) → P (with_end c f vs)
end_list c f P vs alone last = go (is_single c.metas f)
  where
    go : (b : Bool) → P (cond b (object_value c.object ∷ []) (with_object c.object vs))
    go true = alone
    go false = last

with_object_list : (o : ℕ) (P : List Value → Type 0) (vs : List Value) → P vs → P (vs ++ object_value o ∷ []) → P (with_object o vs)
with_object_list o P vs same more = go (has vs o)
  where
    go : (b : Bool) → P (cond b vs (vs ++ object_value o ∷ []))
    go true = same
    go false = more

-- a fact of each list that a slot may hold after the change
pub each_list : (c : Change) (P : List Value → Type 0) (x f : ℕ) → (is_here c x f ≡ true → P c.items) →
    (gains c x f ≡ true → P (with_end c f (filter (keeps c x f) (c.slots x f)))) → P (filter (keeps c x f) (c.slots x f)) → P (slot_after c x f)
each_list c P x f new more rest = go (is_here c x f) refl (gains c x f) refl
  where
    go : (b : Bool) → is_here c x f ≡ b → (g : Bool) → gains c x f ≡ g → P (cond b c.items (cond g (with_end c f (filter (keeps c x f) (c.slots x f))) (filter (keeps c x f) (c.slots x f))))
    go true e g k = new e
    go false e true k = more k
    go false e false k = rest

not_among : (test : Oid → Bool) (os : List Oid) (y : ℕ) → list_any test os ≡ false → among_objects os y ≡ true → test (record { 0 = y }) ≡ false
not_among test [] y n h = cc
not_among test (o ∷ os) y n h = elim (or_cases (o.0 == y) (among_objects os y) h) [
  | inl same ↦ subst (λ k. test (record { 0 = k }) ≡ false) ((Decides-eqb o.0 y).0 same) (none_left _ _ n)
  | inr more ↦ not_among test os y (none_right (test o) _ n) more
]

end_fits : (c : Change) (q : Option FeatureNo) (x f : ℕ) → is_feature_number q f ≡ true → overfills_end c q (record { 0 = x }) ≡ false → is_overfull c x f ≡ false
end_fits c None x f e h = cc
end_fits c (Some q) x f e h = subst (λ k. is_overfull c x k ≡ false) ((Decides-eqb q.0 f).0 e) h

plain-new_list : (m : Metamodels) (p : ℕ) (vs : List Value) → All HasCodeType vs → All HasCodeType (new_list m p vs)
plain-new_list m p vs all = go (shape_of m p).unique
  where
    without : (vs : List Value) → All HasCodeType vs → All HasCodeType (firsts order_of vs)
    without [] all = all
    without (v ∷ vs) all = All-cons HasCodeType v _ (All-head HasCodeType v vs all) (All-filter (λ w. not (is_same order_of v w)) HasCodeType (firsts order_of vs) (without vs (All-tail HasCodeType v vs all)))

    go : (b : Bool) → All HasCodeType (cond b (firsts order_of vs) vs)
    go true = without vs all
    go false = all

pub fits_of : (c : Change) → is_too_many c ≡ false → FitsSingle c
fits_of c e = record { single = λ one. single_fits (length c.items) (shape_of c.metas c.feature).upper one (none_left _ _ e) }

module _ (s : Contents) (o p : ℕ) (ws : List Value) where
  abbrev k : Change
  k = change_to s o p ws

  stays_unique : AreUnique s → (x f : ℕ) → (shape_of s.metas f).unique ≡ true → repeats (filter (keeps k x f) (k.slots x f)) ≡ false
  stays_unique old x f u = repeats-filter (keeps k x f) (k.slots x f) (old.unique x f u)

  pub unique_after : ((shape_of s.metas p).unique ≡ true → repeats ws ≡ false) → AreUnique s → (x f : ℕ) → (shape_of s.metas f).unique ≡ true → repeats (slot_after k x f) ≡ false
  unique_after uniq old x f u = each_list k (λ l. repeats l ≡ false) x f
      (λ at. uniq (subst (λ n. (shape_of s.metas n).unique ≡ true) (here k x f at).1 u))
      (λ _. end_list k f (λ l. repeats l ≡ false) (filter (keeps k x f) (k.slots x f)) refl (repeats-with_object o (filter (keeps k x f) (k.slots x f)) (stays_unique old x f u)))
      (stays_unique old x f u)

  pub types_after : IsWellFormed s.metas → IsFit s o p ws → AreTyped s → (x f : ℕ) → list_all (is_of_type s f) (slot_after k x f) ≡ true
  types_after well fit old x f = each_list k (λ l. list_all (is_of_type s f) l ≡ true) x f
      (λ at. subst (λ n. list_all (is_of_type s n) ws ≡ true) (sym (here k x f at).1) fit.types)
      (λ g. end_list k f (λ l. list_all (is_of_type s f) l ≡ true) stays (and_both _ _ (own_type g) refl)
      (with_object_list o (λ l. list_all (is_of_type s f) l ≡ true) stays rest (all-push (is_of_type s f) stays (object_value o) rest (own_type g))))
      rest
    where
      stays : List Value
      stays = filter (keeps k x f) (k.slots x f)

      rest : list_all (is_of_type s f) (filter (keeps k x f) (k.slots x f)) ≡ true
      rest = all-filter (is_of_type s f) (keeps k x f) (k.slots x f) (old.types x f)

      own_type : gains k x f ≡ true → is_of_type s f (object_value o) ≡ true
      own_type g = kind_of_object s (shape_of s.metas f).kind o (and_left _ _ fit.slot) (well.opposite_has_type p f (class_of s o) (and_left _ _ g) (and_right (is_live s o) _ fit.slot))

module _ (s : Contents) (o p : ℕ) (ws : List Value) (well : IsWellFormed s.metas) (named : AreNamed s.metas s.extents) (fit : IsFit s o p ws) (plain : All HasCodeType ws)
    (uniq : (shape_of s.metas p).unique ≡ true → repeats ws ≡ false) (sound : Sound s) (none : refusal_of s (change_to s o p ws) ≡ None) where
  abbrev c : Change
  c = change_to s o p ws

  abbrev s' : Contents
  s' = store_after s c

  made : HasDifferences c
  made = record { adds = refl; removes = refl }

  causes : (is_too_many c ≡ false) × (is_cyclic s.metas (slot_after c) (length s.objects) ≡ false) × (is_read_only s o ≡ false) × (crosses s o ws ≡ false)
  causes = no_refusal (is_too_many c) (is_cyclic s.metas (slot_after c) (length s.objects)) (is_read_only s o) (crosses s o ws) none

  new_fits : exceeds_bound (length ws) (shape_of s.metas p).upper ≡ false
  new_fits = none_left _ _ causes.0

  fits : FitsSingle c
  fits = fits_of c causes.0

  gained_fits : (x f : ℕ) → gains c x f ≡ true → is_overfull c x f ≡ false
  gained_fits x f g = end_fits c (opposite s.metas p) x f (and_left _ _ g)
      (not_among (overfills_end c (opposite s.metas p)) c.added x (none_right (exceeds_bound (length ws) (shape_of s.metas p).upper) _ causes.0) (and_right (is_opposite s.metas p f) _ g))

  bound : (x f : ℕ) → exceeds_bound (length (slot_after c x f)) (shape_of s.metas f).upper ≡ false
  bound x f = elim (either (gains c x f)) [
    | inl g ↦ gained_fits x f g
    | inr n ↦ each_list c (λ l. exceeds_bound (length l) (shape_of s.metas f).upper ≡ false) x f
        (λ at. subst (λ k. exceeds_bound (length ws) (shape_of s.metas k).upper ≡ false) (sym (here c x f at).1) new_fits)
        (λ g. clash _ g n)
        (fewer_fit _ _ (shape_of s.metas f).upper (length-filter (keeps c x f) (c.slots x f)) (sound.parts.bounds x f))
  ]

  all_plain : (x f : ℕ) → All HasCodeType (slot_after c x f)
  all_plain x f = each_list c (λ l. All HasCodeType l) x f
      (λ at. plain)
      (λ g. end_list c f (λ l. All HasCodeType l) (filter (keeps c x f) (c.slots x f)) (All-cons HasCodeType (object_value o) [] tt (All-nil HasCodeType))
      (with_object_list o (λ l. All HasCodeType l) (filter (keeps c x f) (c.slots x f)) rest (All-push HasCodeType (filter (keeps c x f) (c.slots x f)) (object_value o) rest tt)))
      rest
    where
      rest : All HasCodeType (filter (keeps c x f) (c.slots x f))
      rest = All-filter (keeps c x f) HasCodeType (c.slots x f) (sound.parts.plain x f)

  stays_live : (y : ℕ) → is_live s y ≡ true → (is_live s' y ≡ true) × (class_of s y ≡ class_of s' y)
  stays_live y live = (live-after s o p ws well fit y ∙ live, sym (class-after s o p ws well fit y))

  -- an extent of no model has no object with an opposite
  own_model : (f : ℕ) → is_opposite s.metas p f ≡ true → is_model s (extent_of s o) ≡ true
  own_model f opp = elim (either (is_model s (extent_of s o))) [
    | inl yes' ↦ yes'
    | inr no' ↦
        let own : IsClassFor s (class_of s o) (extent_of s o) = sound.parts.classes o (and_left _ _ fit.slot) in
        let unnamed : is_named (metamodel_at s.metas (class_at s.metas (class_of s o)).metamodel).name ≡ false =
        ap (λ n. is_named (metamodel_at s.metas n).name) own.metamodel ∙ sym (named.named (extent_of s o) own.extent) ∙ no' in
        clash _ opp (well.unnamed_alone p f (class_of s o) (and_right (is_live s o) _ fit.slot) (no_name (metamodel_at s.metas (class_at s.metas (class_of s o)).metamodel).name unnamed))
  ]
    where
      no_name : (n : List ℕ) → is_named n ≡ false → n ≡ []
      no_name [] h = refl
      no_name (b ∷ bs) h = cc

  own : (x f y : ℕ) → is_model s (extent_of s x) ≡ true → has (slot_after c x f) y ≡ true → extent_of s y ≡ extent_of s x
  own x f y model h = own_after s o p ws (record { own = sound.parts.own_objects }) causes.3 own_model x f y model h

  bounded : Bounded (slot_after c) (length s.objects)
  bounded = record {
    held = λ x f y h.
        let h' : has (slot_of s' x f) y ≡ true = subst (λ (l : List Value). has l y ≡ true) (sym (slot-after s o p ws well fit x f)) h in
        ltb-true x (length s.objects) (sym (live-after s o p ws well fit x) ∙ and_left _ _ (holder_slot s' x f y h'));
  }

  pub keeps_sound : Sound s'
  keeps_sound = record {
    parts = record {
      classes = λ x live. let old : IsClassFor s (class_of s x) (extent_of s x) = sound.parts.classes x (sym (live-after s o p ws well fit x) ∙ live) in record {
        extent = ap (λ e. is_extent s e) (extent-after s o p ws well fit x) ∙ old.extent;
        live = subst (λ n. n < length s.metas.classes) (sym (class-after s o p ws well fit x)) old.live;
        metamodel = ap (λ n. (class_at s.metas n).metamodel) (class-after s o p ws well fit x) ∙ old.metamodel ∙ ap (λ n. (extent_at s n).metamodel) (sym (extent-after s o p ws well fit x));
        concrete = ap (λ n. (class_at s.metas n).is_abstract) (class-after s o p ws well fit x) ∙ old.concrete;
      };
      lists = λ x live. lists-after s o p ws well fit x (sym (live-after s o p ws well fit x) ∙ live);
      features = features_always s';
      typed = record {
        types = λ x f. subst (λ (l : List Value). list_all (is_of_type s' f) l ≡ true) (sym (slot-after s o p ws well fit x f))
            (all_kept s s' refl stays_live f (slot_after c x f) (types_after s o p ws well fit sound.parts.typed x f));
      };
      plain = λ x f. subst (λ (l : List Value). All HasCodeType l) (sym (slot-after s o p ws well fit x f)) (all_plain x f);
      bounds = λ x f. subst (λ (l : List Value). exceeds_bound (length l) (shape_of s.metas f).upper ≡ false) (sym (slot-after s o p ws well fit x f)) (bound x f);
      unique = record { unique = λ x f u. subst (λ (l : List Value). repeats l ≡ false) (sym (slot-after s o p ws well fit x f)) (unique_after s o p ws uniq sound.parts.unique x f u) };
      containers = subst (OneContainer s.metas) (sym (slots-after s o p ws well fit)) (keeps_one_container c made well fits sound.parts.containers);
      outside_itself = λ x i. clash _ (inside-cyclic s.metas (slot_after c) (length s.objects) bounded x (subst (λ (t : Slots). Inside s.metas t x x) (slots-after s o p ws well fit) i)) causes.1;
      own_objects = λ x f y model h.
          extent-after s o p ws well fit y
          ∙ own x f y (subst (λ n. is_model s n ≡ true) (extent-after s o p ws well fit x) model) (subst (λ (l : List Value). has l y ≡ true) (slot-after s o p ws well fit x f) h)
          ∙ sym (extent-after s o p ws well fit x);
    };
    opposites = subst (OppositesAgree s.metas) (sym (slots-after s o p ws well fit)) (keeps_opposites c made well fits sound.opposites);
  }

-- what is put in the slot is plain
pub list_keeps_sound : (s s' : Contents) (o p : ℕ) (vs : List Value) → IsWellFormed s.metas → AreNamed s.metas s.extents → IsAssignable s o p vs → All HasCodeType (new_list s.metas p vs) → Sound s → assign s o p vs ≡ Ok s' → Sound s'
list_keeps_sound s s' o p vs well named can plain sound e =
    let r : (refusal_of s (change_of s o p vs) ≡ None) × (store_after s (change_of s o p vs) ≡ s') = accepted (refusal_of s (change_of s o p vs)) (store_after s (change_of s o p vs)) s' e in
    subst Sound r.1 (keeps_sound s o p (new_list s.metas p vs) well named (fit_of s o p vs can) plain (new_no_repeats s.metas p vs) sound r.0)

pub assign_keeps_sound : AssignKeepsSound
assign_keeps_sound s s' o p vs well named can plain sound e = list_keeps_sound s s' o p vs well named can (plain-new_list s.metas p vs plain) sound e

pub write_keeps_sound : WriteKeepsSound
write_keeps_sound s s' o p Put vs well named can plain sound e = assign_keeps_sound s s' o p vs well named can plain sound e
write_keeps_sound s s' o p Add vs well named can plain sound e =
    assign_keeps_sound s s' o p (slot_of s o p ++ vs) well named
    (record { live = can.live; feature = can.feature; types = all-append (is_of_type s p) (slot_of s o p) vs (sound.parts.typed.types o p) can.types })
    (All-append HasCodeType (slot_of s o p) vs (sound.parts.plain o p) plain) sound e

pub append_keeps_sound : AppendKeepsSound
append_keeps_sound s s' o p v well named can plain sound e = write_keeps_sound s s' o p Add (v ∷ []) well named can plain sound e
