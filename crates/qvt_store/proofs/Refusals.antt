-- What the tests of a change tell of its refusal.
use Rattle.std.proofs.Common.{◌≡◌, ◌≢◌, ℕ, ◌<◌, Bool, true, false, ◌||◌, ◌&&◌, cond, refl, sym, ap, ◌∙◌, subst, List, [], ◌∷◌, length}
use Rattle.std.specs.Prelude.{Option, Some, None, Ok, Err}
use Rattle.std.specs.List.{list_any}
use Rattle.std.proofs.lemmas.Bool.{ltb-true}
use Rattle.std.proofs.lemmas.Bool.Decides.{Decides-eqb}
use Rattle.qvt_base.specs.declared.numbers.FeatureNo.{FeatureNo}
use Rattle.qvt_base.specs.declared.numbers.Oid.{Oid}
use Rattle.qvt_value.specs.declared.value.Value.{Value}
use Rattle.qvt_metamodel.specs.Metamodels.{opposite, is_opposite, is_feature_number, shape_of}
use Rattle.qvt_metamodel.specs.WellFormed.{IsWellFormed}
use Rattle.qvt_relation.proofs.Bools.{and_left, clash, refuted}
use Rattle.qvt_slots.specs.declared.draft.Draft.{Draft}
use Rattle.qvt_slots.specs.declared.fault.StoreFault.{StoreFault}
use Rattle.qvt_slots.specs.declared.fault.StoreFault.TheVariants.{TooMany, ContainmentCycle, ReadOnly, CrossModel, TooManyObjects, NoMemory}
use Rattle.qvt_slots.specs.Slots.{Inside}
use Rattle.qvt_slots.specs.Change.{Change, is_here, is_added, gains, slot_elsewhere, slot_after}
use Rattle.qvt_slots.specs.Contents.{Contents, is_live, slot_of}
use Rattle.qvt_slots.specs.Repeats.{new_list}
use Rattle.qvt_slots.specs.Assign.{change_to, exceeds_bound, overfills_end, is_too_many, is_cyclic, is_read_only, crosses, refusal_of, store_after, ok_unless, assign}
use Rattle.qvt_store_laws.specs.Law.{HasDifferences, FitsSingle, IsFit}
use Rattle.qvt_store.specs.Draft.{change_with, drafted, IsDraft, overfills_elsewhere, is_overfilling, AddsLive, IsAllowed, IsEarlyFault}
use Rattle.qvt_slots.specs.Walk.{ClosesCycle, by_items, by_end, IsCyclic}
use Rattle.qvt_store_laws.proofs.Held.{given, kept, gained, held_after, added_new}
use Rattle.qvt_store_laws.proofs.Opposites.{here}
use Rattle.qvt_slots.proofs.Cyclic.{Bounded, cyclic-inside, inside-cyclic}
use Rattle.qvt_store.proofs.Cycles.{cycle_closes, closes_cycle}
use Rattle.qvt_store_laws.proofs.After.{holder_slot, item_object}
use Rattle.qvt_store_laws.proofs.SoundKept.{fits_of}
use Rattle.qvt_store.proofs.Done.{same_change}

any_end : (c : Change) → IsWellFormed c.metas → (q : Option FeatureNo) → opposite c.metas c.feature ≡ q → (os : List Oid) → list_any (overfills_elsewhere c q) os ≡ list_any (overfills_end c q) os
any_end c well q e [] = refl
any_end c well None e (a ∷ os) = any_end c well None e os
any_end c well (Some q) e (a ∷ os) =
    ap (λ l. exceeds_bound (length l) (shape_of c.metas q.0).upper || list_any (overfills_elsewhere c (Some q)) os) (sym after_is)
    ∙ ap (λ b. overfills_end c (Some q) a || b) (any_end c well (Some q) e os)
  where
    opp : is_opposite c.metas c.feature q.0 ≡ true
    opp = ap (λ r. is_feature_number r q.0) e ∙ (Decides-eqb q.0 q.0).1 refl

    away : is_here c a.0 q.0 ≡ false
    away = refuted _ (λ h. clash _ opp (subst (λ n. is_opposite c.metas c.feature n ≡ false) (sym (here c a.0 q.0 h).1) (well.other_feature c.feature)))

    after_is : slot_after c a.0 q.0 ≡ slot_elsewhere c a.0 q.0
    after_is = ap (λ b. cond b c.items (slot_elsewhere c a.0 q.0)) away

too_many_is : (c : Change) → IsWellFormed c.metas → is_overfilling c (length c.items) ≡ is_too_many c
too_many_is c well = ap (λ b. exceeds_bound (length c.items) (shape_of c.metas c.feature).upper || b) (any_end c well (opposite c.metas c.feature) refl c.added)

closes_with : (s : Contents) (d : Draft) (ws : List Value) → ClosesCycle (change_with s d ws) → ClosesCycle (drafted s d)
closes_with s d ws (by_items k some) = by_items k some
closes_with s d ws (by_end k some) = by_end k some

closes_drafted : (s : Contents) (d : Draft) (ws : List Value) → ClosesCycle (drafted s d) → ClosesCycle (change_with s d ws)
closes_drafted s d ws (by_items k some) = by_items k some
closes_drafted s d ws (by_end k some) = by_end k some

module _ (s : Contents) (d : Draft) (ws : List Value) (well : IsWellFormed s.metas) (old : (x : ℕ) → Inside s.metas (slot_of s) x x → ⊥)
    (is : IsDraft s d ws) (fit : IsFit s d.object.0 d.feature.0 ws) where
  abbrev c : Change
  c = change_to s d.object.0 d.feature.0 ws

  made : HasDifferences c
  made = record { adds = refl; removes = refl }

  count_is : is_overfilling (drafted s d) (length ws) ≡ is_too_many c
  count_is = ap (λ (k : Change). is_overfilling k (length ws)) (same_change s d ws is) ∙ too_many_is c well

  to_draft : ClosesCycle c → ClosesCycle (drafted s d)
  to_draft k = closes_with s d ws (subst ClosesCycle (sym (same_change s d ws is)) k)

  from_draft : ClosesCycle (drafted s d) → ClosesCycle c
  from_draft k = subst ClosesCycle (same_change s d ws is) (closes_drafted s d ws k)

  pub adds_live : AddsLive s (drafted s d)
  adds_live = record { live = λ y h. and_left _ _ (item_object s d.feature.0 ws y fit.types (added_new c made y (subst (λ (k : Change). is_added k y ≡ true) (same_change s d ws is) h))) }

  bounded : Bounded (slot_after c) (length s.objects)
  bounded = record {
    held = λ x f y h. ltb-true x (length s.objects) (elim (held_after c x f y h) [
      | given at new ↦ subst (λ n. is_live s n ≡ true) (sym (here c x f at).0) (and_left _ _ fit.slot)
      | kept n was stays ↦ and_left _ _ (holder_slot s x f y was)
      | gained n g at ↦ and_left _ _ (item_object s d.feature.0 ws x fit.types (added_new c made x (gains_added x f g)))
    ]);
  }
    where
      gains_added : (x f : ℕ) → gains c x f ≡ true → is_added c x ≡ true
      gains_added x f g = right (is_opposite s.metas d.feature.0 f) (is_added c x) g
        where
          right : (a b : Bool) → (a && b) ≡ true → b ≡ true
          right true b h = h
          right false b h = clash false h refl

  pub fits : is_overfilling (drafted s d) (length ws) ≡ false → FitsSingle c
  fits few = fits_of c (sym count_is ∙ few)

  pub stays_acyclic : is_overfilling (drafted s d) (length ws) ≡ false → (ClosesCycle (drafted s d) → ⊥) → IsCyclic s.metas (slot_after c) → ⊥
  stays_acyclic few open' cyc = open' (to_draft (cycle_closes c made well (fits few) old cyc.object cyc.inside))

  not_cyclic : is_overfilling (drafted s d) (length ws) ≡ false → (ClosesCycle (drafted s d) → ⊥) → is_cyclic s.metas (slot_after c) (length s.objects) ≡ false
  not_cyclic few open' = refuted _ (λ t.
      let r : (x : ℕ) × (x < length s.objects) × Inside s.metas (slot_after c) x x = cyclic-inside s.metas (slot_after c) (length s.objects) t in
      stays_acyclic few open' (record { object = r.0; inside = r.2 }))

  cyclic : is_overfilling (drafted s d) (length ws) ≡ false → ClosesCycle (drafted s d) → is_cyclic s.metas (slot_after c) (length s.objects) ≡ true
  cyclic few k =
      let r : IsCyclic s.metas (slot_after c) = closes_cycle c made well (fits few) old (from_draft k) in
      inside-cyclic s.metas (slot_after c) (length s.objects) bounded r.object r.inside

  choose : (a b e f : Bool) (a' b' e' f' : Bool) → a ≡ a' → b ≡ b' → e ≡ e' → f ≡ f' →
      cond a (Some TooMany) (cond b (Some ContainmentCycle) (cond e (Some ReadOnly) (cond f (Some CrossModel) None)))
      ≡ cond a' (Some TooMany) (cond b' (Some ContainmentCycle) (cond e' (Some ReadOnly) (cond f' (Some CrossModel) None)))
  choose a b e f a' b' e' f' p q r t = λ i. cond (p i) (Some TooMany) (cond (q i) (Some ContainmentCycle) (cond (r i) (Some ReadOnly) (cond (t i) (Some CrossModel) None)))

  refusal_is : (a b e f : Bool) → is_too_many c ≡ a → is_cyclic s.metas (slot_after c) (length s.objects) ≡ b → is_read_only s d.object.0 ≡ e → crosses s d.object.0 ws ≡ f →
      refusal_of s c ≡ cond a (Some TooMany) (cond b (Some ContainmentCycle) (cond e (Some ReadOnly) (cond f (Some CrossModel) None)))
  refusal_is a b e f p q r t = choose (is_too_many c) (is_cyclic s.metas (slot_after c) (length s.objects)) (is_read_only s d.object.0) (crosses s d.object.0 ws) a b e f p q r t

  pub none_refused : IsAllowed s (drafted s d) (length ws) → crosses s d.object.0 ws ≡ false → refusal_of s c ≡ None
  none_refused ok' own = refusal_is false false false false (sym count_is ∙ ok'.few) (not_cyclic ok'.few ok'.acyclic) ok'.writable own

  pub cross_refused : IsAllowed s (drafted s d) (length ws) → crosses s d.object.0 ws ≡ true → refusal_of s c ≡ Some CrossModel
  cross_refused ok' other = refusal_is false false false true (sym count_is ∙ ok'.few) (not_cyclic ok'.few ok'.acyclic) ok'.writable other

  pub early_refused : (fault : StoreFault) → IsEarlyFault s (drafted s d) (length ws) fault → fault ≢ NoMemory → refusal_of s c ≡ Some fault
  early_refused TooMany f n = refusal_is true _ _ _ (sym count_is ∙ f) refl refl refl
  early_refused ContainmentCycle f n = refusal_is false true _ _ (sym count_is ∙ f.few) (cyclic f.few f.cycle) refl refl
  early_refused ReadOnly f n = refusal_is false false true _ (sym count_is ∙ f.few) (not_cyclic f.few f.acyclic) f.read_only refl
  early_refused CrossModel f n = absurd f
  early_refused TooManyObjects f n = absurd f
  early_refused NoMemory f n = absurd (n refl)

  pub assigned : (vs : List Value) → ws ≡ new_list s.metas d.feature.0 vs → refusal_of s c ≡ None → assign s d.object.0 d.feature.0 vs ≡ Ok (store_after s c)
  assigned vs e r = ap (λ l. ok_unless (refusal_of s (change_to s d.object.0 d.feature.0 l)) (store_after s (change_to s d.object.0 d.feature.0 l))) (sym e) ∙ ap (λ o. ok_unless o (store_after s c)) r

  pub not_assigned : (vs : List Value) (fault : StoreFault) → ws ≡ new_list s.metas d.feature.0 vs → refusal_of s c ≡ Some fault → assign s d.object.0 d.feature.0 vs ≡ Err fault
  not_assigned vs fault e r = ap (λ l. ok_unless (refusal_of s (change_to s d.object.0 d.feature.0 l)) (store_after s (change_to s d.object.0 d.feature.0 l))) (sym e) ∙ ap (λ o. ok_unless o (store_after s c)) r
