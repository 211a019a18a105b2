-- An assignment as the code makes it.
use Rattle.std.proofs.Common.{◌≡◌, ◌≢◌, ℕ, ◌≤◌, Bool, true, false, ◌==◌, not, cond, refl, sym, ap, ◌∙◌, subst, List, [], ◌∷◌, length, arith}
use Rattle.std.specs.Prelude.{Ok, Err, Option, Some, None}
use Rattle.std.specs.List.{list_any}
use Rattle.std.proofs.lemmas.Bool.{le-ltb}
use Rattle.std.proofs.lemmas.Bool.Decides.{Decides-eqb}
use Rattle.qvt_base.specs.declared.numbers.FeatureNo.{FeatureNo}
use Rattle.qvt_base.specs.declared.numbers.Oid.{Oid}
use Rattle.qvt_value.specs.declared.value.Value.{Value}
use Rattle.qvt_metamodel.specs.Metamodels.{shape_of, opposite, is_one}
use Rattle.qvt_relation.proofs.Bools.{and_left, and_right, or_none, none_left, none_right, not_true, clash}
use Rattle.qvt_slots.specs.declared.commit.Write.{Write}
use Rattle.qvt_slots.specs.declared.draft.Draft.{Draft}
use Rattle.qvt_slots.specs.declared.fault.StoreFault.{StoreFault}
use Rattle.qvt_slots.specs.declared.fault.StoreFault.TheVariants.{TooMany, ContainmentCycle, ReadOnly, CrossModel, TooManyObjects, NoMemory}
use Rattle.qvt_slots.specs.Change.{Change, objects_beyond, among_objects}
use Rattle.qvt_slots.specs.Slots.{object_in, passes, is_object, has}
use Rattle.qvt_slots.specs.Contents.{Contents, slot_of, extent_of, is_model}
use Rattle.qvt_slots.specs.Types.{IsAssignable, IsAttributeChange}
use Rattle.qvt_value.specs.Kept.{firsts}
use Rattle.qvt_value.specs.Order.{order_of}
use Rattle.qvt_slots.specs.Repeats.{repeats, new_list}
use Rattle.qvt_slots.specs.Assign.{change_to, exceeds_bound, is_elsewhere, crosses, store_after, assign}
use Rattle.qvt_store.specs.Draft.{drafted, IsDraft, overfills_elsewhere, is_overfilling, AddsLive, RemovesHeld, IsAllowed, IsEarlyFault}
use Rattle.qvt_slots.specs.Walk.{ClosesCycle, by_items, by_end}
use Rattle.qvt_store_laws.specs.Law.{IsFit}
use Rattle.qvt_store.specs.Ready.{Ready, IsKnown, StaysElsewhere}
use Rattle.qvt_slots.specs.Writes.{released_of}
use Rattle.qvt_store.specs.Plan.{IsPlan}
use Rattle.qvt_store_laws.proofs.After.{fit_of}
use Rattle.qvt_slots.proofs.Repeating.{new_no_repeats}
use Rattle.qvt_slots.proofs.Objects.{none_beyond_all, beyond-is}
use Rattle.qvt_slots.proofs.Typed.{no_objects}
use Rattle.qvt_store_laws.proofs.Touched.{all_stay}
use Rattle.qvt_store.proofs.Refusals.{adds_live, fits, stays_acyclic, none_refused, cross_refused, early_refused, assigned, not_assigned}

module _ (s : Contents) (o : Oid) (p : FeatureNo) (vs items : List Value) (added removed : List Oid) (known : IsKnown s) (can : IsAssignable s o.0 p.0 vs)
    (new : items ≡ new_list s.metas p.0 vs) (adds : added ≡ objects_beyond (slot_of s o.0 p.0) items) (removes : removed ≡ objects_beyond items (slot_of s o.0 p.0)) where
  abbrev d : Draft
  d = record { object = o; feature = p; added = added; removed = removed }

  is : IsDraft s d items
  is = record { adds = adds; removes = removes }

  fit : IsFit s o.0 p.0 items
  fit = subst (λ (l : List Value). IsFit s o.0 p.0 l) (sym new) (fit_of s o.0 p.0 vs can)

  pub live_added : AddsLive s (drafted s d)
  live_added = adds_live s d items known.well_formed known.acyclic is fit

  pub removes_held : RemovesHeld s d
  removes_held = record { held = λ y h. and_left _ _ (sym (beyond-is items (slot_of s o.0 p.0) y) ∙ ap (λ (os : List Oid). among_objects os y) (sym removes) ∙ h) }

  pub early : (fault : StoreFault) (n : ℕ) → n ≡ length items → IsEarlyFault s (drafted s d) n fault → fault ≢ NoMemory → assign s o.0 p.0 vs ≡ Err fault
  early fault n e f other = not_assigned s d items known.well_formed known.acyclic is fit vs fault new
      (early_refused s d items known.well_formed known.acyclic is fit fault (subst (λ k. IsEarlyFault s (drafted s d) k fault) e f) other)

  pub cross : (n : ℕ) → n ≡ length items → IsAllowed s (drafted s d) n → crosses s o.0 items ≡ true → assign s o.0 p.0 vs ≡ Err CrossModel
  cross n e ok' c = not_assigned s d items known.well_formed known.acyclic is fit vs CrossModel new
      (cross_refused s d items known.well_formed known.acyclic is fit (subst (λ k. IsAllowed s (drafted s d) k) e ok') c)

  pub done : (n : ℕ) → n ≡ length items → IsAllowed s (drafted s d) n → crosses s o.0 items ≡ false → assign s o.0 p.0 vs ≡ Ok (store_after s (change_to s o.0 p.0 items))
  done n e ok' c = assigned s d items known.well_formed known.acyclic is fit vs new
      (none_refused s d items known.well_formed known.acyclic is fit (subst (λ k. IsAllowed s (drafted s d) k) e ok') c)

  pub ready : (n : ℕ) → n ≡ length items → IsAllowed s (drafted s d) n → crosses s o.0 items ≡ false → (ws : List Write) (released : List Oid) → IsPlan s (drafted s d) ws → released ≡ released_of s.metas (slot_of s) d ws → Ready s d items ws released
  ready n e ok' own ws released plan r =
      let all : IsAllowed s (drafted s d) (length items) = subst (λ k. IsAllowed s (drafted s d) k) e ok' in
      record {
        draft = is;
        fit = fit;
        single = fits s d items known.well_formed known.acyclic is fit all.few;
        acyclic = stays_acyclic s d items known.well_formed known.acyclic is fit all.few all.acyclic;
        unique = λ u. ap repeats new ∙ new_no_repeats s.metas p.0 vs u;
        own = own;
        plan = plan;
        is_released = r;
      }

  abbrev k : Change
  k = change_to s o.0 p.0 items

  -- a single attribute: neither list holds an object
  module _ (plain : IsAttributeChange s o.0 p.0 vs) where
    pub items_same : items ≡ vs
    items_same = new ∙ go (shape_of s.metas p.0).unique vs plain.few
      where
        go : (b : Bool) (l : List Value) → length l ≤ 1 → cond b (firsts order_of l) l ≡ l
        go true [] h = refl
        go true (v ∷ []) h = refl
        go true (v ∷ w ∷ l) h = absurd (omega arith)
        go false l h = refl

    no_item : (y : ℕ) → has items y ≡ false
    no_item y = ap (λ l. has l y) items_same ∙ no_objects s p.0 vs y plain.attribute can.types

    no_old : (y : ℕ) → has (slot_of s o.0 p.0) y ≡ false
    no_old y = no_objects s p.0 (slot_of s o.0 p.0) y plain.attribute (known.typed.types o.0 p.0)

    none_added : k.added ≡ []
    none_added = none_beyond_all (slot_of s o.0 p.0) items (λ y h. clash _ h (no_item y))

    none_removed : k.removed ≡ []
    none_removed = none_beyond_all items (slot_of s o.0 p.0) (λ y h. clash _ h (no_old y))

    pub stays_elsewhere : StaysElsewhere k
    stays_elsewhere = record { stays = λ x f. all_stay k known.well_formed none_added none_removed x f }

    few_items : length items ≤ 1
    few_items = subst (λ (l : List Value). length l ≤ 1) (sym items_same) plain.few

    within : (u : Option ℕ) → is_one u ≡ true → (n : ℕ) → n ≤ 1 → exceeds_bound n u ≡ false
    within None one n h = refl
    within (Some u) one n h = let e : u ≡ 1 = (Decides-eqb u 1).0 one in le-ltb u n (omega arith)

    no_draft : d.added ≡ []
    no_draft = adds ∙ none_added

    few : is_overfilling (drafted s d) (length items) ≡ false
    few = or_none _ _ (within (shape_of s.metas p.0).upper plain.single (length items) few_items)
        (ap (λ os. list_any (overfills_elsewhere (drafted s d) (opposite s.metas p.0)) os) no_draft)

    no_cycle : ClosesCycle (drafted s d) → ⊥
    no_cycle (by_items c some) = clash false (sym (ap (λ os. among_objects os some.object) no_draft) ∙ some.listed) refl
    no_cycle (by_end c some) = clash false (sym (ap (λ os. among_objects os some.object) no_draft) ∙ some.listed) refl

    pub no_cross : crosses s o.0 items ≡ true → ⊥
    no_cross h = clash _ (and_right (is_model s (extent_of s o.0)) _ h) (nowhere items (λ y. no_item y))
      where
        nowhere : (l : List Value) → ((y : ℕ) → has l y ≡ false) → list_any (is_elsewhere s o.0) l ≡ false
        nowhere [] h = refl
        nowhere (v ∷ l) h = or_none _ _ (at (object_in v) (λ y. none_left _ _ (h y))) (nowhere l (λ y. none_right (is_object y v) _ (h y)))
          where
            at : (q : Option ℕ) → ((y : ℕ) → passes (λ x. x == y) q ≡ false) → passes (λ a. not (extent_of s a == extent_of s o.0)) q ≡ false
            at None h = refl
            at (Some x) h = clash _ ((Decides-eqb x x).1 refl) (h x)

    pub no_early : (fault : StoreFault) (n : ℕ) → n ≡ length items → IsEarlyFault s (drafted s d) n fault → fault ≡ NoMemory
    no_early fault n e f = go fault (subst (λ k. IsEarlyFault s (drafted s d) k fault) e f)
      where
        go : (fault : StoreFault) → IsEarlyFault s (drafted s d) (length items) fault → fault ≡ NoMemory
        go TooMany f = clash _ f few
        go ContainmentCycle f = absurd (no_cycle f.cycle)
        go ReadOnly f = clash _ plain.writable (not_true _ f.read_only)
        go CrossModel f = absurd f
        go TooManyObjects f = absurd f
        go NoMemory f = refl
