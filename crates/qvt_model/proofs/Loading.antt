-- A model that conforms can be loaded, and leaves the loaded store, which is sound where the store was.
use Rattle.std.proofs.Common.{◌≡◌, ℕ, suc, ◌+◌, ◌<◌, true, false, inl, inr, sym, ap, ◌∙◌, subst, List, [], ◌∷◌, ◌++◌, map, length, arith}
use Rattle.std.specs.Prelude.{⊤}
use Rattle.std.specs.List.{AllByRecursion}
use Rattle.std.proofs.lemmas.Bool.{cases_lt}
use Rattle.qvt_metas.specs.Metamodels.{Metamodels, class_at, is_opposite}
use Rattle.qvt_metas.specs.WellFormed.{IsWellFormed}
use Rattle.qvt_store.specs.Slots.{has, OppositesAgree, Inside}
use Rattle.qvt_store.specs.Contents.{Contents, Instance, slot_in, slot_of, extent_at, with_new}
use Rattle.qvt_store.specs.Types.{AreTyped}
use Rattle.qvt_store.specs.Sound.{Sound, SoundButOpposites}
use Rattle.qvt_store_laws.proofs.SoundGrown.{add_keeps_loading}
use Rattle.qvt_model.specs.declared.data.ObjectData.{ObjectData}
use Rattle.qvt_model.specs.WellFormed.{IsObjectIn}
use Rattle.qvt_model.specs.WellFormed as parts
use Rattle.qvt_model.specs.Items.{items_in}
use Rattle.qvt_model.specs.Loaded.{loaded, IsLoadable}
use Rattle.qvt_model.specs.Conforming.{Conforms}
use Rattle.qvt_model.specs.Steps.{objects_added, CanAdd, put_objects, with_objects, CanPutObjects}
use Rattle.qvt_model.proofs.Shift.{HeldItem, has-shift}
use Rattle.qvt_model.proofs.Final.{final, slot-old, slot-new, new_held, old_held, beyond}
use Rattle.qvt_model.proofs.Filled.{empty_of, added_is, put_is}
use Rattle.qvt_model.proofs.Placing.{ObjectsPut, all_put}

-- each object is of a concrete class of the extent's metamodel
abbrev AreConcrete : Metamodels → List ObjectData → Type 0
AreConcrete m [] = ⊤
AreConcrete m (o ∷ os) = ((class_at m o.class.0).is_abstract ≡ false) × AreConcrete m os

each_concrete : (m : Metamodels) (os : List ObjectData) → ((i : ℕ) → i < length os → (class_at m (parts.object_data_at os i).class.0).is_abstract ≡ false) → AreConcrete m os
each_concrete m [] h = tt
each_concrete m (o ∷ os) h = (h 0 (omega arith), each_concrete m os (λ i l. h (suc i) (omega arith)))

-- the store with objects added has the same metamodels and extents
module _ (s : Contents) (e k : ℕ) (all : List ObjectData) (load : IsLoadable s e all) where
  can_add : (obs : List Instance) (os : List ObjectData) → AllByRecursion (IsObjectIn s.metas (extent_at s e).metamodel all) os → AreConcrete s.metas os → CanAdd (with_objects s obs) e os
  can_add obs [] h c = tt
  can_add obs (o ∷ os) h c = (record { extent = load.extent; live = here.class; metamodel = here.metamodel; concrete = c.0 }, can_add (with_new (with_objects s obs) o.class.0 e).objects os h.1 c.1)
    where
      here : IsObjectIn s.metas (extent_at s e).metamodel all o
      here = h.0

add_loading : (s : Contents) (e : ℕ) (os : List ObjectData) → CanAdd s e os → SoundButOpposites s → SoundButOpposites (objects_added s e os)
add_loading s e [] can sound = sound
add_loading s e (o ∷ os) can sound = add_loading (with_new s o.class.0 e) e os can.1 (add_keeps_loading s o.class.0 e can.0 sound)

module _ (s : Contents) (e : ℕ) (os : List ObjectData) (load : IsLoadable s e os) (well : IsWellFormed s.metas) (typed : AreTyped s) (acyclic : (x : ℕ) → Inside s.metas (slot_of s) x x → ⊥) (conforms : Conforms s.metas os) where
  abbrev m : Metamodels
  m = s.metas

  abbrev n : ℕ
  n = length s.objects

  abbrev k : ℕ
  k = (extent_at s e).metamodel

  abbrev fin : List Instance
  fin = final s e k os load.model

  pub adds : CanAdd s e os
  adds = can_add s e k os load s.objects os load.model.objects (each_concrete m os conforms.concrete)

  put : ObjectsPut s e k os load.model typed acyclic conforms n (s.objects ++ map (empty_of m e) os) os
  put = all_put s e k os load.model typed acyclic conforms

  -- in the store with the objects added
  pub puts : CanPutObjects (objects_added s e os).metas (objects_added s e os).extents n n (objects_added s e os).objects os
  puts = subst (λ (t : Contents). CanPutObjects t.metas t.extents n n t.objects os) (sym (added_is s e os)) put.can

  pub gives : with_objects (objects_added s e os) (put_objects (objects_added s e os).metas n n (objects_added s e os).objects os) ≡ loaded s e os
  unfolding loaded
  gives = ap (λ (t : Contents). with_objects t (put_objects t.metas n n t.objects os)) (added_is s e os) ∙ ap (λ (l : List Instance). with_objects s l) (put_is m well k e s.objects os load.model.objects)

  module _ (sound : Sound s) where
    agree : OppositesAgree m (slot_in m fin)
    agree = record {
      agree = λ x f y g o h. elim (cases_lt x n) [
        | inl l ↦
            let below : y < n = old_held s e k os load.model typed x f y l h in
            ap (λ t. has t x) (slot-old s e k os load.model y g below) ∙ sound.opposites.agree x f y g o (ap (λ t. has t y) (sym (slot-old s e k os load.model x f l)) ∙ h)
        | inr l ↦
            let a : (i : ℕ) × (x ≡ n + i) = beyond n x l in
            subst (λ z. has (slot_in m fin y g) z ≡ true) (sym a.1) (new a.0 f y g o (subst (λ z. has (slot_in m fin z f) y ≡ true) a.1 h))
      ];
    }
      where
        new : (i f y g : ℕ) → is_opposite m f g ≡ true → has (slot_in m fin (n + i) f) y ≡ true → has (slot_in m fin y g) (n + i) ≡ true
        new i f y g o h =
            let p : HeldItem n y (items_in f (parts.object_data_at os i).slots) = new_held s e k os load.model i f y h in
            subst (λ z. has (slot_in m fin z g) (n + i) ≡ true) (sym p.number)
            (ap (λ t. has t (n + i)) (slot-new s e k os load.model p.place g) ∙ has-shift n i (items_in g (parts.object_data_at os p.place).slots) ∙ conforms.opposites.agree i f p.place g o p.held)

    loading : SoundButOpposites (with_objects s fin)
    loading = subst (λ (l : List Instance). SoundButOpposites (with_objects s l)) (put_is m well k e s.objects os load.model.objects)
        (put.sound (subst SoundButOpposites (added_is s e os) (add_loading s e os adds sound.parts)))

    pub stays_sound : Sound (loaded s e os)
    unfolding loaded
    stays_sound = record { parts = loading; opposites = agree }
