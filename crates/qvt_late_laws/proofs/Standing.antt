-- A change of another slot leaves a slot whose feature has no opposite and is no containment.
use Rattle.std.proofs.Common.{◌≡◌, ℕ, true, false, cond, sym, ap, ◌∙◌, subst, List, [], arith}
use Rattle.std.specs.Prelude.{None}
use Rattle.std.proofs.lemmas.Bool.{ltb-true}
use Rattle.qvt_value.specs.declared.value.Value.{Value}
use Rattle.qvt_metamodel.specs.Metamodels.{features_of, has_feature, is_containment, is_feature_number, is_opposite, opposite}
use Rattle.qvt_metamodel.specs.WellFormed.{IsWellFormed}
use Rattle.qvt_relation.proofs.Bools.{and_both, and_left, and_right, clash}
use Rattle.qvt_slots.specs.Change.{Change, is_here, slot_after, slot_elsewhere}
use Rattle.qvt_slots.specs.Contents.{Contents, Instance, class_of, is_live, is_slot, list_of, no_instance, slot_of}
use Rattle.qvt_slots.specs.Assign.{change_to, store_after}
use Rattle.qvt_store_laws.specs.Stay.{StaysIn}
use Rattle.qvt_store_laws.proofs.After.{instance-after, list_of-map}
use Rattle.qvt_store_laws.proofs.Stays.{stays_after}
use Rattle.qvt_store_laws.proofs.Touched.{Touched, touched_itself, opposite_old, opposite_new, other_owner, old_container, old_container_end, own_container, own_container_end, untouched}

module _ (c : Change) (well : IsWellFormed c.metas) (x f : ℕ) (alone : opposite c.metas f ≡ None) (plain : is_containment c.metas f ≡ false) (elsewhere : is_here c x f ≡ false) where
  not_opposite : (g : ℕ) → is_opposite c.metas f g ≡ false
  not_opposite g = ap (λ q. is_feature_number q g) alone

  not_end : (g : ℕ) → is_opposite c.metas g f ≡ true → ⊥
  not_end g h = clash (is_opposite c.metas f g) (well.mutual_opposites g f h) (not_opposite g)

  never : Touched c x f → ⊥
  never (touched_itself at) = clash (is_here c x f) at elsewhere
  never (opposite_old opp h) = not_end c.feature opp
  never (opposite_new opp h) = not_end c.feature opp
  never (other_owner a q opp h held at) = clash (is_opposite c.metas f q) (subst (λ n. is_opposite c.metas n q ≡ true) (sym at) opp) (not_opposite q)
  never (old_container a k h k' held) = clash (is_containment c.metas f) k' plain
  never (old_container_end y g k h k' held opp) = not_end g opp
  never (own_container k k' held) = clash (is_containment c.metas f) k' plain
  never (own_container_end y g k at k' held opp) = not_end g opp

  pub stays_alone : slot_elsewhere c x f ≡ c.slots x f
  stays_alone = untouched c well x f never

-- the slots of the objects that are there
module _ (s : Contents) (c : Change) (x f : ℕ) (slot : is_slot s x f ≡ true) where
  live : is_live s x ≡ true
  live = and_left _ _ slot

  has : has_feature s.metas (class_of s x) f ≡ true
  has = and_right (is_live s x) _ slot

  pub still_slot : is_slot (store_after s c) x f ≡ true
  still_slot =
      let stays : StaysIn s (store_after s c) = stays_after s c in
      and_both _ _ (stays.live x live) (ap (λ k. has_feature s.metas k f) (stays.class x live) ∙ has)

module _ (s : Contents) (o p : ℕ) (ws : List Value) (x f : ℕ) (slot : is_slot s x f ≡ true) where
  abbrev c : Change
  c = change_to s o p ws

  pub slot_there : slot_of (store_after s c) x f ≡ slot_after c x f
  slot_there =
      ap (λ (ob : Instance). list_of (features_of s.metas ob.class) ob.slots f) (instance-after c s.objects 0 x x no_instance (omega arith) (ltb-true x _ (and_left _ _ slot)))
      ∙ list_of-map (features_of s.metas (class_of s x)) (slot_after c x) f
      ∙ ap (λ b. cond b (slot_after c x f) []) (and_right (is_live s x) _ slot)
