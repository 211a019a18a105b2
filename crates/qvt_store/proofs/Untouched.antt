-- A slot that no rule names has the list that it had.
use Rattle.std.proofs.Common.{◌≡◌, ℕ, true, false, refl, ap, ◌∙◌, subst, List, []}
use Rattle.std.proofs.lemmas.List.Elements.{All-nil}
use Rattle.qvt_metamodel.specs.Metamodels.{is_opposite, is_containment}
use Rattle.qvt_metamodel.specs.WellFormed.{IsWellFormed}
use Rattle.qvt_relation.proofs.Bools.{clash}
use Rattle.qvt_slots.specs.declared.commit.Write.{Write}
use Rattle.qvt_slots.specs.Slots.{Slots, has}
use Rattle.qvt_slots.specs.Change.{Change, is_here, keeps}
use Rattle.qvt_slots.specs.Contents.{Contents, is_slot, slot_of}
use Rattle.qvt_store.specs.Plan.{listed, IsRight, Plans, holding, opposed, IsOpposed, before, after, owner, IsRehoused, items, itself, IsPlan}
use Rattle.qvt_store_laws.proofs.Touched.{Touched, touched_itself, opposite_old, opposite_new, other_owner, old_container, old_container_end, own_container, own_container_end, untouched}

module _ (s : Contents) (c : Change) (metas : c.metas ≡ s.metas) (slots : c.slots ≡ slot_of s) (well : IsWellFormed c.metas) where
  same_meta : (f : ℕ) → is_containment c.metas f ≡ true → is_containment s.metas f ≡ true
  same_meta f = subst (λ m. is_containment m f ≡ true) metas

  same_held : (x f y : ℕ) → has (c.slots x f) y ≡ true → has (slot_of s x f) y ≡ true
  same_held x f y = subst (λ (t : Slots). has (t x f) y ≡ true) slots

  same_opposite : (f g : ℕ) → is_opposite c.metas f g ≡ true → is_opposite s.metas f g ≡ true
  same_opposite f g = subst (λ m. is_opposite m f g ≡ true) metas

  pub plan_is : (b ws : List Write) → Plans s c [] b (IsOpposed s c) → Plans s c b ws (IsRehoused s c) → IsPlan s c ws
  plan_is b ws opp house = record {
    right = house.extends.right (opp.extends.right (All-nil (IsRight s c)));
    others = λ x f slot away unlisted. untouched c well x f (λ t. clash (listed ws x f) (touched x f slot away t) unlisted) ∙ ap (λ (t : Slots). t x f) slots;
  }
    where
      touched : (x f : ℕ) → is_slot s x f ≡ true → is_here c x f ≡ false → Touched c x f → listed ws x f ≡ true
      touched x f slot away (touched_itself at) = clash _ at away
      touched x f slot away (opposite_old o h) = house.extends.keeps x f (opp.there x f (before o h) slot away)
      touched x f slot away (opposite_new o h) = house.extends.keeps x f (opp.there x f (after o h) slot away)
      touched x f slot away (other_owner a' q o h k at) = house.extends.keeps x f (opp.there x f (owner q o (record { feature = at; owner = a'; is_listed = h; held = same_held a' q x k })) slot away)
      touched x f slot away (old_container y k h k' held) = house.there x f (items k (record { object = y; is_listed = h; around = holding (same_meta f k') (same_held x f y held) })) slot away
      touched x f slot away (old_container_end y g k h k' held o) = house.there x f (items k (record { object = x; is_listed = h; around = opposed y g refl (same_meta g k') (same_held y g x held) (same_opposite g f o) })) slot away
      touched x f slot away (own_container k k' held) = house.there x f (itself k (holding (same_meta f k') (same_held x f c.object held))) slot away
      touched x f slot away (own_container_end y g k at k' held o) = house.there x f (itself k (opposed y g at (same_meta g k') (subst (λ n. has (slot_of s y g) n ≡ true) at (same_held y g x held)) (same_opposite g f o))) slot away
