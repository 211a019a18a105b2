-- The cells of a store and the slots that they stand for.
use Rattle.std.proofs.Common.{◌≡◌, ◌≢◌, ℕ, zero, suc, ◌<◌, ◌≤◌, true, false, ◌&&◌, ◌==◌, cond, inl, inr, refl, sym, ap, ◌∙◌, subst, List, [], ◌∷◌, map, length, get_or, set, arith}
use Rattle.std.specs.Prelude.{slice_index_or, Option, Some, None, nat_lt, IfSome}
use Rattle.std.proofs.lemmas.Bool.{ltb-true, cases_eq, eq-eqb, ne_eqb}
use Rattle.std.proofs.lemmas.List.{get_or-set_same, get_or-set_other, length-set}
use Rattle.qvt_value.specs.declared.value.Value.{Value}
use Rattle.qvt_metas.specs.Metamodels.{Metamodels, features_of, has_feature, is_containment}
use Rattle.qvt_slots.specs.declared.cell.Holder.{Holder}
use Rattle.qvt_slots.specs.declared.cell.Cell.{Cell}
use Rattle.qvt_slots.specs.declared.extent.Extent.{Extent}
use Rattle.qvt_slots.specs.Slots.{has}
use Rattle.qvt_slots.specs.Contents.{Contents, Instance, no_instance, list_of, slot_in, set_slot}
use Rattle.qvt_slots.specs.Cells.{instance_of, instances, contents_of, instance_in, holder_at, AreHolders, HaveSlots, IsPlaceOf, with_list, IsPut}
use Rattle.qvt_slots.proofs.Lists.{any_default, past_end}
use Rattle.qvt_slots.proofs.Places.{list_of-place, set_list-place, list_of-other, list_of-absent, list_of-nil}

pub length-instances : (cells : List Cell) → length (instances cells) ≡ length cells
length-instances [] = refl
length-instances (cell ∷ cells) = ap suc (length-instances cells)

pub length-holders : (cells : List Cell) → length (map (λ (c : Cell). c.holder) cells) ≡ length cells
length-holders [] = refl
length-holders (cell ∷ cells) = ap suc (length-holders cells)

pub cell-instance : (cells : List Cell) (x : ℕ) (cell : Cell) (d : Instance) → x < length cells → cell ≡ get_or cells x cell → slice_index_or (instances cells) x d ≡ instance_of cell
cell-instance [] x cell d h e = absurd (omega arith)
cell-instance (k ∷ cells) zero cell d h e = ap instance_of (sym e)
cell-instance (k ∷ cells) (suc x) cell d h e = cell-instance cells x cell d (omega arith) e

pub cell-holder : (cells : List Cell) (x : ℕ) (cell : Cell) → x < length cells → cell ≡ get_or cells x cell → holder_at cells x ≡ cell.holder
cell-holder [] x cell h e = absurd (omega arith)
cell-holder (k ∷ cells) zero cell h e = ap (λ (c : Cell). c.holder) (sym e)
cell-holder (k ∷ cells) (suc x) cell h e = cell-holder cells x cell (omega arith) e

pub cell-slots : (m : Metamodels) (cells : List Cell) (x : ℕ) (cell : Cell) → x < length cells → cell ≡ get_or cells x cell → HaveSlots m cells → length cell.slots.items ≡ length (features_of m cell.class.0)
cell-slots m cells x cell h e have' =
    subst (λ (ob : Instance). length ob.slots ≡ length (features_of m ob.class)) (cell-instance cells x cell no_instance h e) (have'.slots x h)

pub slot-cell : (m : Metamodels) (cells : List Cell) (x f : ℕ) (cell : Cell) (i : ℕ) (list : List Value) → x < length cells → cell ≡ get_or cells x cell → HaveSlots m cells →
    IsPlaceOf (features_of m cell.class.0) f i → list ≡ get_or cell.slots.items i list → list ≡ slot_in m (instances cells) x f
slot-cell m cells x f cell i list h e have' at is =
    let n : length cell.slots.items ≡ length (features_of m cell.class.0) = cell-slots m cells x cell h e have' in
    let w : i < length (features_of m cell.class.0) = at.within in
    is ∙ any_default cell.slots.items i list [] (omega arith)
    ∙ sym (list_of-place (features_of m cell.class.0) cell.slots.items f i n at)
    ∙ ap (λ (ob : Instance). list_of (features_of m ob.class) ob.slots f) (sym (cell-instance cells x cell no_instance h e))

pub live_cell : (s : Contents) (m : Metamodels) (extents : List Extent) (cells : List Cell) (x : ℕ) → contents_of m extents cells ≡ s → nat_lt x (length s.objects) ≡ true → x < length cells
live_cell s m extents cells x e live =
    let h : x < length s.objects = ltb-true x (length s.objects) live in
    let n : length (instances cells) ≡ length s.objects = ap (λ (t : Contents). length t.objects) e in
    let l : length (instances cells) ≡ length cells = length-instances cells in omega arith

pub instances-set : (cells : List Cell) (o : ℕ) (k : Cell) → instances (set cells o k) ≡ set (instances cells) o (instance_of k)
instances-set [] o k = refl
instances-set (cell ∷ cells) zero k = refl
instances-set (cell ∷ cells) (suc o) k = ap (λ t. instance_of cell ∷ t) (instances-set cells o k)

pub holders-set : (cells : List Cell) (o : ℕ) (k : Cell) → map (λ (c : Cell). c.holder) (set cells o k) ≡ set (map (λ (c : Cell). c.holder) cells) o k.holder
holders-set [] o k = refl
holders-set (cell ∷ cells) zero k = refl
holders-set (cell ∷ cells) (suc o) k = ap (λ t. cell.holder ∷ t) (holders-set cells o k)

module _ (m : Metamodels) (cells : List Cell) (o p i : ℕ) (vs : List Value) (cell k : Cell) (live : o < length cells) (is : cell ≡ get_or cells o cell)
    (have' : HaveSlots m cells) (at : IsPlaceOf (features_of m cell.class.0) p i)
    (same_class : k.class.0 ≡ cell.class.0) (same_extent : k.extent ≡ cell.extent) (same_holder : k.holder ≡ cell.holder) (items : k.slots.items ≡ set cell.slots.items i vs) where
  there : o < length (instances cells)
  there = subst (λ n. o < n) (sym (length-instances cells)) live

  at_same : instance_in (set cells o k) o ≡ instance_of k
  at_same = ap (λ l. get_or l o no_instance) (instances-set cells o k) ∙ get_or-set_same (instances cells) o (instance_of k) no_instance there

  at_other : (x : ℕ) → x ≢ o → instance_in (set cells o k) x ≡ instance_in cells x
  at_other x n = ap (λ l. get_or l x no_instance) (instances-set cells o k) ∙ get_or-set_other (instances cells) o x (instance_of k) no_instance n

  was : instance_in cells o ≡ instance_of cell
  was = cell-instance cells o cell no_instance live is

  kept_field : {A : Type 0} (field : Instance → A) → field (instance_of k) ≡ field (instance_of cell) → (x : ℕ) → field (instance_in (set cells o k) x) ≡ field (instance_in cells x)
  kept_field field same x = elim (cases_eq x o) [
    | inl e ↦ subst (λ n. field (instance_in (set cells o k) n) ≡ field (instance_in cells n)) (sym e) (ap field at_same ∙ same ∙ sym (ap field was))
    | inr n ↦ ap field (at_other x n)
  ]

  old_length : length cell.slots.items ≡ length (features_of m cell.class.0)
  old_length = cell-slots m cells o cell live is have'

  new_slots : HaveSlots m (set cells o k)
  new_slots = record {
    slots = λ x h. elim (cases_eq x o) [
      | inl e ↦ subst (λ n. length (instance_in (set cells o k) n).slots ≡ length (features_of m (instance_in (set cells o k) n).class)) (sym e)
          (ap (λ (ob : Instance). length ob.slots) at_same ∙ ap length items ∙ length-set cell.slots.items i vs ∙ old_length ∙ sym (ap (λ n. length (features_of m n)) same_class) ∙ sym (ap (λ (ob : Instance). length (features_of m ob.class)) at_same))
      | inr n ↦ ap (λ (ob : Instance). length ob.slots) (at_other x n) ∙ have'.slots x (subst (λ l. x < l) (length-set cells o k) h) ∙ sym (ap (λ (ob : Instance). length (features_of m ob.class)) (at_other x n))
    ];
  }

  slot_there : (f : ℕ) → slot_in m (instances (set cells o k)) o f ≡ with_list (slot_in m (instances cells)) o p vs o f
  slot_there f =
      ap (λ (ob : Instance). list_of (features_of m ob.class) ob.slots f) at_same
      ∙ ap (λ n. list_of (features_of m n) k.slots.items f) same_class
      ∙ ap (λ l. list_of (features_of m cell.class.0) l f) items
      ∙ elim (cases_eq f p) [
        | inl e ↦ subst (λ n. list_of (features_of m cell.class.0) (set cell.slots.items i vs) n ≡ with_list (slot_in m (instances cells)) o p vs o n) (sym e) (
            list_of-place (features_of m cell.class.0) (set cell.slots.items i vs) p i (length-set cell.slots.items i vs ∙ old_length) at
            ∙ get_or-set_same cell.slots.items i vs [] (let w : i < length (features_of m cell.class.0) = at.within in let l : length cell.slots.items ≡ length (features_of m cell.class.0) = old_length in omega arith)
            ∙ sym (ap (λ b. cond (b && (p == p)) vs (slot_in m (instances cells) o p)) (eq-eqb o o refl) ∙ ap (λ b. cond b vs (slot_in m (instances cells) o p)) (eq-eqb p p refl)))
        | inr n ↦
            list_of-other (features_of m cell.class.0) cell.slots.items p i f vs old_length at n
            ∙ ap (λ (ob : Instance). list_of (features_of m ob.class) ob.slots f) (sym was)
            ∙ sym (ap (λ b. cond (b && (f == p)) vs (slot_in m (instances cells) o f)) (eq-eqb o o refl) ∙ ap (λ b. cond b vs (slot_in m (instances cells) o f)) (ne_eqb f p n))
      ]

  same_instance : (a b : Instance) → a.class ≡ b.class → a.extent ≡ b.extent → a.slots ≡ b.slots → a ≡ b
  same_instance a b q r t = λ j. record { class = q j; extent = r j; slots = t j }

  set_there : instance_of k ≡ set_slot (features_of m (instance_in cells o).class) (instance_in cells o) p vs
  set_there = same_instance (instance_of k) (set_slot (features_of m (instance_of cell).class) (instance_of cell) p vs) same_class same_extent
      (items ∙ sym (set_list-place (features_of m cell.class.0) cell.slots.items p i vs old_length at))
      ∙ ap (λ (ob : Instance). set_slot (features_of m ob.class) ob p vs) (sym was)

  pub put_is : IsPut m cells (set cells o k) o p vs
  put_is = record {
    objects = record {
      same_length = length-set cells o k;
      classes = kept_field (λ ob. ob.class) same_class;
      extents = kept_field (λ ob. ob.extent) same_extent;
      have_slots = new_slots;
    };
    holders = λ y. ap (λ l. slice_index_or l y None) (holders-set cells o k) ∙ elim (cases_eq y o) [
      | inl e ↦ subst (λ n. slice_index_or (set (map (λ (c : Cell). c.holder) cells) o k.holder) n None ≡ holder_at cells n) (sym e)
          (get_or-set_same (map (λ (c : Cell). c.holder) cells) o k.holder None (subst (λ n. o < n) (sym (length-holders cells)) live) ∙ same_holder ∙ sym (cell-holder cells o cell live is))
      | inr n ↦ get_or-set_other (map (λ (c : Cell). c.holder) cells) o y k.holder None n
    ];
    slots = λ x f. elim (cases_eq x o) [
      | inl e ↦ subst (λ n. slot_in m (instances (set cells o k)) n f ≡ with_list (slot_in m (instances cells)) o p vs n f) (sym e) (slot_there f)
      | inr n ↦ ap (λ (ob : Instance). list_of (features_of m ob.class) ob.slots f) (at_other x n)
          ∙ sym (ap (λ b. cond (b && (f == p)) vs (slot_in m (instances cells) x f)) (ne_eqb x o n))
    ];
    whole = instances-set cells o k ∙ ap (set (instances cells) o) set_there;
  }

pub empty_slot : (m : Metamodels) (cells : List Cell) (x f : ℕ) (cell : Cell) → x < length cells → cell ≡ get_or cells x cell → has_feature m cell.class.0 f ≡ false → slot_in m (instances cells) x f ≡ []
empty_slot m cells x f cell h e none =
    ap (λ (ob : Instance). list_of (features_of m ob.class) ob.slots f) (cell-instance cells x cell no_instance h e) ∙ list_of-absent (features_of m cell.class.0) cell.slots.items f none

pub dead_slot : (m : Metamodels) (cells : List Cell) (x f : ℕ) → length cells ≤ x → slot_in m (instances cells) x f ≡ []
dead_slot m cells x f dead =
    ap (λ (ob : Instance). list_of (features_of m ob.class) ob.slots f) (past_end (instances cells) x no_instance (subst (λ n. n ≤ x) (sym (length-instances cells)) dead)) ∙ list_of-nil (features_of m 0) f

pub holder_some : (m : Metamodels) (cells : List Cell) (x : ℕ) (cell : Cell) → x < length cells → cell ≡ get_or cells x cell → AreHolders m cells →
    IfSome cell.holder (λ h. (is_containment m h.feature.0 ≡ true) × (has (slot_in m (instances cells) h.object.0 h.feature.0) x ≡ true))
holder_some m cells x cell h e are = go cell.holder (cell-holder cells x cell h e)
  where
    go : (o : Option Holder) → holder_at cells x ≡ o → IfSome o (λ k. (is_containment m k.feature.0 ≡ true) × (has (slot_in m (instances cells) k.object.0 k.feature.0) x ≡ true))
    go None e' = tt
    go (Some k) e' = are.contains k x e'

pub no_holder : (cells : List Cell) (x : ℕ) → length cells ≤ x → holder_at cells x ≡ None
no_holder [] x h = refl
no_holder (cell ∷ cells) zero h = absurd (omega arith)
no_holder (cell ∷ cells) (suc x) h = no_holder cells x (omega arith)
