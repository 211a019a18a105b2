-- Holders set one after another, and writes carried out one after another.
use Rattle.std.proofs.Common.{◌≡◌, ℕ, zero, suc, ◌+◌, ◌<◌, Bool, true, false, ◌||◌, ◌&&◌, ◌==◌, not, cond, inl, inr, refl, sym, ap, ◌∙◌, subst, List, [], ◌∷◌, ◌++◌, map, take, length, get_or, set, arith}
use Rattle.std.specs.Prelude.{Option, Some, None, slice_index_or}
use Rattle.std.proofs.lemmas.List.{take_more, get_or-set_same, get_or-set_other, set-get_or}
use Rattle.std.proofs.lemmas.Bool.{eq-eqb, ne_eqb, cases_eq}
use Rattle.qvt_base.specs.declared.numbers.Oid.{Oid}
use Rattle.qvt_value.specs.declared.value.Value.{Value}
use Rattle.qvt_metas.specs.Metamodels.{Metamodels, is_containment, features_of, has_feature}
use Rattle.qvt_relation.proofs.Bools.{or_left, or_right, or_false}
use Rattle.qvt_slots.specs.declared.cell.Holder.{Holder}
use Rattle.qvt_slots.specs.declared.cell.Cell.{Cell}
use Rattle.qvt_slots.specs.declared.commit.Write.{Write}
use Rattle.qvt_slots.specs.declared.draft.Draft.{Draft}
use Rattle.qvt_slots.specs.Slots.{Slots, has, is_object}
use Rattle.qvt_slots.specs.Change.{among_objects}
use Rattle.qvt_slots.specs.Contents.{Instance, no_instance, slot_in}
use Rattle.qvt_slots.specs.Cells.{instance_of, instances, holder_at, holder_in, HaveSlots, SameObjects, IsPut, with_list}
use Rattle.qvt_slots.specs.Writes.{IsWrite, written, AreWritten, IsHeld, AllLive, AreHeld, or_else, held_by, last_holder, AreHeldBy, held_here, AreHeldHere, IsSettled}
use Rattle.qvt_slots.proofs.Objects.{has-push}
use Rattle.qvt_slots.proofs.Cells.{length-instances, length-holders, cell-instance, instances-set, holders-set}

pub hold_is : (cells : List Cell) (y : ℕ) (cell k : Cell) → y < length cells → cell ≡ get_or cells y cell → instance_of k ≡ instance_of cell → IsHeld cells (set cells y k) y k.holder
hold_is cells y cell k live is same = record {
  objects = instances-set cells y k ∙ ap (set (instances cells) y) (same ∙ sym (cell-instance cells y cell no_instance live is)) ∙ set-get_or (instances cells) y no_instance;
  holders = λ z. ap (λ l. slice_index_or l z None) (holders-set cells y k) ∙ elim (cases_eq z y) [
    | inl e ↦ subst (λ n. slice_index_or (set (map (λ (c : Cell). c.holder) cells) y k.holder) n None ≡ cond (n == y) k.holder (holder_at cells n)) (sym e)
        (get_or-set_same (map (λ (c : Cell). c.holder) cells) y k.holder None (subst (λ n. y < n) (sym (length-holders cells)) live) ∙ sym (ap (λ b. cond b k.holder (holder_at cells y)) (eq-eqb y y refl)))
    | inr n ↦ get_or-set_other (map (λ (c : Cell). c.holder) cells) y z k.holder None n ∙ sym (ap (λ b. cond b k.holder (holder_at cells z)) (ne_eqb z y n))
  ];
}

pub same_count : (old new : List Cell) → instances new ≡ instances old → length new ≡ length old
same_count old new e = sym (length-instances new) ∙ ap length e ∙ length-instances old

eqb-sym : (a b : ℕ) → (a == b) ≡ (b == a)
eqb-sym a b = elim (cases_eq a b) [
  | inl e ↦ eq-eqb a b e ∙ sym (eq-eqb b a (sym e))
  | inr n ↦ ne_eqb a b n ∙ sym (ne_eqb b a (λ e. n (sym e)))
]

pub held_none : (cells : List Cell) (test : ℕ → Bool) (holder : Option Holder) → ((z : ℕ) → test z ≡ false) → AreHeld cells cells test holder
held_none cells test holder none = record { objects = refl; holders = λ z. sym (ap (λ b. cond b holder (holder_at cells z)) (none z)) }

pub held_object : (old new : List Cell) (child : ℕ) (test : ℕ → Bool) (holder : Option Holder) → ((z : ℕ) → test z ≡ (child == z)) → IsHeld old new child holder → AreHeld old new test holder
held_object old new child test holder are is = record {
  objects = is.objects;
  holders = λ z. is.holders z ∙ ap (λ b. cond b holder (holder_at old z)) (eqb-sym z child ∙ sym (are z));
}

-- after some objects and then some more
pub held_both : (old now next : List Cell) (p q r : ℕ → Bool) (holder : Option Holder) → ((z : ℕ) → r z ≡ (p z || q z)) → AreHeld old now p holder → AreHeld now next q holder → AreHeld old next r holder
held_both old now next p q r holder are so step = record {
  objects = step.objects ∙ so.objects;
  holders = λ z. step.holders z
      ∙ go (q z) (p z) (holder_at old z) (holder_at now z) (so.holders z)
      ∙ ap (λ b. cond b holder (holder_at old z)) (sym (are z));
}
  where
    go : (b e : Bool) (o n : Option Holder) → n ≡ cond e holder o → cond b holder n ≡ cond (e || b) holder o
    go true true o n k = refl
    go true false o n k = refl
    go false true o n k = k
    go false false o n k = k

pub among-push : (os : List Oid) (o : Oid) (z : ℕ) → among_objects (os ++ o ∷ []) z ≡ (among_objects os z || (o.0 == z))
among-push [] o z = or_false (o.0 == z)
among-push (p ∷ os) o z = elim (p.0 == z) as (λ b. (b || among_objects (os ++ o ∷ []) z) ≡ ((b || among_objects os z) || (o.0 == z))) [ true ↦ refl | false ↦ among-push os o z ]

pub among-more : (os : List Oid) (i : ℕ) (d : Oid) (z : ℕ) → i < length os → among_objects (take (i + 1) os) z ≡ (among_objects (take i os) z || ((get_or os i d).0 == z))
among-more os i d z h = ap (λ l. among_objects l z) (take_more os i d h) ∙ among-push (take i os) (get_or os i d) z

pub has-more : (vs : List Value) (i : ℕ) (d : Value) (z : ℕ) → i < length vs → has (take (i + 1) vs) z ≡ (has (take i vs) z || has (get_or vs i d ∷ []) z)
has-more vs i d z h = ap (λ l. has l z) (take_more vs i d h) ∙ has-push (take i vs) (get_or vs i d) z ∙ ap (λ b. has (take i vs) z || b) (sym (or_false (is_object z (get_or vs i d))))

pub in_among : (os : List Oid) (i : ℕ) (d : Oid) → i < length os → among_objects os (get_or os i d).0 ≡ true
in_among [] i d h = absurd (omega arith)
in_among (o ∷ os) zero d h = or_left _ _ (eq-eqb o.0 o.0 refl)
in_among (o ∷ os) (suc i) d h = or_right (o.0 == (get_or os i d).0) _ (in_among os i d (omega arith))

pub in_has : (vs : List Value) (i : ℕ) (d : Value) (y : ℕ) → i < length vs → is_object y (get_or vs i d) ≡ true → has vs y ≡ true
in_has [] i d y h k = absurd (omega arith)
in_has (v ∷ vs) zero d y h k = or_left _ _ k
in_has (v ∷ vs) (suc i) d y h k = or_right (is_object y v) _ (in_has vs i d y (omega arith) k)

pub live_same : (old now : List Cell) (test : ℕ → Bool) → instances now ≡ instances old → AllLive old test → AllLive now test
live_same old now test e live = record { live = λ y h. subst (λ n. y < n) (sym (same_count old now e)) (live.live y h) }

pub one_live : (old now : List Cell) (vs : List Value) (i : ℕ) (d : Value) → i < length vs → AllLive old (has vs) → instances now ≡ instances old → AllLive now (has (get_or vs i d ∷ []))
one_live old now vs i d h live e = record { live = λ y k. subst (λ n. y < n) (sym (same_count old now e)) (live.live y (in_has vs i d y h (sym (or_false (is_object y (get_or vs i d))) ∙ k))) }

pub held_of-push : (m : Metamodels) (ws : List Write) (w : Write) (z : ℕ) → last_holder m (ws ++ w ∷ []) z ≡ or_else (held_by m w z) (last_holder m ws z)
held_of-push m [] w z = go (held_by m w z)
  where
    go : (a : Option Holder) → or_else None a ≡ or_else a None
    go None = refl
    go (Some h) = refl
held_of-push m (v ∷ ws) w z = ap (λ o. or_else o (held_by m v z)) (held_of-push m ws w z) ∙ assoc (held_by m w z) (last_holder m ws z) (held_by m v z)
  where
    assoc : (a b d : Option Holder) → or_else (or_else a b) d ≡ or_else a (or_else b d)
    assoc None b d = refl
    assoc (Some h) b d = refl

pub by_none : (m : Metamodels) (cells : List Cell) → AreHeldBy m cells cells []
by_none m cells = record { objects = refl; holders = λ z. refl }

pub by_plain : (m : Metamodels) (cells : List Cell) (w : Write) → is_containment m w.feature.0 ≡ false → AreHeldBy m cells cells (w ∷ [])
by_plain m cells w k = record { objects = refl; holders = λ z. ap (λ b. or_else (or_else None (cond (b && has w.items z) (Some (holder_in w.object.0 w.feature.0)) None)) (holder_at cells z)) (sym k) }

pub by_contained : (m : Metamodels) (old new : List Cell) (w : Write) → is_containment m w.feature.0 ≡ true → AreHeld old new (has w.items) (Some (holder_in w.object.0 w.feature.0)) → AreHeldBy m old new (w ∷ [])
by_contained m old new w k is = record {
  objects = is.objects;
  holders = λ z. is.holders z ∙ go (has w.items z) (holder_in w.object.0 w.feature.0) (holder_at old z)
      ∙ ap (λ b. or_else (or_else None (cond (b && has w.items z) (Some (holder_in w.object.0 w.feature.0)) None)) (holder_at old z)) (sym k);
}
  where
    go : (b : Bool) (h : Holder) (o : Option Holder) → cond b (Some h) o ≡ or_else (or_else None (cond b (Some h) None)) o
    go true h o = refl
    go false h o = refl

pub by_more : (m : Metamodels) (old now next : List Cell) (ws : List Write) (w : Write) → AreHeldBy m old now ws → AreHeldBy m now next (w ∷ []) → AreHeldBy m old next (ws ++ w ∷ [])
by_more m old now next ws w so step = record {
  objects = step.objects ∙ so.objects;
  holders = λ z. step.holders z ∙ ap (λ o. or_else (or_else None (held_by m w z)) o) (so.holders z)
      ∙ assoc (held_by m w z) (last_holder m ws z) (holder_at old z)
      ∙ sym (ap (λ o. or_else o (holder_at old z)) (held_of-push m ws w z));
}
  where
    assoc : (a b d : Option Holder) → or_else (or_else None a) (or_else b d) ≡ or_else (or_else a b) d
    assoc None b d = refl
    assoc (Some h) b d = refl

pub have_same : (m : Metamodels) (old now : List Cell) → instances now ≡ instances old → HaveSlots m old → HaveSlots m now
have_same m old now e have' = record {
  slots = λ x h.
      subst (λ (l : List Instance). length (slice_index_or l x no_instance).slots ≡ length (features_of m (slice_index_or l x no_instance).class)) (sym e)
      (have'.slots x (subst (λ n. x < n) (same_count old now e) h));
}

pub write_same : (m : Metamodels) (old now : List Cell) (w : Write) → instances now ≡ instances old → IsWrite m old w → IsWrite m now w
write_same m old now w e is = record {
  live = subst (λ n. w.object.0 < n) (sym (same_count old now e)) is.live;
  there = subst (λ (l : List Instance). has_feature m (slice_index_or l w.object.0 no_instance).class w.feature.0 ≡ true) (sym e) is.there;
}

with_same : (s t : Slots) (o p : ℕ) (vs : List Value) → ((x f : ℕ) → s x f ≡ t x f) → (x f : ℕ) → with_list s o p vs x f ≡ with_list t o p vs x f
with_same s t o p vs same x f = ap (λ l. cond ((x == o) && (f == p)) vs l) (same x f)

pub written-push : (ws : List Write) (w : Write) (s : Slots) → written (ws ++ w ∷ []) s ≡ with_list (written ws s) w.object.0 w.feature.0 w.items
written-push [] w s = refl
written-push (v ∷ ws) w s = written-push ws w (with_list s v.object.0 v.feature.0 v.items)

pub written_none : (m : Metamodels) (cells : List Cell) → HaveSlots m cells → AreWritten m cells cells []
written_none m cells have' = record {
  objects = record { same_length = refl; classes = λ x. refl; extents = λ x. refl; have_slots = have' };
  holders = λ y. refl;
  slots = λ x f. refl;
}

pub written_more : (m : Metamodels) (old now next : List Cell) (ws : List Write) (w : Write) → AreWritten m old now ws → IsPut m now next w.object.0 w.feature.0 w.items → AreWritten m old next (ws ++ w ∷ [])
written_more m old now next ws w so step =
    let a : SameObjects m old now = so.objects in
    let b : SameObjects m now next = step.objects in
    record {
      objects = record {
        same_length = b.same_length ∙ a.same_length;
        classes = λ x. b.classes x ∙ a.classes x;
        extents = λ x. b.extents x ∙ a.extents x;
        have_slots = b.have_slots;
      };
      holders = λ y. step.holders y ∙ so.holders y;
      slots = λ x f. step.slots x f
          ∙ with_same (slot_in m (instances now)) (written ws (slot_in m (instances old))) w.object.0 w.feature.0 w.items so.slots x f
          ∙ sym (ap (λ (s : Slots). s x f) (written-push ws w (slot_in m (instances old))));
    }

-- a write of the old cells is one of the new
pub still_write : (m : Metamodels) (old now : List Cell) (w : Write) → SameObjects m old now → IsWrite m old w → IsWrite m now w
still_write m old now w same is = record {
  live = subst (λ n. w.object.0 < n) (sym same.same_length) is.live;
  there = subst (λ n. has_feature m n w.feature.0 ≡ true) (sym (same.classes w.object.0)) is.there;
}

pub not_false : (a : Bool) → not a ≡ false → a ≡ true
not_false true h = refl
not_false false h = cc

pub here_plain : (m : Metamodels) (d : Draft) (cells : List Cell) → is_containment m d.feature.0 ≡ false → AreHeldHere m d cells cells
here_plain m d cells k = record { objects = refl; holders = λ z. ap (λ b. or_else (cond (b && among_objects d.added z) (Some (holder_in d.object.0 d.feature.0)) None) (holder_at cells z)) (sym k) }

pub here_contained : (m : Metamodels) (d : Draft) (old new : List Cell) → is_containment m d.feature.0 ≡ true → AreHeld old new (among_objects d.added) (Some (holder_in d.object.0 d.feature.0)) → AreHeldHere m d old new
here_contained m d old new k is = record {
  objects = is.objects;
  holders = λ z. is.holders z ∙ go (among_objects d.added z) (holder_in d.object.0 d.feature.0) (holder_at old z)
      ∙ ap (λ b. or_else (cond (b && among_objects d.added z) (Some (holder_in d.object.0 d.feature.0)) None) (holder_at old z)) (sym k);
}
  where
    go : (b : Bool) (h : Holder) (o : Option Holder) → cond b (Some h) o ≡ or_else (cond b (Some h) None) o
    go true h o = refl
    go false h o = refl

pub settled : (m : Metamodels) (d : Draft) (old one two three new : List Cell) (ws : List Write) (released : List Oid) →
    AreHeld old one (among_objects released) None → AreHeldHere m d one two → AreHeldBy m two three ws → AreWritten m three new ws → IsSettled m d old new ws released
settled m d old one two three new ws released a h b w =
    let e : instances three ≡ instances old = b.objects ∙ h.objects ∙ a.objects in
    let o : SameObjects m three new = w.objects in
    record {
      objects = record {
        same_length = o.same_length ∙ same_count old three e;
        classes = λ x. o.classes x ∙ ap (λ (l : List Instance). (slice_index_or l x no_instance).class) e;
        extents = λ x. o.extents x ∙ ap (λ (l : List Instance). (slice_index_or l x no_instance).extent) e;
        have_slots = o.have_slots;
      };
      slots = λ x f. w.slots x f ∙ ap (λ (l : List Instance). written ws (slot_in m l) x f) e;
      holders = λ z. w.holders z ∙ b.holders z ∙ ap (λ t. or_else (last_holder m ws z) t) (h.holders z ∙ ap (λ t. or_else (held_here m d z) t) (a.holders z));
    }
