-- The walk along containers ends, and meets each object around the one that it starts from.
use Rattle.std.proofs.Common.{◌≡◌, ℕ, zero, suc, ◌+◌, ◌<◌, ◌≤◌, Bool, true, false, cond, inl, inr, refl, sym, ap, ◌∙◌, subst, List, length, arith}
use Rattle.std.specs.Prelude.{Some, None}
use Rattle.std.proofs.lemmas.Bool.{cases_lt, cases_eq}
use Rattle.qvt_base.specs.declared.numbers.Oid.{Oid}
use Rattle.qvt_metas.specs.Metamodels.{Metamodels, is_containment}
use Rattle.qvt_relation.specs.Closure.{reaches_by}
use Rattle.qvt_relation.proofs.Bools.{either, clash}
use Rattle.qvt_relation.proofs.Closures.{reaches-step, reaches-join, reaches-closure}
use Rattle.qvt_slots.specs.declared.cell.Holder.{Holder}
use Rattle.qvt_slots.specs.declared.cell.Cell.{Cell}
use Rattle.qvt_slots.specs.Slots.{Slots, has, Contains, Inside, directly, through}
use Rattle.qvt_slots.specs.Change.{among_objects}
use Rattle.qvt_slots.specs.Contents.{slot_in}
use Rattle.qvt_slots.specs.Assign.{is_in}
use Rattle.qvt_slots.specs.Cells.{instances, holder_at, holder_in, AreWhole}
use Rattle.qvt_slots.specs.Walk.{IsOver, SomeOver, count_below, depth}
use Rattle.qvt_slots.proofs.Cells.{dead_slot}
use Rattle.qvt_slots.proofs.Cyclic.{decides, contains-is_in, closure-inside}

-- the container of the last step
pub last_step : (m : Metamodels) (s : Slots) {y z : ℕ} → Inside m s y z → (c : ℕ) × Contains m s c z × IsOver m s y c
last_step m s (directly {x} {y} k) = (x, k, inl refl)
last_step m s (through {x} {y} {z} k i) =
    let r : (c : ℕ) × Contains m s c z × IsOver m s y c = last_step m s i in (
      r.0,
      r.1,
      elim r.2 [
        | inl same ↦ inr (directly (subst (λ n. Contains m s x n) same k))
        | inr more ↦ inr (through k more)
      ],
    )

pub inside_directly : (m : Metamodels) (s : Slots) (x y z : ℕ) → Contains m s x y → IsOver m s y z → Inside m s x z
inside_directly m s x y z k over = elim over [
  | inl same ↦ directly (subst (λ n. Contains m s x n) same k)
  | inr more ↦ through k more
]

pub in_live : (m : Metamodels) (cells : List Cell) (x f y : ℕ) → has (slot_in m (instances cells) x f) y ≡ true → x < length cells
in_live m cells x f y h = elim (cases_lt x (length cells)) [
  | inl live ↦ live
  | inr dead ↦ clash false (sym (ap (λ l. has l y) (dead_slot m cells x f dead)) ∙ h) refl
]

pub count-le : (n : ℕ) (p q : ℕ → Bool) → ((y : ℕ) → p y ≡ true → q y ≡ true) → count_below n p ≤ count_below n q
count-le zero p q h = omega arith
count-le (suc n) p q h = go (p n) refl (q n) refl (count-le n p q h)
  where
    go : (a : Bool) → p n ≡ a → (b : Bool) → q n ≡ b → count_below n p ≤ count_below n q → cond a 1 0 + count_below n p ≤ cond b 1 0 + count_below n q
    go true e true k ih = omega arith
    go true e false k ih = clash _ (h n e) k
    go false e true k ih = omega arith
    go false e false k ih = omega arith

suc_le : (a b : Bool) (i j : ℕ) → a ≡ false → b ≡ true → i ≤ j → cond a 1 0 + i < cond b 1 0 + j
suc_le true b i j e k h = cc
suc_le false true i j e k h = omega arith
suc_le false false i j e k h = cc

lt_le : (a b : Bool) (i j : ℕ) → (a ≡ true → b ≡ true) → i < j → cond a 1 0 + i < cond b 1 0 + j
lt_le true true i j k h = omega arith
lt_le true false i j k h = clash false (k refl) refl
lt_le false true i j k h = omega arith
lt_le false false i j k h = omega arith

pub count-lt : (n : ℕ) (p q : ℕ → Bool) (z : ℕ) → ((y : ℕ) → p y ≡ true → q y ≡ true) → z < n → p z ≡ false → q z ≡ true → count_below n p < count_below n q
count-lt zero p q z h l pz qz = absurd (omega arith)
count-lt (suc n) p q z h l pz qz = elim (cases_eq z n) [
  | inl same ↦
      let pn : p n ≡ false = subst (λ i. p i ≡ false) same pz in
      let qn : q n ≡ true = subst (λ i. q i ≡ true) same qz in
      let below : count_below n p ≤ count_below n q = count-le n p q h in
      suc_le (p n) (q n) (count_below n p) (count_below n q) pn qn below
  | inr other ↦
      lt_le (p n) (q n) (count_below n p) (count_below n q) (h n) (count-lt n p q z h (omega arith) pz qz)
]

-- what the walk keeps
pub record Walked (m : Metamodels) (cells : List Cell) (objects : List Oid) (start at : ℕ) : Type 0 where
  pub live : at < length cells
  pub reached : IsOver m (slot_in m (instances cells)) at start
  pub passed : (y : ℕ) → among_objects objects y ≡ true → IsOver m (slot_in m (instances cells)) y start → IsOver m (slot_in m (instances cells)) y at

module _ (m : Metamodels) (cells : List Cell) (whole : AreWhole m cells) where
  abbrev s : Slots
  s = slot_in m (instances cells)

  container : (at : ℕ) (h : Holder) → holder_at cells at ≡ Some h → Contains m s h.object.0 at
  container at h e = let r : (is_containment m h.feature.0 ≡ true) × (has (s h.object.0 h.feature.0) at ≡ true) = whole.holders.contains h at e in
      record { feature = h.feature.0; containment = r.0; held = r.1 }

  container_live : (at : ℕ) (h : Holder) → holder_at cells at ≡ Some h → h.object.0 < length cells
  container_live at h e = in_live m cells h.object.0 h.feature.0 at (whole.holders.contains h at e).1

  only_container : (at c : ℕ) (h : Holder) → holder_at cells at ≡ Some h → Contains m s c at → c ≡ h.object.0
  only_container at c h e k =
      let e' : holder_at cells at ≡ Some (holder_in c k.feature) = whole.holders.held c k.feature at k.containment k.held in
      let same : ◌≡◌ {A = Holder} (holder_in c k.feature) h = cc in
      ap (λ (g : Holder). g.object.0) same

  at_top : (y at : ℕ) → holder_at cells at ≡ None → Inside m s y at → ⊥
  at_top y at e i =
      let r : (c : ℕ) × Contains m s c at × IsOver m s y c = last_step m s i in
      let k : Contains m s r.0 at = r.1 in
      let e' : holder_at cells at ≡ Some (holder_in r.0 k.feature) = whole.holders.held r.0 k.feature at k.containment k.held in
      cc

  over_next : (y at : ℕ) (h : Holder) → holder_at cells at ≡ Some h → Inside m s y at → IsOver m s y h.object.0
  over_next y at h e i =
      let r : (c : ℕ) × Contains m s c at × IsOver m s y c = last_step m s i in
      subst (λ n. IsOver m s y n) (only_container at r.0 h e r.1) r.2

  pub depth_falls : (at : ℕ) (h : Holder) → holder_at cells at ≡ Some h → depth m s (length cells) h.object.0 < depth m s (length cells) at
  unfolding depth
  depth_falls at h e =
      let k : Contains m s h.object.0 at = container at h e in
      let step : is_in m s h.object.0 at ≡ true = contains-is_in m s h.object.0 at k in
      let n = length cells in
      count-lt n (λ y. reaches_by (is_in m s) n y h.object.0) (λ y. reaches_by (is_in m s) n y at) h.object.0
      (λ y r. reaches-join (is_in m s) n y h.object.0 at (container_live at h e) r (reaches-step (is_in m s) n h.object.0 at step))
      (container_live at h e)
      (elim (either (reaches_by (is_in m s) n h.object.0 h.object.0)) [
        | inl loop ↦ absurd (whole.acyclic h.object.0 (closure-inside m s (reaches-closure (is_in m s) (Contains m s) (decides m s) n h.object.0 h.object.0 loop)))
        | inr no' ↦ no'
      ])
      (reaches-step (is_in m s) n h.object.0 at step)

  pub walk_starts : (objects : List Oid) (start : ℕ) → start < length cells → Walked m cells objects start start
  walk_starts objects start live = record { live = live; reached = inl refl; passed = λ y _ over. over }

  pub walk_goes_on : (objects : List Oid) (start at : ℕ) (h : Holder) → Walked m cells objects start at → among_objects objects at ≡ false → holder_at cells at ≡ Some h → Walked m cells objects start h.object.0
  walk_goes_on objects start at h w free e = record {
    live = container_live at h e;
    reached = inr (inside_directly m s h.object.0 at start (container at h e) w.reached);
    passed = λ y listed over. elim (w.passed y listed over) [
      | inl same ↦ clash _ listed (subst (λ n. among_objects objects n ≡ false) (sym same) free)
      | inr more ↦ over_next y at h e more
    ];
  }

  pub walk_finds : (objects : List Oid) (start at : ℕ) → Walked m cells objects start at → among_objects objects at ≡ true → SomeOver m s objects start
  walk_finds objects start at w listed = record { object = at; listed = listed; over = w.reached }

  pub walk_ends : (objects : List Oid) (start at : ℕ) → Walked m cells objects start at → among_objects objects at ≡ false → holder_at cells at ≡ None → SomeOver m s objects start → ⊥
  walk_ends objects start at w free e some = elim (w.passed some.object some.listed some.over) [
    | inl same ↦ clash _ some.listed (subst (λ n. among_objects objects n ≡ false) (sym same) free)
    | inr more ↦ at_top some.object at e more
  ]
