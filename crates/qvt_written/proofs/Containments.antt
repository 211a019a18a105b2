-- Containment among the objects of data, where each holds what object `at i` of a store holds.
use Rattle.std.proofs.Common.{◌≡◌, ℕ, zero, suc, ◌+◌, ◌<◌, ◌≤◌, Bool, true, false, cond, inl, inr, refl, sym, ap, ◌∙◌, subst, List, [], ◌∷◌, ◌++◌, map, length, Equal, Greater, arith}
use Rattle.std.specs.Prelude.{slice_index_or}
use Rattle.std.specs.List.{AllByRecursion}
use Rattle.std.specs.Ordering.{nat_cmp}
use Rattle.std.specs.Cmp.Lexicographic.{slice_cmp}
use Rattle.std.proofs.lemmas.Bool.{cases_lt}
use Rattle.std.proofs.lemmas.Cmp.{nat_list_cmp_total, tied_itself}
use Rattle.qvt_relation.specs.Closure.{Closure}
use Rattle.qvt_relation.specs.Closure.Closure.{directly as one_step, through as more_steps}
use Rattle.qvt_relation.proofs.Bools.{either, clash, refuted}
use Rattle.qvt_relation.proofs.Closures.{reaches-closure}
use Rattle.qvt_cycle.specs.Successors.{among, leads, is_on_cycle, how_often, how_often_in}
use Rattle.qvt_cycle.proofs.Visits.{among-joined}
use Rattle.qvt_metamodel.specs.Metamodels.{Metamodels, feature_at, is_containment}
use Rattle.qvt_store.specs.Slots.{Slots, has, OneContainer, Contains, Inside, directly, through}
use Rattle.qvt_store.specs.Repeats.{repeats}
use Rattle.qvt_slots.proofs.Lists.{past_end}
use Rattle.qvt_model.specs.declared.data.SlotData.{SlotData}
use Rattle.qvt_model.specs.declared.data.ObjectData.{ObjectData}
use Rattle.qvt_model.specs.WellFormed.{object_data_at, no_object, ComeAfter, AreInNameOrder}
use Rattle.qvt_model.proofs.Lists.{All-both, index-map}
use Rattle.qvt_conform.specs.Containment.{refs, contents_of_slot, contents_of_slots, contents_of_object, contents}
use Rattle.qvt_written.proofs.Datums.{back, count-app, absent, held_there, once}

-- ---- lists of numbers

none_in : (lists : List (List ℕ)) (y : ℕ) → ((i : ℕ) → among (slice_index_or lists i []) y ≡ false) → how_often_in lists y ≡ 0
none_in [] y h = refl
none_in (l ∷ lists) y h =
    let here : how_often y l ≡ 0 = absent l y (h zero) in
    let rest : how_often_in lists y ≡ 0 = none_in lists y (λ i. h (suc i)) in
    let q : how_often y l + how_often_in lists y ≡ 0 = omega (arith, here, rest) in q

-- once in each, and in one of them alone
once_in : (lists : List (List ℕ)) (y : ℕ) → ((i : ℕ) → how_often y (slice_index_or lists i []) ≤ 1)
    → ((i k : ℕ) → among (slice_index_or lists i []) y ≡ true → among (slice_index_or lists k []) y ≡ true → i ≡ k) → how_often_in lists y ≤ 1
once_in [] y few one = omega arith
once_in (l ∷ lists) y few one =
    let here : how_often y l ≤ 1 = few zero in
    let rest : how_often_in lists y ≤ 1 = once_in lists y (λ i. few (suc i)) (λ i k a b. let same : suc i ≡ suc k = one (suc i) (suc k) a b in omega (arith, same)) in
    elim (either (among l y)) [
      | inl h ↦
          let none : how_often_in lists y ≡ 0 = none_in lists y (λ i. refuted (among (slice_index_or lists i []) y) (λ t. let same : zero ≡ suc i = one zero (suc i) h t in absurd (omega (arith, same)))) in
          let q : how_often y l + how_often_in lists y ≤ 1 = omega (arith, here, none) in q
      | inr n ↦
          let none : how_often y l ≡ 0 = absent l y n in
          let q : how_often y l + how_often_in lists y ≤ 1 = omega (arith, rest, none) in q
    ]

-- ---- slots

-- a containment slot, of which Q holds, that has object j
record Found (m : Metamodels) (Q : SlotData → Type 0) (j : ℕ) : Type 0 where
  slot : SlotData
  is : Q slot
  containment : is_containment m slot.feature.0 ≡ true
  holds : among (refs slot.items) j ≡ true

in_slot : (m : Metamodels) (t : SlotData) (j : ℕ) → among (contents_of_slot m t) j ≡ true → (is_containment m t.feature.0 ≡ true) × (among (refs t.items) j ≡ true)
in_slot m t j h = by (is_containment m t.feature.0) refl h
  where
    by : (b : Bool) → is_containment m t.feature.0 ≡ b → among (cond b (refs t.items) []) j ≡ true → (is_containment m t.feature.0 ≡ true) × (among (refs t.items) j ≡ true)
    by true e h = (e, h)
    by false e h = clash false h refl

find_slot : (m : Metamodels) (Q : SlotData → Type 0) (ts : List SlotData) (j : ℕ) → AllByRecursion Q ts → among (contents_of_slots m ts) j ≡ true → Found m Q j
find_slot m Q [] j a h = clash false h refl
find_slot m Q (t ∷ ts) j a h = elim (among-joined (contents_of_slot m t) (contents_of_slots m ts) j h) [
  | inl here ↦ let p = in_slot m t j here in record { slot = t; is = a.0; containment = p.0; holds = p.1 }
  | inr later ↦ find_slot m Q ts j a.1 later
]

abbrev IsLater : Metamodels → List ℕ → SlotData → Type 0
IsLater m name t = slice_cmp nat_cmp (feature_at m t.feature.0).name name ≡ Greater

all_later : (m : Metamodels) (name : List ℕ) (ts : List SlotData) → ComeAfter m name ts → AllByRecursion (IsLater m name) ts
all_later m name [] h = tt
all_later m name (t ∷ ts) h = (h.0, all_later m name ts h.1)

module _ (m : Metamodels) (held : Slots) (at : ℕ → ℕ) (unique : (x f : ℕ) → is_containment m f ≡ true → repeats (held x f) ≡ false) (containers : OneContainer m held) where
  abbrev pub IsOf : ℕ → SlotData → Type 0
  IsOf x t = map (back at) t.items ≡ held x t.feature.0

  at_holder : (x : ℕ) (t : SlotData) (j : ℕ) → IsOf x t → among (refs t.items) j ≡ true → has (held x t.feature.0) (at j) ≡ true
  at_holder x t j is h = subst (λ l. has l (at j) ≡ true) is (held_there at t.items j h)

  once_slot : (x : ℕ) (t : SlotData) (j : ℕ) → IsOf x t → how_often j (contents_of_slot m t) ≤ 1
  once_slot x t j is = by (is_containment m t.feature.0) refl
    where
      by : (b : Bool) → is_containment m t.feature.0 ≡ b → how_often j (cond b (refs t.items) []) ≤ 1
      by true e = once at t.items j (ap repeats is ∙ unique x t.feature.0 e)
      by false e = let q : 0 ≤ 1 = omega arith in q

  not_both : (x : ℕ) (t : SlotData) (ts : List SlotData) (j : ℕ) → IsOf x t → AllByRecursion (IsOf x) ts → ComeAfter m (feature_at m t.feature.0).name ts
      → among (contents_of_slot m t) j ≡ true → among (contents_of_slots m ts) j ≡ true → ⊥
  not_both x t ts j is all after h later =
      let name : List ℕ = (feature_at m t.feature.0).name in
      let p = in_slot m t j h in
      let other : Found m (λ u. IsOf x u × IsLater m name u) j = find_slot m (λ u. IsOf x u × IsLater m name u) ts j
      (All-both (IsOf x) (IsLater m name) (λ u. IsOf x u × IsLater m name u) (λ u a b. (a, b)) ts all (all_later m name ts after)) later in
      let same = containers.one x t.feature.0 x other.slot.feature.0 (at j) p.0 other.containment (at_holder x t j is p.1) (at_holder x other.slot j other.is.0 other.holds) in
      let greater : slice_cmp nat_cmp name name ≡ Greater = subst (λ f. slice_cmp nat_cmp (feature_at m f).name name ≡ Greater) (sym same.1) other.is.1 in
      let never : Equal ≡ Greater = sym (tied_itself nat_list_cmp_total name) ∙ greater in
      cc

  once_slots : (x : ℕ) (ts : List SlotData) (j : ℕ) → AllByRecursion (IsOf x) ts → AreInNameOrder m ts → how_often j (contents_of_slots m ts) ≤ 1
  once_slots x [] j all order = omega arith
  once_slots x (t ∷ ts) j all order =
      let joined : how_often j (contents_of_slot m t ++ contents_of_slots m ts) ≡ how_often j (contents_of_slot m t) + how_often j (contents_of_slots m ts) = count-app j (contents_of_slot m t) (contents_of_slots m ts) in
      let here : how_often j (contents_of_slot m t) ≤ 1 = once_slot x t j all.0 in
      let rest : how_often j (contents_of_slots m ts) ≤ 1 = once_slots x ts j all.1 order.1 in
      elim (either (among (contents_of_slot m t) j)) [
        | inl h ↦
            let none : how_often j (contents_of_slots m ts) ≡ 0 = absent (contents_of_slots m ts) j (refuted (among (contents_of_slots m ts) j) (not_both x t ts j all.0 all.1 order.0 h)) in
            let q : how_often j (contents_of_slot m t ++ contents_of_slots m ts) ≤ 1 = omega (arith, joined, here, none) in q
        | inr n ↦
            let none : how_often j (contents_of_slot m t) ≡ 0 = absent (contents_of_slot m t) j n in
            let q : how_often j (contents_of_slot m t ++ contents_of_slots m ts) ≤ 1 = omega (arith, joined, rest, none) in q
      ]

  -- ---- objects

  module _ (os : List ObjectData) (all : (i : ℕ) → i < length os → AllByRecursion (IsOf (at i)) (object_data_at os i).slots) (order : (i : ℕ) → i < length os → AreInNameOrder m (object_data_at os i).slots)
      (apart : (i k : ℕ) → i < length os → k < length os → at i ≡ at k → i ≡ k) where
    lists_at : (i : ℕ) → slice_index_or (contents m os) i [] ≡ contents_of_object m (object_data_at os i)
    lists_at i = index-map (contents_of_object m) os i no_object

    below : (i j : ℕ) → among (slice_index_or (contents m os) i []) j ≡ true → i < length os
    below i j h = elim (cases_lt i (length os)) [
      | inl l ↦ l
      | inr l ↦ clash (among (slice_index_or (contents m os) i []) j) h (ap (λ l. among l j) (lists_at i) ∙ ap (λ (o : ObjectData). among (contents_of_object m o) j) (past_end os i no_object l))
    ]

    holder : (i j : ℕ) → among (slice_index_or (contents m os) i []) j ≡ true → Found m (IsOf (at i)) j
    holder i j h = find_slot m (IsOf (at i)) (object_data_at os i).slots j (all i (below i j h)) (sym (ap (λ l. among l j) (lists_at i)) ∙ h)

    few : (j i : ℕ) → how_often j (slice_index_or (contents m os) i []) ≤ 1
    few j i = subst (λ l. how_often j l ≤ 1) (sym (lists_at i)) (elim (cases_lt i (length os)) [
      | inl l ↦ once_slots (at i) (object_data_at os i).slots j (all i l) (order i l)
      | inr l ↦ subst (λ (o : ObjectData). how_often j (contents_of_object m o) ≤ 1) (sym (past_end os i no_object l)) (let q : 0 ≤ 1 = omega arith in q)
    ])

    one : (j i k : ℕ) → among (slice_index_or (contents m os) i []) j ≡ true → among (slice_index_or (contents m os) k []) j ≡ true → i ≡ k
    one j i k h h' =
        let a = holder i j h in
        let b = holder k j h' in
        let same = containers.one (at i) a.slot.feature.0 (at k) b.slot.feature.0 (at j) a.containment b.containment (at_holder (at i) a.slot j a.is a.holds) (at_holder (at k) b.slot j b.is b.holds) in
        apart i k (below i j h) (below k j h') same.0

    -- an object stands in containment slots once at most
    pub alone : (j : ℕ) → how_often_in (contents m os) j ≤ 1
    alone j = once_in (contents m os) j (few j) (one j)

    contains : (i j : ℕ) → among (slice_index_or (contents m os) i []) j ≡ true → Contains m held (at i) (at j)
    contains i j h = let a = holder i j h in record { feature = a.slot.feature.0; containment = a.containment; held = at_holder (at i) a.slot j a.is a.holds }

    inside : {i j : ℕ} → Closure (λ u v. leads (contents m os) u v ≡ true) i j → Inside m held (at i) (at j)
    inside (one_step {x} {y} h) = directly (contains x y h)
    inside (more_steps {x} {y} {z} h p) = through (contains x y h) (inside p)

    -- and is not inside itself
    pub no_cycle : ((x : ℕ) → Inside m held x x → ⊥) → (i : ℕ) → is_on_cycle (contents m os) i ≡ false
    no_cycle outside i = refuted (is_on_cycle (contents m os) i) (λ t. outside (at i)
        (inside (reaches-closure (leads (contents m os)) (λ u v. leads (contents m os) u v ≡ true) (record { sound = λ u v h. h; complete = λ u v h. h }) (length (contents m os)) i i t)))
