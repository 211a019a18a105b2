-- An object that stands once in all containment slots stands in one of them, once.
use Rattle.std.proofs.Common.{◌≡◌, ◌≢◌, ℕ, zero, suc, ◌+◌, ◌≤◌, Bool, true, false, ◌==◌, cond, inl, inr, refl, sym, ap, ◌∙◌, subst, List, [], ◌∷◌, ◌++◌, map, arith}
use Rattle.std.specs.Prelude.{slice_index_or}
use Rattle.std.specs.List.{list_any, AllByRecursion}
use Rattle.std.proofs.lemmas.Bool.{cases_eq}
use Rattle.std.proofs.lemmas.Bool.Decides.{Decides-eqb}
use Rattle.qvt_relation.proofs.Bools.{or_left, or_right, or_cases, clash}
use Rattle.qvt_metamodel.specs.Metamodels.{Metamodels, is_containment}
use Rattle.qvt_store.specs.Slots.{is_object, has}
use Rattle.qvt_value.specs.Kept.{is_same}
use Rattle.qvt_value.specs.Order.{order_of}
use Rattle.qvt_store.specs.Repeats.{repeats}
use Rattle.qvt_slots.proofs.Repeating.{any_same_object}
use Rattle.qvt_model.specs.declared.data.Datum.{Datum}
use Rattle.qvt_model.specs.declared.data.Datum.TheVariants.{Bool as BoolDatum, Int, Str, Literal, Ref}
use Rattle.qvt_model.specs.declared.data.SlotData.{SlotData}
use Rattle.qvt_cycle.specs.Successors.{among, how_often, how_often_in}
use Rattle.qvt_conform.specs.Containment.{refs_of, refs, contents_of_slot, contents_of_slots}
use Rattle.qvt_model.specs.Items.{items_in}
use Rattle.qvt_model.specs.Loaded.{value_at}

count-app : (y : ℕ) (xs ys : List ℕ) → how_often y (xs ++ ys) ≡ how_often y xs + how_often y ys
count-app y [] ys = let q : how_often y ys ≡ 0 + how_often y ys = omega arith in q
count-app y (x ∷ xs) ys = let r : how_often y (xs ++ ys) ≡ how_often y xs + how_often y ys = count-app y xs ys in go (cond (x == y) 1 0) r
  where
    go : (k : ℕ) → how_often y (xs ++ ys) ≡ how_often y xs + how_often y ys → k + how_often y (xs ++ ys) ≡ k + how_often y xs + how_often y ys
    go k r = omega arith

among_left : (xs ys : List ℕ) (y : ℕ) → among xs y ≡ true → among (xs ++ ys) y ≡ true
among_left [] ys y h = clash false h refl
among_left (x ∷ xs) ys y h = elim (or_cases (x == y) (among xs y) h) [ inl a ↦ or_left (x == y) _ a | inr a ↦ or_right (x == y) _ (among_left xs ys y a) ]

among_right : (xs ys : List ℕ) (y : ℕ) → among ys y ≡ true → among (xs ++ ys) y ≡ true
among_right [] ys y h = h
among_right (x ∷ xs) ys y h = or_right (x == y) _ (among_right xs ys y h)

counted : (xs : List ℕ) (y : ℕ) → among xs y ≡ true → 1 ≤ how_often y xs
counted [] y h = clash false h refl
counted (x ∷ xs) y h = elim (or_cases (x == y) (among xs y) h) [
  | inl a ↦ subst (λ b. 1 ≤ cond b 1 0 + how_often y xs) (sym a) (let q : 1 ≤ 1 + how_often y xs = omega arith in q)
  | inr a ↦ let r : 1 ≤ how_often y xs = counted xs y a in more (cond (x == y) 1 0) r
]
  where
    more : (k : ℕ) → 1 ≤ how_often y xs → 1 ≤ k + how_often y xs
    more k r = omega arith

-- ---- references of a slot

pub held_among : (xs : List Datum) (j : ℕ) → has (map (value_at 0) xs) j ≡ true → among (refs xs) j ≡ true
held_among [] j h = clash false h refl
held_among (x ∷ xs) j h = elim (or_cases (is_object j (value_at 0 x)) (has (map (value_at 0) xs) j) h) [
  | inl a ↦ among_left (refs_of x) (refs xs) j (at x a)
  | inr a ↦ among_right (refs_of x) (refs xs) j (held_among xs j a)
]
  where
    at : (x : Datum) → is_object j (value_at 0 x) ≡ true → among (refs_of x) j ≡ true
    at (BoolDatum a) h = clash false h refl
    at (Int a) h = clash false h refl
    at (Str a) h = clash false h refl
    at (Literal a) h = clash false h refl
    at (Ref i) h = or_left (i == j) false (ap (λ k. k == j) (let q : i ≡ 0 + i = omega arith in q) ∙ h)

-- ---- slots of an object

pub in_slots : (m : Metamodels) (ts : List SlotData) (f j : ℕ) → is_containment m f ≡ true → among (refs (items_in f ts)) j ≡ true → among (contents_of_slots m ts) j ≡ true
in_slots m [] f j c h = clash false h refl
in_slots m (t ∷ ts) f j c h = go (t.feature.0 == f) refl (in_slots m ts f j c) h
  where
    go : (b : Bool) → (t.feature.0 == f) ≡ b → (among (refs (items_in f ts)) j ≡ true → among (contents_of_slots m ts) j ≡ true) → among (refs (cond b t.items (items_in f ts))) j ≡ true → among (contents_of_slot m t ++ contents_of_slots m ts) j ≡ true
    go true e rest h = among_left (contents_of_slot m t) (contents_of_slots m ts) j
        (ap (λ b. among (cond b (refs t.items) []) j) (ap (is_containment m) ((Decides-eqb t.feature.0 f).0 e) ∙ c) ∙ h)
    go false e rest h = among_right (contents_of_slot m t) (contents_of_slots m ts) j (rest h)

count_slot : (m : Metamodels) (ts : List SlotData) (f j : ℕ) → is_containment m f ≡ true → how_often j (refs (items_in f ts)) ≤ how_often j (contents_of_slots m ts)
count_slot m [] f j c = omega arith
count_slot m (t ∷ ts) f j c = go (t.feature.0 == f) refl (count_slot m ts f j c)
  where
    joined : how_often j (contents_of_slot m t ++ contents_of_slots m ts) ≡ how_often j (contents_of_slot m t) + how_often j (contents_of_slots m ts)
    joined = count-app j (contents_of_slot m t) (contents_of_slots m ts)

    go : (b : Bool) → (t.feature.0 == f) ≡ b → how_often j (refs (items_in f ts)) ≤ how_often j (contents_of_slots m ts) → how_often j (refs (cond b t.items (items_in f ts))) ≤ how_often j (contents_of_slot m t ++ contents_of_slots m ts)
    go true e rest =
        let here : how_often j (contents_of_slot m t) ≡ how_often j (refs t.items) = ap (λ b. how_often j (cond b (refs t.items) [])) (ap (is_containment m) ((Decides-eqb t.feature.0 f).0 e) ∙ c) in
        let q = joined in omega (arith, here, q)
    go false e rest = let q = joined in omega (arith, rest, q)

pub two_slots : (m : Metamodels) (ts : List SlotData) (f g j : ℕ) → is_containment m f ≡ true → is_containment m g ≡ true → f ≢ g → among (refs (items_in f ts)) j ≡ true → among (refs (items_in g ts)) j ≡ true → 2 ≤ how_often j (contents_of_slots m ts)
two_slots m [] f g j c d n h k = clash false h refl
two_slots m (t ∷ ts) f g j c d n h k = go (t.feature.0 == f) refl (t.feature.0 == g) refl (two_slots m ts f g j c d n) h k
  where
    joined : how_often j (contents_of_slot m t ++ contents_of_slots m ts) ≡ how_often j (contents_of_slot m t) + how_often j (contents_of_slots m ts)
    joined = count-app j (contents_of_slot m t) (contents_of_slots m ts)

    one : (a : ℕ) → (t.feature.0 == a) ≡ true → is_containment m a ≡ true → among (refs t.items) j ≡ true → 1 ≤ how_often j (contents_of_slot m t)
    one a e c h = subst (λ b. 1 ≤ how_often j (cond b (refs t.items) [])) (sym (ap (is_containment m) ((Decides-eqb t.feature.0 a).0 e) ∙ c)) (counted (refs t.items) j h)

    rest : (a : ℕ) → is_containment m a ≡ true → among (refs (items_in a ts)) j ≡ true → 1 ≤ how_often j (contents_of_slots m ts)
    rest a c h = counted (contents_of_slots m ts) j (in_slots m ts a j c h)

    go : (b : Bool) → (t.feature.0 == f) ≡ b → (b' : Bool) → (t.feature.0 == g) ≡ b' →
        (among (refs (items_in f ts)) j ≡ true → among (refs (items_in g ts)) j ≡ true → 2 ≤ how_often j (contents_of_slots m ts)) → among (refs (cond b t.items (items_in f ts))) j ≡ true → among (refs (cond b' t.items (items_in g ts))) j ≡ true →
        2 ≤ how_often j (contents_of_slot m t ++ contents_of_slots m ts)
    go true e true e' both h k = absurd (n (sym ((Decides-eqb t.feature.0 f).0 e) ∙ (Decides-eqb t.feature.0 g).0 e'))
    go true e false e' both h k = let p = one f e c h in let r = rest g d k in let q = joined in omega (arith, p, r, q)
    go false e true e' both h k = let p = one g e' d k in let r = rest f c h in let q = joined in omega (arith, p, r, q)
    go false e false e' both h k = let r = both h k in let q = joined in omega (arith, r, q)

-- ---- objects of a model

in_lists : (lists : List (List ℕ)) (i y : ℕ) → how_often y (slice_index_or lists i []) ≤ how_often_in lists y
in_lists [] i y = omega arith
in_lists (l ∷ lists) zero y = let q : how_often y l ≤ how_often y l + how_often_in lists y = omega arith in q
in_lists (l ∷ lists) (suc i) y =
    let r : how_often y (slice_index_or lists i []) ≤ how_often_in lists y = in_lists lists i y in
    let q : how_often y (slice_index_or lists i []) ≤ how_often y l + how_often_in lists y = omega (arith, r) in q

in_two_lists : (lists : List (List ℕ)) (i k y : ℕ) → i ≢ k → 1 ≤ how_often y (slice_index_or lists i []) → 1 ≤ how_often y (slice_index_or lists k []) → 2 ≤ how_often_in lists y
in_two_lists [] i k y n h g = absurd (omega arith)
in_two_lists (l ∷ lists) zero zero y n h g = absurd (n refl)
in_two_lists (l ∷ lists) zero (suc k) y n h g =
    let r : how_often y (slice_index_or lists k []) ≤ how_often_in lists y = in_lists lists k y in
    let a : 1 ≤ how_often y l = h in
    let b : 1 ≤ how_often y (slice_index_or lists k []) = g in
    let q : 2 ≤ how_often y l + how_often_in lists y = omega (arith, r, a, b) in q
in_two_lists (l ∷ lists) (suc i) zero y n h g =
    let r : how_often y (slice_index_or lists i []) ≤ how_often_in lists y = in_lists lists i y in
    let a : 1 ≤ how_often y (slice_index_or lists i []) = h in
    let b : 1 ≤ how_often y l = g in
    let q : 2 ≤ how_often y l + how_often_in lists y = omega (arith, r, a, b) in q
in_two_lists (l ∷ lists) (suc i) (suc k) y n h g =
    let r : 2 ≤ how_often_in lists y = in_two_lists lists i k y (λ e. n (ap suc e)) h g in
    let q : 2 ≤ how_often y l + how_often_in lists y = omega (arith, r) in q

pub once_in_lists : (lists : List (List ℕ)) (i k y : ℕ) → how_often_in lists y ≤ 1 → among (slice_index_or lists i []) y ≡ true → among (slice_index_or lists k []) y ≡ true → i ≡ k
once_in_lists lists i k y few h g = elim (cases_eq i k) [
  | inl e ↦ e
  | inr n ↦ let r = in_two_lists lists i k y n (counted (slice_index_or lists i []) y h) (counted (slice_index_or lists k []) y g) in absurd (omega (arith, r, few))
]

pub at_most_here : (lists : List (List ℕ)) (i y : ℕ) → how_often_in lists y ≤ 1 → how_often y (slice_index_or lists i []) ≤ 1
at_most_here lists i y few = let r = in_lists lists i y in omega (arith, r, few)

-- ---- repeats

-- of items that are all references a repeat stands twice
pub record Twice (xs : List Datum) : Type 0 where
  pub place : ℕ
  pub held : has (map (value_at 0) xs) place ≡ true
  pub twice : 2 ≤ how_often place (refs xs)

AreRefs : List Datum → Type 0
AreRefs xs = AllByRecursion (λ x. (i : ℕ) × (x ≡ Ref i)) xs

same_has : (i : ℕ) (xs : List Datum) → list_any (is_same order_of (value_at 0 (Ref i))) (map (value_at 0) xs) ≡ has (map (value_at 0) xs) i
same_has i xs = any_same_object (record { 0 = 0 + i }) (map (value_at 0) xs) ∙ ap (has (map (value_at 0) xs)) (let q : 0 + i ≡ i = omega arith in q)

pub repeated_twice : (xs : List Datum) → AllByRecursion (λ x. (i : ℕ) × (x ≡ Ref i)) xs → repeats (map (value_at 0) xs) ≡ true → Twice xs
repeated_twice [] a h = clash false h refl
repeated_twice (x ∷ xs) a h = elim (or_cases (list_any (is_same order_of (value_at 0 x)) (map (value_at 0) xs)) (repeats (map (value_at 0) xs)) h) [
  | inl here ↦
      let i : ℕ = a.0.0 in
      let again : has (map (value_at 0) xs) i ≡ true = sym (same_has i xs) ∙ subst (λ y. list_any (is_same order_of (value_at 0 y)) (map (value_at 0) xs) ≡ true) a.0.1 here in
      let more : 1 ≤ how_often i (refs xs) = counted (refs xs) i (held_among xs i again) in
      record {
        place = i;
        held = or_right (is_object i (value_at 0 x)) _ again;
        twice = subst (λ y. 2 ≤ how_often i (refs_of y ++ refs xs)) (sym a.0.1) (subst (λ b. 2 ≤ cond b 1 0 + how_often i (refs xs)) (sym ((Decides-eqb i i).1 refl)) (let q : 2 ≤ 1 + how_often i (refs xs) = omega (arith, more) in q));
      }
  | inr rest ↦
      let r : Twice xs = repeated_twice xs a.1 rest in
      let q : how_often r.place (refs_of x ++ refs xs) ≡ how_often r.place (refs_of x) + how_often r.place (refs xs) = count-app r.place (refs_of x) (refs xs) in
      let t : 2 ≤ how_often r.place (refs xs) = r.twice in
      record { place = r.place; held = or_right (is_object r.place (value_at 0 x)) _ r.held; twice = omega (arith, q, t) }
]

pub slot_count : (m : Metamodels) (ts : List SlotData) (f j : ℕ) → is_containment m f ≡ true → how_often j (refs (items_in f ts)) ≤ how_often j (contents_of_slots m ts)
slot_count = count_slot
