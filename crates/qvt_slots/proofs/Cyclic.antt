-- The test for cycles of containment tells exactly whether an object is inside itself.
use Rattle.std.proofs.Common.{◌≡◌, ℕ, zero, suc, ◌<◌, true, false, ◌&&◌, refl, List, [], ◌∷◌, length, arith}
use Rattle.std.specs.Prelude.{slice_index_or}
use Rattle.qvt_relation.specs.Closure.{Closure, reaches_by, Decides, IsBelow}
use Rattle.qvt_relation.specs.Closure.Closure.{directly as one_step, through as more_steps}
use Rattle.qvt_relation.proofs.Bools.{and_left, and_right, and_both}
use Rattle.qvt_relation.proofs.Closures.{any_below-at, any_below-some, first_step, reaches-closure, closure-reaches}
use Rattle.qvt_metamodel.specs.declared.info.FeatureInfo.{FeatureInfo}
use Rattle.qvt_metas.specs.Metamodels.{Metamodels, is_containment}
use Rattle.qvt_slots.specs.Slots.{Slots, has, Contains, Inside, directly, through}
use Rattle.qvt_slots.specs.Assign.{is_in, is_cyclic}

-- containment is of the features that are there
pub is_there : (features : List FeatureInfo) (f : ℕ) (d : FeatureInfo) → d.shape.containment ≡ false → (slice_index_or features f d).shape.containment ≡ true → f < length features
is_there [] f d none h = cc
is_there (g ∷ gs) zero d none h = omega arith
is_there (g ∷ gs) (suc f) d none h = let ih : f < length gs = is_there gs f d none h in omega arith

pub contains-is_in : (m : Metamodels) (s : Slots) (x y : ℕ) → Contains m s x y → is_in m s x y ≡ true
contains-is_in m s x y k = any_below-at (length m.features) (λ f. is_containment m f && has (s x f) y) k.feature (is_there m.features k.feature _ refl k.containment) (and_both _ _ k.containment k.held)

pub is_in-contains : (m : Metamodels) (s : Slots) (x y : ℕ) → is_in m s x y ≡ true → Contains m s x y
is_in-contains m s x y h =
    let r : (f : ℕ) × (f < length m.features) × ((is_containment m f && has (s x f) y) ≡ true) = any_below-some (length m.features) (λ f. is_containment m f && has (s x f) y) h in
    record { feature = r.0; containment = and_left _ _ r.2; held = and_right (is_containment m r.0) _ r.2 }

pub decides : (m : Metamodels) (s : Slots) → Decides (is_in m s) (Contains m s)
decides m s = record { sound = is_in-contains m s; complete = contains-is_in m s }

pub inside-closure : (m : Metamodels) (s : Slots) {x y : ℕ} → Inside m s x y → Closure (Contains m s) x y
inside-closure m s (directly {x} {y} k) = one_step k
inside-closure m s (through {x} {y} {z} k i) = more_steps k (inside-closure m s i)

pub closure-inside : (m : Metamodels) (s : Slots) {x y : ℕ} → Closure (Contains m s) x y → Inside m s x y
closure-inside m s (one_step {x} {y} k) = directly k
closure-inside m s (more_steps {x} {y} {z} k i) = through k (closure-inside m s i)

-- the slots of the first n objects alone hold objects
pub record Bounded (s : Slots) (n : ℕ) : Type 0 where
  pub held : (x f y : ℕ) → has (s x f) y ≡ true → x < n

pub cyclic-inside : (m : Metamodels) (s : Slots) (n : ℕ) → is_cyclic m s n ≡ true → (x : ℕ) × (x < n) × Inside m s x x
cyclic-inside m s n h =
    let r : (x : ℕ) × (x < n) × (reaches_by (is_in m s) n x x ≡ true) = any_below-some n (λ x. reaches_by (is_in m s) n x x) h in
    (r.0, r.1, closure-inside m s (reaches-closure (is_in m s) (Contains m s) (decides m s) n r.0 r.0 r.2))

pub inside-cyclic : (m : Metamodels) (s : Slots) (n : ℕ) → Bounded s n → (x : ℕ) → Inside m s x x → is_cyclic m s n ≡ true
inside-cyclic m s n bound x i =
    let p : Closure (Contains m s) x x = inside-closure m s i in
    let below : IsBelow n (Contains m s) = record { starts = λ a b k. bound.held a k.feature b k.held } in
    let next : (w : ℕ) × Contains m s x w = first_step (Contains m s) p in
    any_below-at n (λ z. reaches_by (is_in m s) n z z) x (below.starts x next.0 next.1) (closure-reaches (is_in m s) (Contains m s) (decides m s) n below p)
