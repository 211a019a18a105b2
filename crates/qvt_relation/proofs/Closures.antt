-- The test of the closure tells exactly where the closure holds.
use Rattle.std.proofs.Common.{◌≡◌, ℕ, zero, suc, ◌<◌, Bool, true, inl, inr, ◌↔◌, subst, arith}
use Rattle.std.proofs.lemmas.Bool.{cases_eq}
use Rattle.qvt_relation.proofs.Bools.{and_left, and_right, and_both, or_cases, or_left, or_right}
use Rattle.qvt_relation.specs.Closure.{Closure, directly, through, any_below, reaches_by, Decides, IsBelow}

pub any_below-at : (n : ℕ) (p : ℕ → Bool) (k : ℕ) → k < n → p k ≡ true → any_below n p ≡ true
any_below-at zero p k h t = absurd (omega arith)
any_below-at (suc n) p k h t = elim (cases_eq k n) [
  | inl same ↦ or_left (p n) _ (subst (λ i. p i ≡ true) same t)
  | inr other ↦ or_right (p n) _ (any_below-at n p k (omega arith) t)
]

pub any_below-some : (n : ℕ) (p : ℕ → Bool) → any_below n p ≡ true → (k : ℕ) × (k < n) × (p k ≡ true)
any_below-some zero p h = cc
any_below-some (suc n) p h = elim (or_cases (p n) (any_below n p) h) [
  | inl at ↦ (n, omega arith, at)
  | inr below ↦ let r : (k : ℕ) × (k < n) × (p k ≡ true) = any_below-some n p below in (r.0, omega arith, r.2)
]

pub join : (r : ℕ → ℕ → Type 0) {x y z : ℕ} → Closure r x y → Closure r y z → Closure r x z
join r (directly s) q = through s q
join r (through s p) q = through s (join r p q)

pub first_step : (r : ℕ → ℕ → Type 0) {x y : ℕ} → Closure r x y → (z : ℕ) × r x z
first_step r (directly {x} {y} h) = (y, h)
first_step r (through {x} {y} {z} h p) = (y, h)

pub reaches-step : (step : ℕ → ℕ → Bool) (k x y : ℕ) → step x y ≡ true → reaches_by step k x y ≡ true
unfolding reaches_by
reaches-step step zero x y h = h
reaches-step step (suc k) x y h = or_left _ _ (reaches-step step k x y h)

pub reaches-join : (step : ℕ → ℕ → Bool) (k x y z : ℕ) → y < k → reaches_by step k x y ≡ true → reaches_by step k y z ≡ true → reaches_by step k x z ≡ true
unfolding reaches_by
reaches-join step zero x y z h p q = absurd (omega arith)
reaches-join step (suc k) x y z h p q = elim (cases_eq y k) [
  | inl same ↦
      let p' : reaches_by step (suc k) x k ≡ true = subst (λ i. reaches_by step (suc k) x i ≡ true) same p in
      let q' : reaches_by step (suc k) k z ≡ true = subst (λ i. reaches_by step (suc k) i z ≡ true) same q in
      or_right (reaches_by step k x z) _ (and_both _ _ (to_last p') (from_last q'))
  | inr other ↦ elim (or_cases (reaches_by step k x y) _ p) [
    | inl p1 ↦ elim (or_cases (reaches_by step k y z) _ q) [
      | inl q1 ↦ or_left _ _ (reaches-join step k x y z (omega arith) p1 q1)
      | inr q2 ↦ or_right (reaches_by step k x z) _ (and_both _ _ (reaches-join step k x y k (omega arith) p1 (and_left _ _ q2)) (and_right (reaches_by step k y k) _ q2))
    ]
    | inr p2 ↦ elim (or_cases (reaches_by step k y z) _ q) [
      | inl q1 ↦ or_right (reaches_by step k x z) _ (and_both _ _ (and_left _ _ p2) (reaches-join step k k y z (omega arith) (and_right (reaches_by step k x k) _ p2) q1))
      | inr q2 ↦ or_right (reaches_by step k x z) _ (and_both _ _ (and_left _ _ p2) (and_right (reaches_by step k y k) _ q2))
    ]
  ]
]
  where
    to_last : reaches_by step (suc k) x k ≡ true → reaches_by step k x k ≡ true
    to_last e = elim (or_cases (reaches_by step k x k) _ e) [ inl a ↦ a | inr b ↦ and_left _ _ b ]

    from_last : reaches_by step (suc k) k z ≡ true → reaches_by step k k z ≡ true
    from_last e = elim (or_cases (reaches_by step k k z) _ e) [ inl a ↦ a | inr b ↦ and_right (reaches_by step k k k) _ b ]

pub reaches-closure : (step : ℕ → ℕ → Bool) (r : ℕ → ℕ → Type 0) → Decides step r → (k x y : ℕ) → reaches_by step k x y ≡ true → Closure r x y
unfolding reaches_by
reaches-closure step r decides zero x y h = directly (decides.sound x y h)
reaches-closure step r decides (suc k) x y h = elim (or_cases (reaches_by step k x y) _ h) [
  | inl a ↦ reaches-closure step r decides k x y a
  | inr b ↦ join r (reaches-closure step r decides k x k (and_left _ _ b)) (reaches-closure step r decides k k y (and_right (reaches_by step k x k) _ b))
]

pub closure-reaches : (step : ℕ → ℕ → Bool) (r : ℕ → ℕ → Type 0) → Decides step r → (n : ℕ) → IsBelow n r → {x y : ℕ} → Closure r x y → reaches_by step n x y ≡ true
closure-reaches step r decides n below (directly {x} {y} h) = reaches-step step n x y (decides.complete x y h)
closure-reaches step r decides n below (through {x} {y} {z} h p) =
    let next : (w : ℕ) × r y w = first_step r p in
    reaches-join step n x y z (below.starts y next.0 next.1) (reaches-step step n x y (decides.complete x y h)) (closure-reaches step r decides n below p)

pub reaches_is_closure : (step : ℕ → ℕ → Bool) (r : ℕ → ℕ → Type 0) → Decides step r → (n : ℕ) → IsBelow n r → (x y : ℕ) → (reaches_by step n x y ≡ true) ↔ Closure r x y
reaches_is_closure step r decides n below x y = (reaches-closure step r decides n x y, λ p. closure-reaches step r decides n below p)
