-- The test of the closure is the closure.
use Rattle.std.specs.Prelude.{ℕ, ◌<◌, Bool, IsTrue, ◌↔◌}
use Rattle.qvt_relation.specs.Closure.{Closure, reaches_by}

-- of a relation that is given by a test, and whose steps begin below n
abbrev pub ReachesIsClosure : Type 0
ReachesIsClosure = (step : ℕ → ℕ → Bool) (n : ℕ) → ((x y : ℕ) → IsTrue (step x y) → x < n) → (x y : ℕ) → IsTrue (reaches_by step n x y) ↔ Closure (λ u v. IsTrue (step u v)) x y
