-- The closure of a relation on numbers, and a test that computes it.
use Rattle.std.specs.Prelude.{ℕ, zero, suc, ◌<◌, Bool, false, ◌||◌, ◌&&◌, IsTrue}

-- one or more steps of the relation lead from x to y
pub data Closure (r : ℕ → ℕ → Type 0) : ℕ → ℕ → Type 0 where
  directly : {x y : ℕ} → r x y → Closure r x y
  through : {x y z : ℕ} → r x y → Closure r y z → Closure r x z

-- whether some number below n passes
abbrev pub any_below : ℕ → (ℕ → Bool) → Bool
any_below zero p = false
any_below (suc n) p = p n || any_below n p

-- whether steps lead from x to y, through numbers below k alone
unfoldable pub reaches_by : (ℕ → ℕ → Bool) → ℕ → ℕ → ℕ → Bool
reaches_by step zero x y = step x y
reaches_by step (suc k) x y = reaches_by step k x y || (reaches_by step k x k && reaches_by step k k y)

-- the test tells exactly where the relation holds
pub record Decides (step : ℕ → ℕ → Bool) (r : ℕ → ℕ → Type 0) : Type 0 where
  pub sound : (x y : ℕ) → IsTrue (step x y) → r x y
  pub complete : (x y : ℕ) → r x y → IsTrue (step x y)

-- steps begin below n alone
pub record IsBelow (n : ℕ) (r : ℕ → ℕ → Type 0) : Type 0 where
  pub starts : (x y : ℕ) → r x y → x < n
