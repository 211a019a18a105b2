-- Chains that give a value.
use Rattle.std.proofs.Common.{◌≡◌, refl, ap, Bool, true, false, if◌then◌else◌, Result, Ok, Err}
use Rattle.std.specs.Prelude.{IsOk}
use Rattle.qvt_base.specs.Outside.{Held}
use Rattle.qvt_outcome.specs.Chain.{FileReading, Chain, on_ok, ◌>=>◌}
use Rattle.qvt_outcome.specs.Outcome.{Outcome}
use Rattle.qvt_outcome.specs.Steps.{settled}

module _ {A E : Type 0} where
  pub no_value : (x : E) (y : A) → ¬ (◌≡◌ {A = Result A E} (Err x) (Ok y))
  no_value x y e = absurd (cc)

  pub one_value : (x y : A) → ◌≡◌ {A = Result A E} (Ok x) (Ok y) → x ≡ y
  one_value x y e = cc

  pub some_value : (r : Result A E) → IsOk r → (x : A) × (r ≡ Ok x)
  some_value (Ok x) h = (x, refl)
  some_value (Err e) h = absurd (cc)

module _ {A B : Type 0} where
  first_value : (r : Result A Outcome) (f : A → FileReading B) (y : B) → (on_ok r f).answer ≡ Ok y → (x : A) × ((r ≡ Ok x) × ((f x).answer ≡ Ok y))
  first_value (Ok x) f y e = (x, (refl, e))
  first_value (Err o) f y e = absurd (no_value o y e)

  -- the first of two chains has given a value, with which the second went on
  pub through : (c : Chain A) (f : A → Chain B) (held : Held) (y : B) → ((c >=> f) held).answer ≡ Ok y → (x : A) × (((c held).answer ≡ Ok x) × ((f x held).answer ≡ Ok y))
  through c f held y e = first_value (c held).answer (λ x. f x held) y e

  -- it gives one, and the second goes on
  pub goes_on : (c : Chain A) (f : A → Chain B) (held : Held) (x : A) → (c held).answer ≡ Ok x → ((c >=> f) held).answer ≡ (f x held).answer
  goes_on c f held x e = ap (λ r. (on_ok r (λ x. f x held)).answer) e

-- what is settled by a test
pub settled_by : (b : Bool) (x y : Outcome) → settled (if b then Err x else Ok y) ≡ (if b then x else y)
settled_by true x y = refl
settled_by false x y = refl
