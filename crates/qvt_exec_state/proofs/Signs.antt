-- The first byte of a name.
use Rattle.std.proofs.Common.{◌≡◌, ◌==◌, ℕ, List, [], ◌∷◌, get_or, refl}
use Rattle.qvt_run_rules.specs.Locals.{begins_with_sign}

pub first_is_sign : (name : List ℕ) → begins_with_sign name ≡ (get_or name 0 0 == 35)
first_is_sign [] = refl
first_is_sign (c ∷ cs) = refl
