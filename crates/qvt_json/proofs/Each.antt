-- A loop that walks a list and ends at the first fault: what it has built stands before what is left.
use Rattle.std.proofs.Common.{◌≡◌, List, [], ◌∷◌, ◌++◌, Option, Some, None, Result, Ok, Err, refl, ap, append_assoc}
use Rattle.std.specs.Prelude.{option_map}
use Rattle.std.proofs.lemmas.List.{append-nil}
use Rattle.qvt_results.specs.Bind.{◌>>=◌}

-- what was built, and what is still to be walked
abbrev pub with_front : {X F : Type 0} → List X → Result (List X) F → Result (List X) F
with_front front (Ok xs) = Ok (front ++ xs)
with_front front (Err e) = Err e

pub front_next : {X F : Type 0} (front : List X) (x : X) (left : Result (List X) F) → with_front (front ++ x ∷ []) left ≡ with_front front (left >>= λ xs. Ok (x ∷ xs))
front_next front x (Ok xs) = ap Ok (append_assoc front (x ∷ []) xs)
front_next front x (Err e) = refl

pub front_none : {X F : Type 0} (front : List X) → with_front {F = F} front (Ok []) ≡ Ok front
front_none front = ap Ok (append-nil front)

-- the same where there are all or none
abbrev pub with_all : {X : Type 0} → List X → Option (List X) → Option (List X)
with_all front (Some xs) = Some (front ++ xs)
with_all front None = None

pub all_next : {X : Type 0} (front : List X) (x : X) (left : Option (List X)) → with_all (front ++ x ∷ []) left ≡ with_all front (option_map (λ xs. x ∷ xs) left)
all_next front x (Some xs) = ap Some (append_assoc front (x ∷ []) xs)
all_next front x None = refl

pub all_none : {X : Type 0} (front : List X) → with_all front (Some []) ≡ Some front
all_none front = ap Some (append-nil front)
