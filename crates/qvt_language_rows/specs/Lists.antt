-- What holds of each of a list, and of what may be missing.
use Rattle.std.specs.Prelude.{List, [], ◌∷◌, Option, Some, None}

abbrev pub AllOf : {A : Type 0} → (A → Type 0) → List A → Type 0
AllOf p [] = Unit {0}
AllOf p (a ∷ more) = p a × AllOf p more

abbrev pub IfThere : {A : Type 0} → (A → Type 0) → Option A → Type 0
IfThere p None = Unit {0}
IfThere p (Some a) = p a
