-- A number of a list that passes.
use Rattle.std.proofs.Common.{◌≡◌, ◌∙◌, ℕ, List, [], ◌∷◌, Bool, true, inl, inr, refl, sym, ap}
use Rattle.std.specs.List.{list_any}
use Rattle.qvt_metamodel.proofs.Bools.{or_left, or_right, or_cases}
use Rattle.qvt_types_choices.proofs.Lowest.{In}

pub some_is : {A : Type 0} (p : ℕ → Bool) (xs : List ℕ) → list_any p xs ≡ true → ((x : ℕ) → In x xs → p x ≡ true → A) → A
some_is p [] h go = absurd (cc)
some_is p (x ∷ xs) h go = elim (or_cases (p x) (list_any p xs) h) [
  | inl here ↦ go x (inl refl) here
  | inr rest ↦ some_is p xs rest (λ y i. go y (inr i))
]

pub is_some_of : (p : ℕ → Bool) (x : ℕ) (xs : List ℕ) → In x xs → p x ≡ true → list_any p xs ≡ true
is_some_of p x [] i h = absurd i
is_some_of p x (y ∷ ys) i h = elim i [
  | inl same ↦ or_left (p y) (list_any p ys) (ap p (sym same) ∙ h)
  | inr r ↦ or_right (p y) (list_any p ys) (is_some_of p x ys r h)
]
