-- Numbers below a bound, and from it on.
use Rattle.std.proofs.Common.{◌≡◌, ℕ, suc, ◌+◌, ◌-◌, ◌<◌, List, ◌++◌, length, get_or, arith, subst, inl, inr}
use Rattle.std.proofs.lemmas.Bool.Decides.{leb_tells}
use Rattle.std.proofs.lemmas.List.{get_or_append_left, get_or-append-add}

pub data Half (b : ℕ) : ℕ → Type 0 where
  old : (c : ℕ) → c < b → Half b c
  new : (c : ℕ) → Half b (b + c)

pub half : (b c : ℕ) → Half b c
half b c = elim (leb_tells (suc c) b) [
  | inl t ↦ old c (omega (arith, t.1))
  | inr f ↦ subst (Half b) (let same : b + (c - b) ≡ c = omega (arith, f.1) in same) (new (c - b))
]

pub old-at : {X : Type 0} (xs ys : List X) (i : ℕ) (d : X) → i < length xs → get_or (xs ++ ys) i d ≡ get_or xs i d
old-at xs ys i d h = get_or_append_left xs ys d i h

pub new-at : {X : Type 0} (xs ys : List X) (i : ℕ) (d : X) → get_or (xs ++ ys) (length xs + i) d ≡ get_or ys i d
new-at xs ys i d = get_or-append-add xs ys i d
