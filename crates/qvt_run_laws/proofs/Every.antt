-- A property that holds of each item of a list, item by item.
use Rattle.std.proofs.Common.{ℕ, zero, suc, ◌<◌, List, [], ◌∷◌, ◌++◌, length, slice_index_or, arith}
use Rattle.std.specs.List.{All}

abbrev pub Every : {X : Type 0} → (X → Type 0) → List X → Type 0
Every P [] = Unit {0}
Every P (x ∷ xs) = P x × Every P xs

pub every-append : {X : Type 0} (P : X → Type 0) (xs ys : List X) → Every P xs → Every P ys → Every P (xs ++ ys)
every-append P [] ys e k = k
every-append P (x ∷ xs) ys e k = (e.0, every-append P xs ys e.1 k)

each_at : {X : Type 0} (P : X → Type 0) (xs : List X) → Every P xs → (k : ℕ) (d : X) → k < length xs → P (slice_index_or xs k d)
each_at P [] e k d h = absurd (omega (arith, h))
each_at P (x ∷ xs) e zero d h = e.0
each_at P (x ∷ xs) e (suc k) d h = each_at P xs e.1 k d (omega (arith, h))

pub all_of : {X : Type 0} (P : X → Type 0) (xs : List X) → Every P xs → All P xs
all_of P xs e = each_at P xs e
