-- What holds of each item of a list.
use Rattle.std.proofs.Common.{◌≡◌, refl, sym, subst, ℕ, zero, suc, Bool, true, false, List, [], ◌∷◌, ◌++◌, take, Some, cond, ◌||◌}
use Rattle.std.proofs.lemmas.Bool.{and_from, false≢true}
use Rattle.std.specs.Prelude.{slice_index_or, map}
use Rattle.std.specs.List.{list_all, list_any, flat_map}
use Rattle.std.specs.Map.{lookup}

pub data Every {A : Type 0} (P : A → Type 0) : List A → Type 0 where
  none : Every P []
  also : {a : A} {rest : List A} → P a → Every P rest → Every P (a ∷ rest)

pub first : {A : Type 0} {P : A → Type 0} {a : A} {rest : List A} → Every P (a ∷ rest) → P a
first (also h k) = h

pub others : {A : Type 0} {P : A → Type 0} {a : A} {rest : List A} → Every P (a ∷ rest) → Every P rest
others (also h k) = k

pub every_more : {A : Type 0} (P : A → Type 0) (rest bs : List A) → Every P rest → Every P bs → Every P (rest ++ bs)
every_more P [] bs h k = k
every_more P (a ∷ rest) bs h k = also (first h) (every_more P rest bs (others h) k)

pub every_last : {A : Type 0} (P : A → Type 0) (rest : List A) (b : A) → Every P rest → P b → Every P (rest ++ b ∷ [])
every_last P rest b h k = every_more P rest (b ∷ []) h (also k none)

pub every_front : {A : Type 0} (P : A → Type 0) (n : ℕ) (rest : List A) → Every P rest → Every P (take n rest)
every_front P zero [] h = none
every_front P zero (a ∷ rest) h = none
every_front P (suc n) [] h = none
every_front P (suc n) (a ∷ rest) h = also (first h) (every_front P n rest (others h))

pub every_all : {A : Type 0} (p : A → Bool) (rest : List A) → Every (λ a. p a ≡ true) rest → list_all p rest ≡ true
every_all p [] h = refl
every_all p (a ∷ rest) h = and_from (p a) (list_all p rest) (first h) (every_all p rest (others h))

pub every_none : {A : Type 0} (p : A → Bool) (rest : List A) → Every (λ a. p a ≡ false) rest → list_any p rest ≡ false
every_none p [] h = refl
every_none p (a ∷ rest) h = by (p a) (first h) (every_none p rest (others h))
  where
    by : (b : Bool) → b ≡ false → list_any p rest ≡ false → (b || list_any p rest) ≡ false
    by true e k = absurd (false≢true (sym e))
    by false e k = k

-- what is looked up is one of the items
pub every_found : {K X : Type 0} (p : K → Bool) (P : K × X → Type 0) (R : X → Type 0) → ((e : K × X) → P e → R e.1) → (es : List (K × X)) → Every P es → (x : X) → lookup p es ≡ Some x → R x
every_found p P R f [] h x e = absurd (cc)
every_found p P R f (k ∷ es) h x e = by (p k.0) e (every_found p P R f es (others h) x)
  where
    by : (b : Bool) → cond b (Some k.1) (lookup p es) ≡ Some x → (lookup p es ≡ Some x → R x) → R x
    by true s later = subst R (let z : k.1 ≡ x = cc in z) (f k (first h))
    by false s later = later s

pub every_at : {A : Type 0} (P : A → Type 0) (all : List A) (i : ℕ) (d : A) → Every P all → P d → P (slice_index_or all i d)
every_at P [] i d h k = k
every_at P (a ∷ all) zero d h k = first h
every_at P (a ∷ all) (suc i) d h k = every_at P all i d (others h) k

pub every_map : {A B : Type 0} (P : B → Type 0) (f : A → B) → ((a : A) → P (f a)) → (all : List A) → Every P (map f all)
every_map P f k [] = none
every_map P f k (a ∷ all) = also (k a) (every_map P f k all)

pub every_flat : {A B : Type 0} (P : B → Type 0) (f : A → List B) → ((a : A) → Every P (f a)) → (all : List A) → Every P (flat_map f all)
every_flat P f k [] = none
every_flat P f k (a ∷ all) = every_more P (f a) (flat_map f all) (k a) (every_flat P f k all)
