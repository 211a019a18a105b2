-- The first item that passes a test, among the first ones of a list and where one is put last.
use Rattle.std.proofs.Common.{◌≡◌, ◌∙◌, ℕ, zero, suc, ◌+◌, ◌<◌, ◌≤◌, ◌⊎◌, inl, inr, List, [], ◌∷◌, ◌++◌, length, take, get_or, Bool, true, false, Option, Some, None, refl, ap, sym, arith, position, cond}
use Rattle.std.specs.List.{list_any, position_or_len}
use Rattle.std.proofs.lemmas.Bool.{cases_lt, lt-ltb}
use Rattle.std.proofs.lemmas.List.{get_or-take, length-append}
use Rattle.std.proofs.lemmas.List.Quantifiers.{position-Some}
use Rattle.qvt_metamodel.proofs.Bools.{clash, not_true, or_left, or_right}
use Rattle.qvt_metamodel.proofs.Halves.{old-at, new-at}
use Rattle.qvt_metamodel.proofs.Lookups.{position-first}
use Rattle.qvt_metamodel.proofs.Positions.{any-within}

any-at : {X : Type 0} (p : X → Bool) (xs : List X) (i : ℕ) (d : X) → i < length xs → p (get_or xs i d) ≡ true → list_any p xs ≡ true
any-at p [] i d l h = absurd (omega arith)
any-at p (x ∷ xs) zero d l h = or_left (p x) (list_any p xs) h
any-at p (x ∷ xs) (suc i) d l h = or_right (p x) (list_any p xs) (any-at p xs i d (omega (arith, l)) h)

pub position-none : {X : Type 0} (p : X → Bool) (xs : List X) (i : ℕ) (d : X) → position p xs ≡ None → i < length xs → p (get_or xs i d) ≡ false
position-none p xs i d none l = not_true (p (get_or xs i d)) (λ h.
    (let within : position_or_len p xs < length xs = any-within p xs (any-at p xs i d l h) in
    let some : position p xs ≡ Some (position_or_len p xs) = ap (λ b. cond b (Some (position_or_len p xs)) None) (lt-ltb (position_or_len p xs) (length xs) within) in
    let no : Some (position_or_len p xs) ≡ None = sym some ∙ none in absurd (cc)))

in_front : {X : Type 0} (xs : List X) (n i : ℕ) → i < n → i < length xs → i < length (take n xs)
in_front [] n i h l = absurd (omega (arith, l))
in_front (x ∷ xs) zero i h l = absurd (omega (arith, h))
in_front (x ∷ xs) (suc n) zero h l = omega arith
in_front (x ∷ xs) (suc n) (suc i) h l = (let more : i < length (take n xs) = in_front xs n i (omega (arith, h)) (omega (arith, l)) in omega (arith, more))

of_front : {X : Type 0} (xs : List X) (n i : ℕ) → i < length (take n xs) → (i < n) × (i < length xs)
of_front xs zero i l = absurd (omega (arith, l))
of_front [] (suc n) i l = absurd (omega (arith, l))
of_front (x ∷ xs) (suc n) zero l = (omega arith, omega arith)
of_front (x ∷ xs) (suc n) (suc i) l = (let more : (i < n) × (i < length xs) = of_front xs n i (omega (arith, l)) in (omega (arith, more.0), omega (arith, more.1)))

-- a place of the list that is below the count
pub found_in_front : {X : Type 0} (p : X → Bool) (xs : List X) (n i : ℕ) (d : X) → position p xs ≡ Some i → i < n → position p (take n xs) ≡ Some i
found_in_front p xs n i d there l =
    let at = position-Some p xs i d there in
    position-first p (take n xs) i d (in_front xs n i l at.0) (ap p (get_or-take n xs i d l) ∙ at.1) (λ j h. ap p (get_or-take n xs j d (omega (arith, h, l))) ∙ at.2 j h)

none_of_front : {X : Type 0} (p : X → Bool) (xs : List X) (n : ℕ) (d : X) → ((j : ℕ) → j < n → j < length xs → p (get_or xs j d) ≡ false) → position p (take n xs) ≡ None
none_of_front p xs n d none = by (position p (take n xs)) refl
  where
    by : (o : Option ℕ) → position p (take n xs) ≡ o → position p (take n xs) ≡ None
    by None e = e
    by (Some j) e =
        let at = position-Some p (take n xs) j d e in
        let l : (j < n) × (j < length xs) = of_front xs n j at.0 in
        clash (ap p (sym (get_or-take n xs j d l.0)) ∙ at.1) (none j l.0 l.1)

-- a place that is not
pub found_behind : {X : Type 0} (p : X → Bool) (xs : List X) (n i : ℕ) (d : X) → position p xs ≡ Some i → n ≤ i → position p (take n xs) ≡ None
found_behind p xs n i d there h = (let at = position-Some p xs i d there in none_of_front p xs n d (λ j l k. at.2 j (omega (arith, l, h))))

pub not_found : {X : Type 0} (p : X → Bool) (xs : List X) (n : ℕ) (d : X) → position p xs ≡ None → position p (take n xs) ≡ None
not_found p xs n d none = none_of_front p xs n d (λ j l k. position-none p xs j d none k)

-- what is first among the first ones is first
pub position-of_front : {X : Type 0} (p : X → Bool) (xs : List X) (n i : ℕ) (d : X) → position p (take n xs) ≡ Some i → position p xs ≡ Some i
position-of_front p xs n i d there =
    let at = position-Some p (take n xs) i d there in
    let l : (i < n) × (i < length xs) = of_front xs n i at.0 in
    position-first p xs i d l.1 (ap p (sym (get_or-take n xs i d l.0)) ∙ at.1) (λ j h. ap p (sym (get_or-take n xs j d (omega (arith, h, l.0)))) ∙ at.2 j h)

-- what is first when an item is put last was first before, or is this item
pub position-last : {X : Type 0} (p : X → Bool) (xs : List X) (x : X) (i : ℕ) → position p (xs ++ x ∷ []) ≡ Some i → (position p xs ≡ Some i) ⊎ ((i ≡ length xs) × (p x ≡ true) × (position p xs ≡ None))
position-last p xs x i there =
    let at = position-Some p (xs ++ x ∷ []) i x there in
    elim (cases_lt i (length xs)) [
      | inl l ↦ inl (position-first p xs i x l (ap p (sym (old-at xs (x ∷ []) i x l)) ∙ at.1) (λ j h. ap p (sym (old-at xs (x ∷ []) j x (omega (arith, h, l)))) ∙ at.2 j h))
      | inr h ↦ (let last : i ≡ length xs + 0 = omega (arith, h, at.0, length-append xs (x ∷ [])) in
          inr (last ∙ omega arith, ap p (sym (ap (λ k. get_or (xs ++ x ∷ []) k x) last ∙ new-at xs (x ∷ []) 0 x)) ∙ at.1, by (position p xs) refl (λ q l. ap p (sym (old-at xs (x ∷ []) q x l)) ∙ at.2 q (omega (arith, l, h)))))
    ]
  where
    by : (o : Option ℕ) → position p xs ≡ o → ((q : ℕ) → q < length xs → p (get_or xs q x) ≡ false) → position p xs ≡ None
    by None e none = e
    by (Some q) e none = (let was = position-Some p xs q x e in clash was.1 (none q was.0))
