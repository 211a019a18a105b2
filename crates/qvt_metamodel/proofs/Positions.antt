-- The place of a name among names.
use Rattle.std.proofs.Common.{◌≡◌, ℕ, zero, suc, ◌+◌, ◌<◌, List, [], ◌∷◌, length, get_or, Bool, true, false, cond, not, Option, Some, None, refl, ap, sym, subst, arith, position, ◌||◌}
use Rattle.std.specs.Prelude.{unwrap_or}
use Rattle.std.specs.List.{list_any, position_or_len}
use Rattle.std.specs.Str.{bytes_eq}
use Rattle.std.proofs.lemmas.Bool.{lt-ltb}
use Rattle.qvt_metamodel.specs.Names.{is_among}
use Rattle.qvt_metamodel.specs.Added.{place_in}
use Rattle.qvt_metamodel.proofs.Bools.{or_left, or_right, clash, not_true}
use Rattle.qvt_metamodel.proofs.Lookups.{some-within, position-first, bytes_eq-refl}

pub any-within : {X : Type 0} (p : X → Bool) (xs : List X) → list_any p xs ≡ true → position_or_len p xs < length xs
any-within p [] h = absurd (cc)
any-within p (x ∷ xs) h = by (p x) refl (any-within p xs)
  where
    by : (t : Bool) → p x ≡ t → (list_any p xs ≡ true → position_or_len p xs < length xs) → position_or_len p (x ∷ xs) < suc (length xs)
    by true e next = subst (λ t. cond (not t) (1 + position_or_len p xs) 0 < suc (length xs)) (sym e) (omega arith)
    by false e next = subst (λ t. cond (not t) (1 + position_or_len p xs) 0 < suc (length xs)) (sym e) (let l : position_or_len p xs < length xs = next (subst (λ t. (t || list_any p xs) ≡ true) e h) in omega (arith, l))

pub any-passes : {X : Type 0} (p : X → Bool) (xs : List X) (d : X) → list_any p xs ≡ true → p (get_or xs (position_or_len p xs) d) ≡ true
any-passes p [] d h = absurd (cc)
any-passes p (x ∷ xs) d h = by (p x) refl (any-passes p xs d)
  where
    by : (t : Bool) → p x ≡ t → (list_any p xs ≡ true → p (get_or xs (position_or_len p xs) d) ≡ true) → p (get_or (x ∷ xs) (position_or_len p (x ∷ xs)) d) ≡ true
    by true e next = subst (λ t. p (get_or (x ∷ xs) (cond (not t) (1 + position_or_len p xs) 0) d) ≡ true) (sym e) e
    by false e next = subst (λ t. p (get_or (x ∷ xs) (cond (not t) (1 + position_or_len p xs) 0) d) ≡ true) (sym e)
        (subst (λ n. p (get_or (x ∷ xs) n d) ≡ true) (let one : suc (position_or_len p xs) ≡ 1 + position_or_len p xs = omega arith in one) (next (subst (λ t. (t || list_any p xs) ≡ true) e h)))

pub none-at : {X : Type 0} (p : X → Bool) (xs : List X) (i : ℕ) (d : X) → list_any p xs ≡ false → i < length xs → p (get_or xs i d) ≡ false
none-at p [] i d h l = absurd (omega arith)
none-at p (x ∷ xs) zero d h l = not_true (p x) (λ t. clash (or_left (p x) (list_any p xs) t) h)
none-at p (x ∷ xs) (suc i) d h l = none-at p xs i d (not_true (list_any p xs) (λ t. clash (or_right (p x) (list_any p xs) t) h)) (omega arith)

pub no-position : {X : Type 0} (p : X → Bool) (xs : List X) → list_any p xs ≡ false → position p xs ≡ None
no-position p xs h = by (position p xs) refl
  where
    by : (o : Option ℕ) → position p xs ≡ o → position p xs ≡ None
    by None e = e
    by (Some i) e = absurd (none_found xs h (some-within (position_or_len p xs) (length xs) i e).0)
      where
        none_found : (ys : List _) → list_any p ys ≡ false → position_or_len p ys < length ys → ⊥
        none_found [] h l = omega arith
        none_found (y ∷ ys) h l =
            let no : p y ≡ false = not_true (p y) (λ t. clash (or_left (p y) (list_any p ys) t) h) in
            none_found ys (not_true (list_any p ys) (λ t. clash (or_right (p y) (list_any p ys) t) h))
            (let m : position_or_len p (y ∷ ys) ≡ 1 + position_or_len p ys = ap (λ t. cond (not t) (1 + position_or_len p ys) 0) no in omega (arith, l, m))

pub place-below : (names : List (List ℕ)) (name : List ℕ) → 0 < length names → place_in names name < length names
place-below names name h = by (position (bytes_eq name) names) refl
  where
    by : (o : Option ℕ) → position (bytes_eq name) names ≡ o → unwrap_or o 0 < length names
    by None e = h
    by (Some i) e = (let at : (position_or_len (bytes_eq name) names < length names) × (position_or_len (bytes_eq name) names ≡ i) = some-within (position_or_len (bytes_eq name) names) (length names) i e in omega (arith, at.0, at.1))

-- the place of a name that is there
pub place-found : (names : List (List ℕ)) (name : List ℕ) → is_among name names ≡ true → (place_in names name < length names) × (bytes_eq name (get_or names (place_in names name) []) ≡ true)
place-found names name h =
    let l : position_or_len (bytes_eq name) names < length names = any-within (bytes_eq name) names h in
    let at : position (bytes_eq name) names ≡ Some (position_or_len (bytes_eq name) names) =
    ap (λ t. cond t (Some (position_or_len (bytes_eq name) names)) None) (lt-ltb (position_or_len (bytes_eq name) names) (length names) l) in
    let is : place_in names name ≡ position_or_len (bytes_eq name) names = ap (λ o. unwrap_or o 0) at in
    (omega (arith, is, l), subst (λ i. bytes_eq name (get_or names i []) ≡ true) (sym is) (any-passes (bytes_eq name) names [] h))

-- a name that differs from each before it
pub place-is : (names : List (List ℕ)) (i : ℕ) → i < length names → ((j : ℕ) → j < i → bytes_eq (get_or names i []) (get_or names j []) ≡ false) → place_in names (get_or names i []) ≡ i
place-is names i l before = ap (λ o. unwrap_or o 0) (position-first (bytes_eq (get_or names i [])) names i [] l (bytes_eq-refl (get_or names i [])) before)
