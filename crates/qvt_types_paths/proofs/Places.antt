-- The first place at which a test passes in a list with one more item, and lists of what numbers from 0 on give.
use Rattle.std.proofs.Common.{◌≡◌, ◌∙◌, ℕ, ◌+◌, List, [], ◌∷◌, ◌++◌, length, Bool, true, false, ◌||◌, Some, None, position, map, refl, sym, ap, arith}
use Rattle.std.specs.List.{range_with_len}
use Rattle.std.proofs.lemmas.List.{map-append}
use Rattle.std.specs.Prelude.{◌<◌, if◌then◌else◌, zero, suc, nat_lt, cond, is_some, IfSome}
use Rattle.std.specs.List.{position_or_len, list_any}
use Rattle.std.proofs.lemmas.Bool.{ltb-true}
use Rattle.std.specs.Option.{option_or}
use Rattle.qvt_meta_names.proofs.Tables.{first_at, first-position}

first_at-push : {X : Type 0} (p : X → Bool) (n : ℕ) (xs : List X) (y : X) → first_at p n (xs ++ y ∷ []) ≡ option_or (first_at p n xs) (if p y then Some (n + length xs) else None)
first_at-push p n [] y = ap (λ k. if p y then Some k else None) (let same : n ≡ n + 0 = omega arith in same)
first_at-push p n (x ∷ xs) y = by (p x) (first_at-push p (n + 1) xs y)
  where
    by : (b : Bool) → first_at p (n + 1) (xs ++ y ∷ []) ≡ option_or (first_at p (n + 1) xs) (if p y then Some (n + 1 + length xs) else None)
        → (if b then Some n else first_at p (n + 1) (xs ++ y ∷ [])) ≡ option_or (if b then Some n else first_at p (n + 1) xs) (if p y then Some (n + suc (length xs)) else None)
    by true h = refl
    by false h = h ∙ ap (λ k. option_or (first_at p (n + 1) xs) (if p y then Some k else None)) (let same : n + 1 + length xs ≡ n + suc (length xs) = omega arith in same)

pub position-push : {X : Type 0} (p : X → Bool) (xs : List X) (y : X) → position p (xs ++ y ∷ []) ≡ option_or (position p xs) (if p y then Some (length xs) else None)
position-push p xs y =
    sym (first-position p (xs ++ y ∷ []))
    ∙ first_at-push p 0 xs y
    ∙ ap (λ o. option_or o (if p y then Some (0 + length xs) else None)) (first-position p xs)
    ∙ ap (λ k. option_or (position p xs) (if p y then Some k else None)) (let same : 0 + length xs ≡ length xs = omega arith in same)

range-last : (a n : ℕ) → range_with_len a (suc n) ≡ range_with_len a n ++ (a + n) ∷ []
range-last a zero = ap (λ k. k ∷ []) (let same : a ≡ a + 0 = omega arith in same)
range-last a (suc n) = ap (λ xs. a ∷ xs) (range-last (a + 1) n ∙ ap (λ k. range_with_len (a + 1) n ++ k ∷ []) (let same : a + 1 + n ≡ a + suc n = omega arith in same))

range-more : (n : ℕ) → range_with_len 0 n ++ n ∷ [] ≡ range_with_len 0 (n + 1)
range-more n = ap (λ k. range_with_len 0 n ++ k ∷ []) (let same : n ≡ 0 + n = omega arith in same) ∙ sym (range-last 0 n) ∙ ap (range_with_len 0) (let one : suc n ≡ n + 1 = omega arith in one)

pub map_range_more : {X : Type 0} (f : ℕ → X) (n : ℕ) → map f (range_with_len 0 n) ++ f n ∷ [] ≡ map f (range_with_len 0 (n + 1))
map_range_more f n = sym (map-append f (range_with_len 0 n) (n ∷ [])) ∙ ap (map f) (range-more n)

pub position-below : {X : Type 0} (p : X → Bool) (xs : List X) → IfSome (position p xs) (λ i. i < length xs)
position-below p xs = by (nat_lt (position_or_len p xs) (length xs)) refl
  where
    by : (b : Bool) → nat_lt (position_or_len p xs) (length xs) ≡ b → IfSome (cond b (Some (position_or_len p xs)) None) (λ i. i < length xs)
    by true e = ltb-true (position_or_len p xs) (length xs) e
    by false e = tt

some_first : {X : Type 0} (p : X → Bool) (n : ℕ) (xs : List X) → is_some (first_at p n xs) ≡ list_any p xs
some_first p n [] = refl
some_first p n (x ∷ xs) = by (p x) (some_first p (n + 1) xs)
  where
    by : (b : Bool) → is_some (first_at p (n + 1) xs) ≡ list_any p xs → is_some (if b then Some n else first_at p (n + 1) xs) ≡ (b || list_any p xs)
    by true h = refl
    by false h = h

pub some_position : {X : Type 0} (p : X → Bool) (xs : List X) → is_some (position p xs) ≡ list_any p xs
some_position p xs = ap is_some (sym (first-position p xs)) ∙ some_first p 0 xs
