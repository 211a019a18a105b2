-- Laws of the numbers of the items that pass a test.
use Rattle.std.proofs.Common.{◌≡◌, ℕ, suc, ◌+◌, ◌<◌, ◌≤◌, Bool, true, false, cond, ◌&&◌, if◌then◌else◌, List, [], ◌∷◌, ◌++◌, length, get_or, slice_get, drop, filter, filter_map, Some, refl, ap, sym, ◌∙◌, add-one, append-nil, drop-cons, length-drop, arith}
use Rattle.std.specs.List.{All, cons_option}
use Rattle.std.specs.Option.{option_map_or}
use Rattle.std.proofs.lemmas.List.Elements.{All-nil, All-cons}
use Rattle.std.proofs.lemmas.Option.{slice_get-get_or}
use Rattle.qvt_trace.specs.Numbers.{numbers_from, numbers}

-- ---- one item more

numbers_append : {X : Type 0} (test : X → Bool) (n : ℕ) (xs ys : List X) → numbers_from test n (xs ++ ys) ≡ numbers_from test n xs ++ numbers_from test (n + length xs) ys
numbers_append test n [] ys = let e : n + 0 ≡ n = omega arith in ap (λ m. numbers_from test m ys) (sym e)
numbers_append test n (x ∷ xs) ys = by _ _ _ (test x) (numbers_append test (n + 1) xs ys ∙ (let e : n + 1 + length xs ≡ n + length (x ∷ xs) = omega arith in ap (λ m. numbers_from test (n + 1) xs ++ numbers_from test m ys) e))
  where
    by : (a b c : List ℕ) (t : Bool) → a ≡ b ++ c → cond t (n ∷ a) a ≡ cond t (n ∷ b) b ++ c
    by a b c true e = ap (λ l. n ∷ l) e
    by a b c false e = e

pub numbers_more : {X : Type 0} (test : X → Bool) (xs : List X) (x : X) (w : ℕ) → w ≡ length xs
    → numbers test (xs ++ x ∷ []) ≡ (if test x then numbers test xs ++ w ∷ [] else numbers test xs)
numbers_more test xs x w e = numbers_append test 0 xs (x ∷ []) ∙ by (test x) (let f : 0 + length xs ≡ w = omega (arith, e) in f)
  where
    by : {m k : ℕ} (t : Bool) → m ≡ k → numbers test xs ++ cond t (m ∷ []) [] ≡ cond t (numbers test xs ++ k ∷ []) (numbers test xs)
    by true f = ap (λ i. numbers test xs ++ i ∷ []) f
    by false f = append-nil (numbers test xs)

-- ---- the items with the numbers

pub record After {X : Type 0} (whole : List X) (n : ℕ) (x : X) (xs : List X) : Type 0 where
  pub here : slice_get whole n ≡ Some x
  pub rest : drop (n + 1) whole ≡ xs
  pub within : n < length whole

head_or : {X : Type 0} → X → List X → X
head_or d [] = d
head_or d (x ∷ xs) = x

tail_of : {X : Type 0} → List X → List X
tail_of [] = []
tail_of (x ∷ xs) = xs

pub after : {X : Type 0} (whole : List X) (n : ℕ) (x : X) (xs : List X) → drop n whole ≡ x ∷ xs → After whole n x xs
unfolding head_or tail_of
after whole n x xs h =
    let k : length (drop n whole) ≡ length (x ∷ xs) = ap length h in
    let l : n < length whole = omega (arith, length-drop n whole, k) in
    let e : get_or whole n x ∷ drop (suc n) whole ≡ x ∷ xs = sym (drop-cons whole n x l) ∙ h in
    record { here = slice_get-get_or whole n x l ∙ ap (λ y. Some (head_or x y)) e; rest = rw add-one (ap tail_of e); within = l }

both_from : {X : Type 0} (p q : X → Bool) (whole : List X) (n : ℕ) (xs : List X) → drop n whole ≡ xs
    → numbers_from (λ x. p x && q x) n xs ≡ filter (λ k. option_map_or q (slice_get whole k) false) (numbers_from p n xs)
both_from p q whole n [] h = refl
both_from p q whole n (x ∷ xs) h =
    let a = after whole n x xs h in
    by _ _ (p x) (q x) (ap (λ o. option_map_or q o false) a.here) (both_from p q whole (n + 1) xs a.rest)
  where
    by : (a b : List ℕ) (s t : Bool) → option_map_or q (slice_get whole n) false ≡ t → a ≡ filter (λ k. option_map_or q (slice_get whole k) false) b
        → cond (s && t) (n ∷ a) a ≡ filter (λ k. option_map_or q (slice_get whole k) false) (cond s (n ∷ b) b)
    by a b true true e f = rw e (ap (λ l. n ∷ l) f)
    by a b true false e f = rw e f
    by a b false t e f = f

-- of those that pass two tests: by the first the numbers, by the second the items with these
pub numbers_both : {X : Type 0} (p q : X → Bool) (xs : List X) → numbers (λ x. p x && q x) xs ≡ filter (λ k. option_map_or q (slice_get xs k) false) (numbers p xs)
numbers_both p q xs = both_from p q xs 0 xs refl

picked_from : {X : Type 0} (p : X → Bool) (whole : List X) (n : ℕ) (xs : List X) → drop n whole ≡ xs
    → filter_map (slice_get whole) (numbers_from p n xs) ≡ filter p xs
picked_from p whole n [] h = refl
picked_from p whole n (x ∷ xs) h =
    let a = after whole n x xs h in
    by _ _ (p x) a.here (picked_from p whole (n + 1) xs a.rest)
  where
    by : (a : List ℕ) (b : List _) (t : Bool) → slice_get whole n ≡ Some x → filter_map (slice_get whole) a ≡ b
        → filter_map (slice_get whole) (cond t (n ∷ a) a) ≡ cond t (x ∷ b) b
    by a b true e f = λ i. cons_option (e i) (f i)
    by a b false e f = f

-- the items with the numbers are those that pass
pub picked : {X : Type 0} (p : X → Bool) (xs : List X) → filter_map (slice_get xs) (numbers p xs) ≡ filter p xs
picked p xs = picked_from p xs 0 xs refl

below_from : {X : Type 0} (p : X → Bool) (n m : ℕ) (xs : List X) → n + length xs ≤ m → All (λ k. k < m) (numbers_from p n xs)
below_from p n m [] h = All-nil (λ k. k < m)
below_from p n m (x ∷ xs) h = by _ (p x) (let l : n < m = omega arith in l) (below_from p (n + 1) m xs (omega arith))
  where
    by : (a : List ℕ) (t : Bool) → n < m → All (λ k. k < m) a → All (λ k. k < m) (cond t (n ∷ a) a)
    by a true l f = All-cons (λ k. k < m) n a l f
    by a false l f = f

pub numbers_below : {X : Type 0} (p : X → Bool) (xs : List X) → All (λ k. k < length xs) (numbers p xs)
numbers_below p xs = below_from p 0 (length xs) xs (omega arith)
