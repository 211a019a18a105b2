-- What a list repeats: from its front, of a part of it, and by other tests.
use Rattle.std.proofs.Common.{◌≡◌, ◌∙◌, ℕ, zero, suc, ◌+◌, ◌<◌, Bool, true, false, ◌||◌, cond, refl, sym, ap, List, [], ◌∷◌, ◌++◌, length, map, take, drop, get_or, Option, Some, None, arith}
use Rattle.std.specs.Prelude.{filter, is_some, if◌then◌else◌}
use Rattle.std.specs.List.{list_any}
use Rattle.std.proofs.lemmas.List.{take_more, take-append-drop}
use Rattle.qvt_relation.proofs.Bools.{or_left, or_right, or_none, none_left, none_right, or_false, refuted, clash}
use Rattle.qvt_repeats.specs.Repeats.{repeats_by, repeated_by}

-- ---- whether some item passes

pub any-last : {A : Type 0} (test : A → Bool) (xs : List A) (x : A) → list_any test (xs ++ x ∷ []) ≡ (list_any test xs || test x)
any-last test [] x = or_false (test x)
any-last test (y ∷ xs) x = elim (test y) as (λ b. (b || list_any test (xs ++ x ∷ [])) ≡ ((b || list_any test xs) || test x)) [ true ↦ refl | false ↦ any-last test xs x ]

any-front : {A : Type 0} (test : A → Bool) (xs ys : List A) → list_any test xs ≡ true → list_any test (xs ++ ys) ≡ true
any-front test [] ys h = cc
any-front test (x ∷ xs) ys h = go (test x) h (any-front test xs ys)
  where
    go : (b : Bool) → (b || list_any test xs) ≡ true → (list_any test xs ≡ true → list_any test (xs ++ ys) ≡ true) → (b || list_any test (xs ++ ys)) ≡ true
    go true e next = refl
    go false e next = next e

pub any-filter : {A : Type 0} (test keep : A → Bool) (xs : List A) → list_any test xs ≡ false → list_any test (filter keep xs) ≡ false
any-filter test keep [] h = refl
any-filter test keep (x ∷ xs) h = go (keep x) (any-filter test keep xs (none_right (test x) _ h))
  where
    go : (b : Bool) → list_any test (filter keep xs) ≡ false → list_any test (cond b (x ∷ filter keep xs) (filter keep xs)) ≡ false
    go true ih = or_none _ _ (none_left _ _ h) ih
    go false ih = ih

any-map : {A B : Type 0} (test : A → Bool) (f : B → A) (xs : List B) → list_any test (map f xs) ≡ list_any (λ x. test (f x)) xs
any-map test f [] = refl
any-map test f (x ∷ xs) = ap (λ b. test (f x) || b) (any-map test f xs)

any-alike : {A : Type 0} (test other : A → Bool) → ((x : A) → test x ≡ other x) → (xs : List A) → list_any test xs ≡ list_any other xs
any-alike test other h [] = refl
any-alike test other h (x ∷ xs) = λ i. h x i || any-alike test other h xs i

-- where one test says more, none passes it if none passes the other
any-fewer : {A : Type 0} (test other : A → Bool) → ((x : A) → test x ≡ true → other x ≡ true) → (xs : List A) → list_any other xs ≡ false → list_any test xs ≡ false
any-fewer test other h [] n = refl
any-fewer test other h (x ∷ xs) n = or_none _ _ (refuted (test x) (λ t. clash (other x) (h x t) (none_left (other x) _ n))) (any-fewer test other h xs (none_right (other x) _ n))

-- some item passes one of two tests
any-either : {A : Type 0} (test other : A → Bool) (xs : List A) → list_any (λ x. test x || other x) xs ≡ (list_any test xs || list_any other xs)
any-either test other [] = refl
any-either test other (x ∷ xs) = ap (λ b. (test x || other x) || b) (any-either test other xs) ∙ crossed (test x) (other x) (list_any test xs) (list_any other xs)
  where
    crossed : (a b c d : Bool) → ((a || b) || (c || d)) ≡ ((a || c) || (b || d))
    crossed true b c d = refl
    crossed false true true d = refl
    crossed false true false d = refl
    crossed false false c d = refl

-- ---- repeats by other tests

pub repeats-map : {A B : Type 0} (same : A → A → Bool) (f : B → A) (xs : List B) → repeats_by same (map f xs) ≡ repeats_by (λ x y. same (f x) (f y)) xs
repeats-map same f [] = refl
repeats-map same f (x ∷ xs) = λ i. any-map (same (f x)) f xs i || repeats-map same f xs i

pub repeats-alike : {A : Type 0} (same other : A → A → Bool) → ((x y : A) → same x y ≡ other x y) → (xs : List A) → repeats_by same xs ≡ repeats_by other xs
repeats-alike same other h [] = refl
repeats-alike same other h (x ∷ xs) = λ i. any-alike (same x) (other x) (h x) xs i || repeats-alike same other h xs i

pub repeats-fewer : {A : Type 0} (same other : A → A → Bool) → ((x y : A) → same x y ≡ true → other x y ≡ true) → (xs : List A) → repeats_by other xs ≡ false → repeats_by same xs ≡ false
repeats-fewer same other h [] n = refl
repeats-fewer same other h (x ∷ xs) n = or_none _ _ (any-fewer (same x) (other x) (h x) xs (none_left _ _ n)) (repeats-fewer same other h xs (none_right (list_any (other x) xs) _ n))

module _ {A : Type 0} (same : A → A → Bool) where
  -- ---- of a part of the list

  pub repeats-filter : (keep : A → Bool) (xs : List A) → repeats_by same xs ≡ false → repeats_by same (filter keep xs) ≡ false
  repeats-filter keep [] h = refl
  repeats-filter keep (x ∷ xs) h = go (keep x) (repeats-filter keep xs (none_right (list_any (same x) xs) _ h))
    where
      go : (b : Bool) → repeats_by same (filter keep xs) ≡ false → repeats_by same (cond b (x ∷ filter keep xs) (filter keep xs)) ≡ false
      go true ih = or_none _ _ (any-filter (same x) keep xs (none_left _ _ h)) ih
      go false ih = ih

  repeats-front : (xs ys : List A) → repeats_by same xs ≡ true → repeats_by same (xs ++ ys) ≡ true
  repeats-front [] ys h = cc
  repeats-front (x ∷ xs) ys h = go (list_any (same x) xs) refl h (repeats-front xs ys)
    where
      go : (b : Bool) → list_any (same x) xs ≡ b → (b || repeats_by same xs) ≡ true → (repeats_by same xs ≡ true → repeats_by same (xs ++ ys) ≡ true) → repeats_by same (x ∷ xs ++ ys) ≡ true
      go true e k next = or_left _ _ (any-front (same x) xs ys e)
      go false e k next = or_right (list_any (same x) (xs ++ ys)) _ (next k)

  pub repeats_found : (xs : List A) (n : ℕ) → repeats_by same (take n xs) ≡ true → repeats_by same xs ≡ true
  repeats_found xs n h = ap (repeats_by same) (sym (take-append-drop n xs)) ∙ repeats-front (take n xs) (drop n xs) h

  pub repeats-drop : (xs : List A) (i : ℕ) (d : A) → i < length xs → repeats_by same (drop i xs) ≡ (list_any (same (get_or xs i d)) (drop (i + 1) xs) || repeats_by same (drop (i + 1) xs))
  repeats-drop xs i d h = ap (repeats_by same) (drop-at xs i d h)
    where
      drop-at : (xs : List A) (i : ℕ) (d : A) → i < length xs → drop i xs ≡ get_or xs i d ∷ drop (i + 1) xs
      drop-at [] i d h = absurd (omega arith)
      drop-at (x ∷ xs) zero d h = refl
      drop-at (x ∷ xs) (suc i) d h = drop-at xs i d (omega arith) ∙ ap (λ n. get_or xs i d ∷ drop n (x ∷ xs)) one_more
        where
          one_more : suc (i + 1) ≡ suc i + 1
          one_more = omega arith

  -- ---- one more item at the end

  module _ (flip : (x y : A) → same x y ≡ same y x) where
    shuffled : (a b c d : Bool) → ((a || b) || (c || d)) ≡ ((b || c) || (a || d))
    shuffled true true c d = refl
    shuffled true false true d = refl
    shuffled true false false d = refl
    shuffled false true c d = refl
    shuffled false false c d = refl

    pub repeats-last : (xs : List A) (x : A) → repeats_by same (xs ++ x ∷ []) ≡ (list_any (same x) xs || repeats_by same xs)
    repeats-last [] x = refl
    repeats-last (y ∷ xs) x = ap (λ b. b || repeats_by same (xs ++ x ∷ [])) (any-last (same y) xs x) ∙ ap (λ b. (list_any (same y) xs || same y x) || b) (repeats-last xs x)
        ∙ ap (λ b. (list_any (same y) xs || b) || (list_any (same x) xs || repeats_by same xs)) (flip y x)
        ∙ shuffled (list_any (same y) xs) (same x y) (list_any (same x) xs) (repeats_by same xs)

    -- so far nothing was repeated: what the next item repeats
    pub repeats_next : (xs : List A) (i : ℕ) (d : A) → i < length xs → repeats_by same (take i xs) ≡ false → repeats_by same (take (i + 1) xs) ≡ list_any (same (get_or xs i d)) (take i xs)
    repeats_next xs i d l none = ap (repeats_by same) (take_more xs i d l) ∙ repeats-last (take i xs) (get_or xs i d)
        ∙ ap (λ b. list_any (same (get_or xs i d)) (take i xs) || b) none ∙ or_false (list_any (same (get_or xs i d)) (take i xs))

    -- ---- the first that repeats one

    -- one of the items is one of the earlier ones
    abbrev some_earlier : List A → List A → Bool
    some_earlier earlier xs = list_any (λ x. list_any (same x) earlier) xs

    some_earlier-last : (earlier : List A) (x : A) (xs : List A) → some_earlier (earlier ++ x ∷ []) xs ≡ (some_earlier earlier xs || list_any (same x) xs)
    some_earlier-last earlier x xs =
        any-alike (λ y. list_any (same y) (earlier ++ x ∷ [])) (λ y. list_any (same y) earlier || same y x) (λ y. any-last (same y) earlier x) xs
        ∙ any-either (λ y. list_any (same y) earlier) (λ y. same y x) xs
        ∙ ap (λ b. some_earlier earlier xs || b) (any-alike (λ y. same y x) (same x) (λ y. flip y x) xs)

    some_after : (earlier xs : List A) → is_some (repeated_by same earlier xs) ≡ (some_earlier earlier xs || repeats_by same xs)
    some_after earlier [] = refl
    some_after earlier (x ∷ xs) = by (list_any (same x) earlier) (some_after (earlier ++ x ∷ []) xs ∙ ap (λ b. b || repeats_by same xs) (some_earlier-last earlier x xs))
      where
        joined : (a b c : Bool) → ((a || b) || c) ≡ (a || (b || c))
        joined true b c = refl
        joined false b c = refl

        by : (b : Bool) → is_some (repeated_by same (earlier ++ x ∷ []) xs) ≡ ((some_earlier earlier xs || list_any (same x) xs) || repeats_by same xs)
            → is_some (if b then Some x else repeated_by same (earlier ++ x ∷ []) xs) ≡ ((b || some_earlier earlier xs) || (list_any (same x) xs || repeats_by same xs))
        by true next = refl
        by false next = next ∙ joined (some_earlier earlier xs) (list_any (same x) xs) (repeats_by same xs)

    -- a list repeats an item where there is a first that repeats one
    pub some_repeated : (xs : List A) → is_some (repeated_by same [] xs) ≡ repeats_by same xs
    some_repeated xs = some_after [] xs ∙ ap (λ b. b || repeats_by same xs) (none_before xs)
      where
        none_before : (xs : List A) → some_earlier [] xs ≡ false
        none_before [] = refl
        none_before (x ∷ xs) = none_before xs

    pub repeats_none : (xs : List A) → repeated_by same [] xs ≡ None → repeats_by same xs ≡ false
    repeats_none xs h = sym (some_repeated xs) ∙ ap is_some h

    pub none_by : (xs : List A) → repeats_by same xs ≡ false → repeated_by same [] xs ≡ None
    none_by xs h = absent (repeated_by same [] xs) (some_repeated xs ∙ h)
      where
        absent : (o : Option A) → is_some o ≡ false → o ≡ None
        absent None e = refl
        absent (Some x) e = absurd (cc)
