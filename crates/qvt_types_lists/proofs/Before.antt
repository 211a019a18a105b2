-- The first place at which a test passes, and the items before a place.
use Rattle.std.proofs.Common.{◌≡◌, ◌∙◌, ℕ, zero, suc, ◌+◌, ◌<◌, ◌≤◌, List, [], ◌∷◌, take, Bool, true, false, not, ◌||◌, Some, None, position, refl, sym, ap, arith}
use Rattle.std.specs.Prelude.{if◌then◌else◌, nat_lt}
use Rattle.std.specs.List.{list_any}
use Rattle.std.proofs.lemmas.Bool.{lt-ltb, ltb-true}
use Rattle.qvt_meta_names.proofs.Tables.{first_at, first-position}
use Rattle.qvt_metamodel.proofs.Bools.{not_true}
use Rattle.qvt_types_lists.specs.Same.{is_before}

none_before : {X : Type 0} (p : X → Bool) (a b : ℕ) (xs : List X) → a ≤ b → is_before a (first_at p b xs) ≡ false
none_before p a b [] l = refl
none_before p a b (x ∷ xs) l = by (p x) (none_before p a (b + 1) xs (omega (arith, l)))
  where
    by : (t : Bool) → is_before a (first_at p (b + 1) xs) ≡ false → is_before a (if t then Some b else first_at p (b + 1) xs) ≡ false
    by true rest = not_true (nat_lt b a) (λ h. (let low : b < a = ltb-true b a h in absurd (omega (arith, low, l))))
    by false rest = rest

before_from : {X : Type 0} (p : X → Bool) (a n : ℕ) (xs : List X) → list_any p (take n xs) ≡ is_before (a + n) (first_at p a xs)
before_from p a zero xs = sym (none_before p (a + 0) a xs (omega arith))
before_from p a (suc n) [] = refl
before_from p a (suc n) (x ∷ xs) = by (p x) (before_from p (a + 1) n xs)
  where
    by : (t : Bool) → list_any p (take n xs) ≡ is_before (a + 1 + n) (first_at p (a + 1) xs)
        → (t || list_any p (take n xs)) ≡ is_before (a + suc n) (if t then Some a else first_at p (a + 1) xs)
    by true h = sym (lt-ltb a (a + suc n) (omega arith))
    by false h = h ∙ ap (λ k. is_before k (first_at p (a + 1) xs)) (let same : a + 1 + n ≡ a + suc n = omega arith in same)

pub any_before : {X : Type 0} (p : X → Bool) (n : ℕ) (xs : List X) → list_any p (take n xs) ≡ is_before n (position p xs)
any_before p n xs = before_from p 0 n xs ∙ ap (λ k. is_before k (first_at p 0 xs)) (let same : 0 + n ≡ n = omega arith in same) ∙ ap (is_before n) (first-position p xs)

none_from : {X : Type 0} (p : X → Bool) (n : ℕ) (xs : List X) → ((x : X) → p x ≡ false) → first_at p n xs ≡ None
none_from p n [] fails = refl
none_from p n (x ∷ xs) fails = ap (λ b. if b then Some n else first_at p (n + 1) xs) (fails x) ∙ none_from p (n + 1) xs fails

pub nowhere : {X : Type 0} (p : X → Bool) (xs : List X) → ((x : X) → p x ≡ false) → None ≡ position p xs
nowhere p xs fails = sym (none_from p 0 xs fails) ∙ first-position p xs

pub twice : (b : Bool) → b ≡ not (not b)
twice true = refl
twice false = refl
