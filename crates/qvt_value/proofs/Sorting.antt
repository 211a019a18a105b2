-- Items of which no two are level, put one after another into a list: the sorted list of them.
use Rattle.std.proofs.Common.{◌≡◌, ◌≢◌, ◌∙◌, Bool, true, false, not, ◌||◌, cond, List, [], ◌∷◌, map, Ordering, Less, Equal, Greater, refl, sym, ap}
use Rattle.std.specs.Prelude.{⊤}
use Rattle.std.specs.Cmp.{IsTotalOrder}
use Rattle.std.specs.List.{filter, list_any, AllByRecursion}
use Rattle.std.specs.Ordering.{is_lt, ordering_reverse}
use Rattle.qvt_value.specs.Kept.{put_in, sorted}
use Rattle.qvt_value.proofs.Orders as order

-- ---- what all have, and what one has

or-swap : (a b c : Bool) → (a || (b || c)) ≡ (b || (a || c))
or-swap true true c = refl
or-swap true false c = refl
or-swap false b c = refl

module _ {X : Type 0} (R : X → X → Ordering) where
  pub all-put : (P : X → Type 0) (x : X) (ys : List X) → P x → AllByRecursion P ys → AllByRecursion P (put_in R x ys)
  all-put P x [] p a = (p, tt)
  all-put P x (y ∷ ys) p a = by (is_lt (R y x)) (all-put P x ys p a.1)
    where
      by : (b : Bool) → AllByRecursion P (put_in R x ys) → AllByRecursion P (cond b (y ∷ put_in R x ys) (x ∷ y ∷ ys))
      by true rest = (a.0, rest)
      by false rest = (p, a)

  pub all-sorted : (P : X → Type 0) (xs : List X) → AllByRecursion P xs → AllByRecursion P (sorted R xs)
  all-sorted P [] a = tt
  all-sorted P (x ∷ xs) a = all-put P x (sorted R xs) a.0 (all-sorted P xs a.1)

  any-put : (p : X → Bool) (x : X) (ys : List X) → list_any p (put_in R x ys) ≡ (p x || list_any p ys)
  any-put p x [] = refl
  any-put p x (y ∷ ys) = by (is_lt (R y x)) (any-put p x ys)
    where
      by : (b : Bool) → list_any p (put_in R x ys) ≡ (p x || list_any p ys) → list_any p (cond b (y ∷ put_in R x ys) (x ∷ y ∷ ys)) ≡ (p x || (p y || list_any p ys))
      by true rest = ap (λ b. p y || b) rest ∙ or-swap (p y) (p x) (list_any p ys)
      by false rest = refl

  pub any-sorted : (p : X → Bool) (xs : List X) → list_any p (sorted R xs) ≡ list_any p xs
  any-sorted p [] = refl
  any-sorted p (x ∷ xs) = any-put p x (sorted R xs) ∙ ap (λ b. p x || b) (any-sorted p xs)

  -- ---- no two are level

  abbrev pub IsLevelWithNone : List X → X → Type 0
  IsLevelWithNone ys x = AllByRecursion (λ y. R x y ≢ Equal) ys

  abbrev pub NoneAreLevel : List X → Type 0
  NoneAreLevel [] = ⊤
  NoneAreLevel (x ∷ xs) = IsLevelWithNone xs x × NoneAreLevel xs

  all-filter : (P : X → Type 0) (p : X → Bool) (xs : List X) → AllByRecursion P xs → AllByRecursion P (filter p xs)
  all-filter P p [] a = tt
  all-filter P p (x ∷ xs) a = by (p x) (all-filter P p xs a.1)
    where
      by : (b : Bool) → AllByRecursion P (filter p xs) → AllByRecursion P (cond b (x ∷ filter p xs) (filter p xs))
      by true rest = (a.0, rest)
      by false rest = rest

  pub apart-filter : (p : X → Bool) (xs : List X) → NoneAreLevel xs → NoneAreLevel (filter p xs)
  apart-filter p [] a = tt
  apart-filter p (x ∷ xs) a = by (p x) (apart-filter p xs a.1)
    where
      by : (b : Bool) → NoneAreLevel (filter p xs) → NoneAreLevel (cond b (x ∷ filter p xs) (filter p xs))
      by true rest = (all-filter (λ y. R x y ≢ Equal) p xs a.0, rest)
      by false rest = rest

  -- the items put among the others, the first of them first
  abbrev pub put_each : List X → List X → List X
  put_each ys [] = ys
  put_each ys (x ∷ xs) = put_each (put_in R x ys) xs

all-map : {X Y : Type 0} (f : Y → X) (P : X → Type 0) (ys : List Y) → AllByRecursion (λ y. P (f y)) ys → AllByRecursion P (map f ys)
all-map f P [] a = tt
all-map f P (y ∷ ys) a = (a.0, all-map f P ys a.1)

pub apart-map : {X Y : Type 0} (f : Y → X) (R : X → X → Ordering) (ys : List Y) → NoneAreLevel (λ y z. R (f y) (f z)) ys → NoneAreLevel R (map f ys)
apart-map f R [] a = tt
apart-map f R (y ∷ ys) a = (all-map f (λ x. R (f y) x ≢ Equal) ys a.0, apart-map f R ys a.1)

-- ---- put one after another

module _ {X : Type 0} (R : X → X → Ordering) (o : IsTotalOrder R) where
  pub above : (x y : X) → is_lt (R y x) ≡ true → R x y ≡ Greater
  above x y h = by (R y x) refl h
    where
      by : (r : Ordering) → R y x ≡ r → is_lt r ≡ true → R x y ≡ Greater
      by Less e h = o.antisymm x y ∙ ap ordering_reverse e
      by Equal e h = cc
      by Greater e h = cc

  pub below : (x y : X) → is_lt (R y x) ≡ false → R x y ≢ Equal → R x y ≡ Less
  below x y h n = by (R x y) refl
    where
      by : (r : Ordering) → R x y ≡ r → R x y ≡ Less
      by Less e = e
      by Equal e = absurd (n e)
      by Greater e = absurd (order.not_below R o x y h e)

  -- of two that are not level, one is below the other
  one_below : (x y : X) → R x y ≢ Equal → is_lt (R y x) ≡ not (is_lt (R x y))
  one_below x y h = by (R x y) refl
    where
      by : (r : Ordering) → R x y ≡ r → is_lt (R y x) ≡ not (is_lt r)
      by Less e = ap is_lt (o.antisymm y x ∙ ap ordering_reverse e)
      by Equal e = absurd (h e)
      by Greater e = ap is_lt (o.antisymm y x ∙ ap ordering_reverse e)

  less_is : (r : Ordering) → is_lt r ≡ true → r ≡ Less
  less_is Less h = refl
  less_is Equal h = cc
  less_is Greater h = cc

  lower : (u w t : X) → is_lt (R w t) ≡ true → is_lt (R w u) ≡ false → is_lt (R u t) ≡ true
  lower u w t h n = by (R u w) refl
    where
      by : (r : Ordering) → R u w ≡ r → is_lt (R u t) ≡ true
      by Less e = ap is_lt (o.trans u w t e (less_is (R w t) h))
      by Equal e = ap is_lt (o.congr u w t e) ∙ h
      by Greater e = absurd (order.not_below R o u w n e)

  either_first : (c : Bool) (xs ys : List X) → cond (not c) xs ys ≡ cond c ys xs
  either_first true xs ys = refl
  either_first false xs ys = refl

  -- it makes no difference which of two is put first
  put-put : (t u : X) (ws : List X) → R t u ≢ Equal → put_in R t (put_in R u ws) ≡ put_in R u (put_in R t ws)
  put-put t u [] h = ap (λ c. cond c (u ∷ t ∷ []) (t ∷ u ∷ [])) (one_below t u h) ∙ either_first (is_lt (R t u)) (u ∷ t ∷ []) (t ∷ u ∷ [])
  put-put t u (w ∷ ws) h = by (is_lt (R w t)) (is_lt (R w u)) refl refl (put-put t u ws h)
    where
      by : (a b : Bool) → is_lt (R w t) ≡ a → is_lt (R w u) ≡ b → put_in R t (put_in R u ws) ≡ put_in R u (put_in R t ws)
          → put_in R t (cond b (w ∷ put_in R u ws) (u ∷ w ∷ ws)) ≡ put_in R u (cond a (w ∷ put_in R t ws) (t ∷ w ∷ ws))
      by true true e f rest = ap (λ c. cond c (w ∷ put_in R t (put_in R u ws)) (t ∷ w ∷ put_in R u ws)) e ∙ ap (λ l. w ∷ l) rest
          ∙ sym (ap (λ c. cond c (w ∷ put_in R u (put_in R t ws)) (u ∷ w ∷ put_in R t ws)) f)
      by true false e f rest = ap (λ c. cond c (u ∷ put_in R t (w ∷ ws)) (t ∷ u ∷ w ∷ ws)) (lower u w t e f)
          ∙ ap (λ c. u ∷ cond c (w ∷ put_in R t ws) (t ∷ w ∷ ws)) e
          ∙ sym (ap (λ c. cond c (w ∷ put_in R u (put_in R t ws)) (u ∷ w ∷ put_in R t ws)) f)
      by false true e f rest = ap (λ c. cond c (w ∷ put_in R t (put_in R u ws)) (t ∷ w ∷ put_in R u ws)) e
          ∙ sym (ap (λ c. cond c (t ∷ put_in R u (w ∷ ws)) (u ∷ t ∷ w ∷ ws)) (lower t w u f e)
          ∙ ap (λ c. t ∷ cond c (w ∷ put_in R u ws) (u ∷ w ∷ ws)) f)
      by false false e f rest = ap (λ c. cond (is_lt (R u t)) (u ∷ cond c (w ∷ put_in R t ws) (t ∷ w ∷ ws)) (t ∷ u ∷ w ∷ ws)) e
          ∙ ap (λ c. cond c (u ∷ t ∷ w ∷ ws) (t ∷ u ∷ w ∷ ws)) (one_below t u h)
          ∙ either_first (is_lt (R t u)) (u ∷ t ∷ w ∷ ws) (t ∷ u ∷ w ∷ ws)
          ∙ sym (ap (λ c. cond (is_lt (R t u)) (t ∷ cond c (w ∷ put_in R u ws) (u ∷ w ∷ ws)) (u ∷ t ∷ w ∷ ws)) f)

  put_each-put : (t : X) (ys us : List X) → IsLevelWithNone R us t → put_each R (put_in R t ys) us ≡ put_in R t (put_each R ys us)
  put_each-put t ys [] a = refl
  put_each-put t ys (u ∷ us) a = ap (λ l. put_each R l us) (sym (put-put t u ys a.0)) ∙ put_each-put t (put_in R u ys) us a.1

  pub put_each-sorted : (xs : List X) → NoneAreLevel R xs → put_each R [] xs ≡ sorted R xs
  put_each-sorted [] a = refl
  put_each-sorted (x ∷ xs) a = put_each-put x [] xs a.0 ∙ ap (put_in R x) (put_each-sorted xs a.1)

  -- what is apart from some is apart from them with one more, from which it is apart
  pub still-apart : (x : X) (ys us : List X) → IsLevelWithNone R us x → AllByRecursion (IsLevelWithNone R ys) us → AllByRecursion (IsLevelWithNone R (put_in R x ys)) us
  still-apart x ys [] h a = tt
  still-apart x ys (u ∷ us) h a = (all-put R (λ y. R u y ≢ Equal) x ys (λ e. h.0 (o.antisymm x u ∙ ap ordering_reverse e)) a.0, still-apart x ys us h.1 a.1)
