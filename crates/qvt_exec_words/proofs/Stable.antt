-- A stable sort, whatever its way, gives the one list in order in which what ties keeps its order.
use Rattle.std.proofs.Common.{◌≡◌, ◌≢◌, ◌∙◌, Bool, true, false, cond, refl, sym, ap, List, [], ◌∷◌, filter}
use Rattle.std.specs.Prelude.{not, ◌&&◌}
use Rattle.std.specs.Cmp.{IsTotalOrder}
use Rattle.std.specs.List.Sorted.{IsSortedBy, IsStableBy, ties}
use Rattle.std.specs.Ordering.{is_eq, is_lt, ordering_reverse}
use Rattle.std.specs.declared.cmp.Ordering.{Ordering}
use Rattle.std.specs.declared.cmp.Ordering.TheVariants.{Less, Equal, Greater}
use Rattle.qvt_value.specs.Kept as kept
use Rattle.qvt_value.proofs.InOrder as placed
use Rattle.qvt_value.proofs.Orders as order

module _ {X : Type 0} (R : X → X → Ordering) (o : IsTotalOrder R) where
  abbrev below : X → X → Bool
  below x y = is_lt (R x y)

  abbrev tied : X → X → Bool
  tied = ties below

  abbrev InOrder : List X → Type 0
  InOrder = placed.InOrder R

  -- ---- what the sort puts in order

  first_put : (w x : X) (ys : List X) → R w x ≢ Greater → placed.IsFirst R w ys → placed.IsFirst R w (kept.put_in R x ys)
  first_put w x [] p a = (p, tt)
  first_put w x (y ∷ ys) p a = by (is_lt (R y x)) (first_put w x ys p a.1)
    where
      by : (b : Bool) → placed.IsFirst R w (kept.put_in R x ys) → placed.IsFirst R w (cond b (y ∷ kept.put_in R x ys) (x ∷ y ∷ ys))
      by true k = (a.0, k)
      by false k = (p, a)

  order_put : (x : X) (ys : List X) → InOrder ys → InOrder (kept.put_in R x ys)
  order_put x [] a = (tt, tt)
  order_put x (y ∷ ys) a = by (is_lt (R y x)) refl (order_put x ys a.1)
    where
      by : (b : Bool) → is_lt (R y x) ≡ b → InOrder (kept.put_in R x ys) → InOrder (cond b (y ∷ kept.put_in R x ys) (x ∷ y ∷ ys))
      by true e k = (first_put y x ys (order.below R o x y e) a.0, k)
      by false e k = ((order.not_below R o x y e, placed.first_by R o x y ys (order.not_below R o x y e) a.0), a)

  order_sorted : (xs : List X) → InOrder (kept.sorted R xs)
  order_sorted [] = tt
  order_sorted (x ∷ xs) = order_put x (kept.sorted R xs) (order_sorted xs)

  -- ---- what ties

  tied_is : (x y : X) → tied x y ≡ is_eq (R x y)
  tied_is x y = ap (λ r. not (is_lt (R x y)) && not (is_lt r)) (o.antisymm y x) ∙ by (R x y)
    where
      by : (r : Ordering) → (not (is_lt r) && not (is_lt (ordering_reverse r))) ≡ is_eq r
      by Less = refl
      by Equal = refl
      by Greater = refl

  equal_is : (r : Ordering) → is_eq r ≡ true → r ≡ Equal
  equal_is Less h = cc
  equal_is Equal h = refl
  equal_is Greater h = cc

  level_of : (x y : X) → tied x y ≡ true → R x y ≡ Equal
  level_of x y h = equal_is (R x y) (sym (tied_is x y) ∙ h)

  tied_of : (x y : X) → R x y ≡ Equal → tied x y ≡ true
  tied_of x y h = tied_is x y ∙ ap is_eq h

  itself : (x : X) → tied x x ≡ true
  itself x = tied_of x x (order.itself R o x)

  kept_one : (x y : X) (ys : List X) → tied x y ≡ true → filter (tied x) (y ∷ ys) ≡ y ∷ filter (tied x) ys
  kept_one x y ys h = ap (λ b. cond b (y ∷ filter (tied x) ys) (filter (tied x) ys)) h

  left_one : (x y : X) (ys : List X) → tied x y ≡ false → filter (tied x) (y ∷ ys) ≡ filter (tied x) ys
  left_one x y ys h = ap (λ b. cond b (y ∷ filter (tied x) ys) (filter (tied x) ys)) h

  -- ---- the sort keeps the order of what ties

  filter_put : (z x : X) (ys : List X) → filter (tied z) (kept.put_in R x ys) ≡ filter (tied z) (x ∷ ys)
  filter_put z x [] = refl
  filter_put z x (y ∷ ys) = by (is_lt (R y x)) refl (filter_put z x ys)
    where
      apart : {A : Type 0} → is_lt (R y x) ≡ true → tied z x ≡ true → tied z y ≡ true → A
      apart l e f =
          let same : R y x ≡ Equal = sym (o.congr z y x (level_of z y f)) ∙ level_of z x e in
          let d : false ≡ true = ap is_lt (sym same) ∙ l in cc

      swap : (b c : Bool) (g : List X) → (b ≡ true → c ≡ true → cond c (y ∷ cond b (x ∷ g) g) (cond b (x ∷ g) g) ≡ cond b (x ∷ cond c (y ∷ g) g) (cond c (y ∷ g) g)) → cond c (y ∷ cond b (x ∷ g) g) (cond b (x ∷ g) g) ≡ cond b (x ∷ cond c (y ∷ g) g) (cond c (y ∷ g) g)
      swap true true g h = h refl refl
      swap true false g h = refl
      swap false true g h = refl
      swap false false g h = refl

      by : (b : Bool) → is_lt (R y x) ≡ b → filter (tied z) (kept.put_in R x ys) ≡ filter (tied z) (x ∷ ys) → filter (tied z) (cond b (y ∷ kept.put_in R x ys) (x ∷ y ∷ ys)) ≡ filter (tied z) (x ∷ y ∷ ys)
      by true l k =
          ap (λ g. cond (tied z y) (y ∷ g) g) k
          ∙ swap (tied z x) (tied z y) (filter (tied z) ys) (λ e f. apart l e f)
      by false l k = refl

  filter_sorted : (z : X) (xs : List X) → filter (tied z) (kept.sorted R xs) ≡ filter (tied z) xs
  filter_sorted z [] = refl
  filter_sorted z (x ∷ xs) = filter_put z x (kept.sorted R xs) ∙ ap (λ g. cond (tied z x) (x ∷ g) g) (filter_sorted z xs)

  -- ---- one list in order has these

  found : (n x : X) (ys : List X) (w : X) (ws : List X) → placed.IsFirst R n ys → filter (tied x) ys ≡ w ∷ ws → R n x ≢ Greater
  found n x [] w ws a e = cc
  found n x (y ∷ ys) w ws a e = by (tied x y) refl (found n x ys w ws a.1)
    where
      by : (b : Bool) → tied x y ≡ b → (filter (tied x) ys ≡ w ∷ ws → R n x ≢ Greater) → R n x ≢ Greater
      by true h k =
          let back : R y x ≡ Equal = o.antisymm y x ∙ ap ordering_reverse (level_of x y h) in
          order.chain R o n y x a.0 (λ g. let d : Equal ≡ Greater = sym back ∙ g in cc)
      by false h k = k (sym (left_one x y ys h) ∙ e)

  tails_of : (x y z : X) (xs ys : List X) → x ≡ y → filter (tied z) (x ∷ xs) ≡ filter (tied z) (y ∷ ys) → filter (tied z) xs ≡ filter (tied z) ys
  tails_of x y z xs ys h e = by (tied z x) refl
    where
      by : (b : Bool) → tied z x ≡ b → filter (tied z) xs ≡ filter (tied z) ys
      by true t = let both : x ∷ filter (tied z) xs ≡ y ∷ filter (tied z) ys = sym (kept_one z x xs t) ∙ e ∙ kept_one z y ys (ap (tied z) (sym h) ∙ t) in cc
      by false t = sym (left_one z x xs t) ∙ e ∙ left_one z y ys (ap (tied z) (sym h) ∙ t)

  one_order : (xs ys : List X) → InOrder xs → InOrder ys → ((z : X) → filter (tied z) xs ≡ filter (tied z) ys) → xs ≡ ys
  one_order [] [] a b h = refl
  one_order [] (y ∷ ys) a b h = let d : [] ≡ y ∷ filter (tied y) ys = h y ∙ kept_one y y ys (itself y) in cc
  one_order (x ∷ xs) [] a b h = let d : [] ≡ x ∷ filter (tied x) xs = sym (h x) ∙ kept_one x x xs (itself x) in cc
  one_order (x ∷ xs) (y ∷ ys) a b h =
      let at_x : filter (tied x) (x ∷ xs) ≡ x ∷ filter (tied x) xs = kept_one x x xs (itself x) in
      let at_y : filter (tied y) (y ∷ ys) ≡ y ∷ filter (tied y) ys = kept_one y y ys (itself y) in
      let low : R y x ≢ Greater = found y x (y ∷ ys) x (filter (tied x) xs) (order.not_above_itself R o y, b.0) (sym (h x) ∙ at_x) in
      let high : R x y ≢ Greater = found x y (x ∷ xs) y (filter (tied y) ys) (order.not_above_itself R o x, a.0) (h y ∙ at_y) in
      let tie : tied x y ≡ true = tied_of x y (order.level R o x y high low) in
      let both : x ∷ filter (tied x) xs ≡ y ∷ filter (tied x) ys = sym at_x ∙ h x ∙ kept_one x y ys tie in
      let head : x ≡ y = cc in
      let tails : xs ≡ ys = one_order xs ys a.1 b.1 (λ z. tails_of x y z xs ys head (h z)) in
      λ i. head i ∷ tails i

  pub stable_is : (xs ys : List X) → IsSortedBy below ys → IsStableBy below xs ys → ys ≡ kept.sorted R xs
  stable_is xs ys s t =
      one_order ys (kept.sorted R xs) (placed.in_order R o ys s) (order_sorted xs) (λ z. t z ∙ sym (filter_sorted z xs))
