-- What holds of each item of a list holds of each item of the lists that are made of it.
use Rattle.std.proofs.Common.{ℕ, zero, suc, ◌+◌, ◌-◌, Bool, true, false, not, cond, List, [], ◌∷◌, ◌++◌, take, drop, reverse}
use mathlib.Core.List.{reverse_aux}
use Rattle.std.specs.Prelude.{nat_lt, filter, slice_index_or, slice_range, Some, IfSome}
use Rattle.std.specs.List.{AllByRecursion, fold, insert, find}
use Rattle.std.specs.Ordering.{is_lt}
use Rattle.qvt_value.specs.declared.value.Value.{Value}
use Rattle.qvt_value.specs.declared.value.Kind.{Kind}
use Rattle.qvt_value.specs.declared.value.Kind.TheVariants.{Set, Bag, Sequence, OrderedSet}
use Rattle.qvt_value.specs.Kept.{put_in, sorted, firsts, is_same}
use Rattle.qvt_value.specs.Make.{made}
use Rattle.qvt_value.specs.Order.{order_of}
use Rattle.qvt_ocl_words.specs.Lists as lists

module _ (P : Value → Type 0) where
  abbrev Each : List Value → Type 0
  Each = AllByRecursion P

  pub append : (xs ys : List Value) → Each xs → Each ys → Each (xs ++ ys)
  append [] ys a b = b
  append (x ∷ xs) ys a b = (a.0, append xs ys a.1 b)

  pub filtered : (test : Value → Bool) (xs : List Value) → Each xs → Each (filter test xs)
  filtered test [] a = tt
  filtered test (x ∷ xs) a = elim (test x) as (λ b. Each (cond b (x ∷ filter test xs) (filter test xs))) [ true ↦ (a.0, filtered test xs a.1) | false ↦ filtered test xs a.1 ]

  taken : (n : ℕ) (xs : List Value) → Each xs → Each (take n xs)
  taken zero xs a = tt
  taken (suc n) [] a = tt
  taken (suc n) (x ∷ xs) a = (a.0, taken n xs a.1)

  dropped : (n : ℕ) (xs : List Value) → Each xs → Each (drop n xs)
  dropped zero xs a = a
  dropped (suc n) [] a = tt
  dropped (suc n) (x ∷ xs) a = dropped n xs a.1

  pub ranged : (i j : ℕ) (xs : List Value) → Each xs → Each (slice_range xs i j)
  ranged i j xs a = taken (j - i) (drop i xs) (dropped i xs a)

  pub inserted : (i : ℕ) (x : Value) (xs : List Value) → P x → Each xs → Each (insert xs i x)
  inserted i x xs p a = append (take i xs) (x ∷ drop i xs) (taken i xs a) (p, dropped i xs a)

  onto : (xs ys : List Value) → Each xs → Each ys → Each (reverse_aux xs ys)
  onto [] ys a b = b
  onto (x ∷ xs) ys a b = onto xs (x ∷ ys) a.1 (a.0, b)

  pub reversed : (xs : List Value) → Each xs → Each (reverse xs)
  reversed xs a = onto xs [] a tt

  put : (x : Value) (ys : List Value) → P x → Each ys → Each (put_in order_of x ys)
  put x [] p a = (p, tt)
  put x (y ∷ ys) p a = elim (is_lt (order_of y x)) as (λ b. Each (cond b (y ∷ put_in order_of x ys) (x ∷ y ∷ ys))) [ true ↦ (a.0, put x ys p a.1) | false ↦ (p, a) ]

  in_order : (xs : List Value) → Each xs → Each (sorted order_of xs)
  in_order [] a = tt
  in_order (x ∷ xs) a = put x (sorted order_of xs) a.0 (in_order xs a.1)

  once : (xs : List Value) → Each xs → Each (firsts order_of xs)
  once [] a = tt
  once (x ∷ xs) a = (a.0, filtered (λ y. not (is_same order_of x y)) (firsts order_of xs) (once xs a.1))

  pub made_of : (k : Kind) (xs : List Value) → Each xs → Each (made k xs)
  made_of Set xs a = in_order (firsts order_of xs) (once xs a)
  made_of Bag xs a = in_order xs a
  made_of Sequence xs a = a
  made_of OrderedSet xs a = once xs a

  pub commons : (before xs ys : List Value) → Each xs → Each (lists.common_after before xs ys)
  commons before [] ys a = tt
  commons before (x ∷ xs) ys a =
      elim (nat_lt (lists.count x before) (lists.count x ys)) as (λ b. Each (cond b (x ∷ lists.common_after (before ++ x ∷ []) xs ys) (lists.common_after (before ++ x ∷ []) xs ys)))
      [ true ↦ (a.0, commons (before ++ x ∷ []) xs ys a.1) | false ↦ commons (before ++ x ∷ []) xs ys a.1 ]

  -- one item of them
  pub at_index : (xs : List Value) (i : ℕ) (d : Value) → Each xs → P d → P (slice_index_or xs i d)
  at_index [] i d a p = p
  at_index (x ∷ xs) zero d a p = a.0
  at_index (x ∷ xs) (suc i) d a p = at_index xs i d a.1 p

  pub found : (test : Value → Bool) (xs : List Value) → Each xs → IfSome (find test xs) P
  found test [] a = tt
  found test (x ∷ xs) a = elim (test x) as (λ b. IfSome (cond b (Some x) (find test xs)) P) [ true ↦ a.0 | false ↦ found test xs a.1 ]

  chosen : (b : Bool) (v w : Value) → P v → P w → P (cond b v w)
  chosen true v w p q = p
  chosen false v w p q = q

  pub lesser_of : (v w : Value) → P v → P w → P (lists.lesser v w)
  lesser_of v w p q = chosen (is_lt (order_of w v)) w v q p

  pub greater_of : (v w : Value) → P v → P w → P (lists.greater v w)
  greater_of v w p q = chosen (is_lt (order_of v w)) w v q p

  pub one_of : (f : Value → Value → Value) → ((v w : Value) → P v → P w → P (f v w)) → (v : Value) (vs : List Value) → P v → Each vs → P (fold f v vs)
  one_of f h v [] p a = p
  one_of f h v (w ∷ vs) p a = one_of f h (f v w) vs (h v w p a.0) a.1
