-- What fits: answers that are too large, and lists whose items all fit.
use Rattle.std.proofs.Common.{◌≡◌, ◌∙◌, ℕ, zero, suc, ◌+◌, ◌-◌, Bool, true, false, not, ◌&&◌, ◌||◌, cond, ℤ, pos, neg_ℤ, ◌+ℤ◌, List, [], ◌∷◌, ◌++◌, length, take, drop, map, reverse, refl, sym, ap, subst}
use mathlib.Core.List.{reverse_aux}
use Rattle.std.specs.Prelude.{⊤, ◌==◌, slice_index, Option, Some, None, IsSomeAnd, nat_lt, int_div, int_rem, filter, slice_index_or, slice_range, encode_utf8}
use Rattle.std.specs.List.{list_any, list_all, fold, insert}
use Rattle.std.specs.Ordering.{is_lt}
use Rattle.std.specs.Str.{chars, encode_utf8_all}
use Rattle.qvt_base.specs.declared.numbers.Oid.{Oid}
use Rattle.qvt_base.specs.declared.numbers.Place.{Place}
use Rattle.qvt_value.specs.declared.value.LiteralRef.{LiteralRef}
use Rattle.qvt_value.specs.declared.value.Value.{Value, Null, Bool as Truth, Int, Str, Enum, Obj, Coll', Invalid, Row_of-Value, end_of-Value, more_of-Value, items-the_row-Value, items_hidden-the_row-Value-0}
use Rattle.qvt_value.specs.declared.value.Value.TheViews.{Coll}
use Rattle.qvt_value.specs.declared.value.Kind.{Kind}
use Rattle.qvt_value.specs.declared.value.Kind.TheVariants.{Set, Bag, Sequence, OrderedSet}
use Rattle.qvt_value.specs.declared.value.Reason.{Reason}
use Rattle.qvt_value.specs.declared.value.Reason.TheVariants.{Overflow, ZeroDivide, BadIndex, BadNumber, TooLarge, EmptySource, NullValue}
use Rattle.qvt_value.specs.Kept.{put_in, sorted, firsts, without, is_same}
use Rattle.qvt_value.specs.Make.{made, is_invalid}
use Rattle.qvt_value.specs.Order.{order_of}
use Rattle.qvt_value.specs.Limits.{is_beyond, limited}
use Rattle.qvt_ocl_words.specs.Integers.{fits_64, whole, is_zero, quotient, remainder}
use Rattle.qvt_ocl_words.specs.Strings.{is_span, natural, substring, if_whole, integer_in, is_number, number_after}
use Rattle.qvt_ocl_words.specs.Lists as lists
use Rattle.qvt_ocl_words.specs.Collections.{kept, item_at, part, inserted}
use Rattle.qvt_types_data.specs.Term.{TyTerm, Void, Boolean, Integer, Text, Literals, Class, Collection}
use Rattle.qvt_ocl_types.specs.Types.{innermost}
use Rattle.qvt_ocl_types.specs.Fits.{Each, Sure, IsNothing, IsTruth, IsNumber, IsText, IsCollection, Fits}

-- ---- numbers and texts

pub whole_is : (at : Place) (z : ℤ) → IsNumber (whole at z)
whole_is at z = elim (fits_64 z) as (λ b. IsNumber (cond b (Int z) (Invalid Overflow at))) [ true ↦ tt | false ↦ tt ]

pub quotient_is : (at : Place) (a b : ℤ) → IsNumber (quotient at a b)
quotient_is at a b = elim (is_zero b) as (λ t. IsNumber (cond t (Invalid ZeroDivide at) (whole at (int_div a b)))) [ true ↦ tt | false ↦ whole_is at (int_div a b) ]

remainder_in : (at : Place) (s t : Bool) (z : ℤ) → IsNumber (cond s (Invalid ZeroDivide at) (cond t (Int z) (Invalid Overflow at)))
remainder_in at true t z = tt
remainder_in at false true z = tt
remainder_in at false false z = tt

pub remainder_is : (at : Place) (a b : ℤ) → IsNumber (remainder at a b)
remainder_is at a b = remainder_in at (is_zero b) (fits_64 (int_div a b)) (int_rem a b)

substring_in : (at : Place) (b : Bool) (s : List ℕ) → IsText (cond b (Str s) (Invalid BadIndex at))
substring_in at true s = tt
substring_in at false s = tt

pub substring_is : (at : Place) (s : List ℕ) (l u : ℤ) → IsText (substring at s l u)
substring_is at s l u = substring_in at (is_span l u (length (chars s))) (encode_utf8_all (slice_range (chars s) (natural l - 1) (natural u)))

if_whole_is : (at : Place) (b : Bool) (z : ℤ) → IsNumber (if_whole at b z)
if_whole_is at b z = elim (b && fits_64 z) as (λ t. IsNumber (cond t (Int z) (Invalid BadNumber at))) [ true ↦ tt | false ↦ tt ]

integer_either : (b : Bool) (v w : Value) → IsNumber v → IsNumber w → IsNumber (cond b v w)
integer_either true v w h k = h
integer_either false v w h k = k

pub integer_in_is : (at : Place) (s : List ℕ) → IsNumber (integer_in at s)
integer_in_is at s =
    integer_either (slice_index s 0 == 45) (if_whole at (is_number (drop 1 s)) (neg_ℤ (pos (number_after 0 (drop 1 s))))) (if_whole at (is_number s) (pos (number_after 0 s)))
    (if_whole_is at (is_number (drop 1 s)) (neg_ℤ (pos (number_after 0 (drop 1 s))))) (if_whole_is at (is_number s) (pos (number_after 0 s)))

-- ---- lists

module _ (P : Value → Type 0) where
  pub append : (xs ys : List Value) → Each P xs → Each P ys → Each P (xs ++ ys)
  append [] ys a b = b
  append (x ∷ xs) ys a b = (a.0, append xs ys a.1 b)

  pub filtered : (test : Value → Bool) (xs : List Value) → Each P xs → Each P (filter test xs)
  filtered test [] a = tt
  filtered test (x ∷ xs) a = elim (test x) as (λ b. Each P (cond b (x ∷ filter test xs) (filter test xs))) [ true ↦ (a.0, filtered test xs a.1) | false ↦ filtered test xs a.1 ]

  pub taken : (n : ℕ) (xs : List Value) → Each P xs → Each P (take n xs)
  taken zero xs a = tt
  taken (suc n) [] a = tt
  taken (suc n) (x ∷ xs) a = (a.0, taken n xs a.1)

  pub dropped : (n : ℕ) (xs : List Value) → Each P xs → Each P (drop n xs)
  dropped zero xs a = a
  dropped (suc n) [] a = tt
  dropped (suc n) (x ∷ xs) a = dropped n xs a.1

  onto : (xs ys : List Value) → Each P xs → Each P ys → Each P (reverse_aux xs ys)
  onto [] ys a b = b
  onto (x ∷ xs) ys a b = onto xs (x ∷ ys) a.1 (a.0, b)

  pub reversed : (xs : List Value) → Each P xs → Each P (reverse xs)
  reversed xs a = onto xs [] a tt

  put : (x : Value) (ys : List Value) → P x → Each P ys → Each P (put_in order_of x ys)
  put x [] p a = (p, tt)
  put x (y ∷ ys) p a = elim (is_lt (order_of y x)) as (λ b. Each P (cond b (y ∷ put_in order_of x ys) (x ∷ y ∷ ys))) [ true ↦ (a.0, put x ys p a.1) | false ↦ (p, a) ]

  in_order : (xs : List Value) → Each P xs → Each P (sorted order_of xs)
  in_order [] a = tt
  in_order (x ∷ xs) a = put x (sorted order_of xs) a.0 (in_order xs a.1)

  once : (xs : List Value) → Each P xs → Each P (firsts order_of xs)
  once [] a = tt
  once (x ∷ xs) a = (a.0, filtered (λ y. not (is_same order_of x y)) (firsts order_of xs) (once xs a.1))

  pub made_of : (k : Kind) (xs : List Value) → Each P xs → Each P (made k xs)
  made_of Set xs a = in_order (firsts order_of xs) (once xs a)
  made_of Bag xs a = in_order xs a
  made_of Sequence xs a = a
  made_of OrderedSet xs a = once xs a

  pub commons : (before xs ys : List Value) → Each P xs → Each P (lists.common_after before xs ys)
  commons before [] ys a = tt
  commons before (x ∷ xs) ys a =
      elim (nat_lt (lists.count x before) (lists.count x ys)) as (λ b. Each P (cond b (x ∷ lists.common_after (before ++ x ∷ []) xs ys) (lists.common_after (before ++ x ∷ []) xs ys)))
      [ true ↦ (a.0, commons (before ++ x ∷ []) xs ys a.1) | false ↦ commons (before ++ x ∷ []) xs ys a.1 ]

  pub at_index : (xs : List Value) (i : ℕ) (d : Value) → Each P xs → P d → P (slice_index_or xs i d)
  at_index [] i d a p = p
  at_index (x ∷ xs) zero d a p = a.0
  at_index (x ∷ xs) (suc i) d a p = at_index xs i d a.1 p

  pub one_of : (f : Value → Value → Value) → ((v w : Value) → P v → P w → P (f v w)) → (v : Value) (vs : List Value) → P v → Each P vs → P (fold f v vs)
  one_of f h v [] p a = p
  one_of f h v (w ∷ vs) p a = one_of f h (f v w) vs (h v w p a.0) a.1

  chosen : (b : Bool) (v w : Value) → P v → P w → P (cond b v w)
  chosen true v w p q = p
  chosen false v w p q = q

  pub lesser_of : (v w : Value) → P v → P w → P (lists.lesser v w)
  lesser_of v w p q = chosen (is_lt (order_of w v)) w v q p

  pub greater_of : (v w : Value) → P v → P w → P (lists.greater v w)
  greater_of v w p q = chosen (is_lt (order_of v w)) w v q p

pub each_map : (P Q : Value → Type 0) → ((v : Value) → P v → Q v) → (xs : List Value) → Each P xs → Each Q xs
each_map P Q h [] a = tt
each_map P Q h (x ∷ xs) a = (h x a.0, each_map P Q h xs a.1)

-- ---- collections

module _ (P : Value → Type 0) where
  pub coll_is : (k : Kind) (ys : List Value) → Each (Sure P) ys → IsCollection k P (Coll k ys)
  coll_is k ys a = (refl, subst (Each (Sure P)) (sym (items_hidden-the_row-Value-0 ys)) a)

  pub kept_is : (k : Kind) (xs : List Value) → Each (Sure P) xs → IsCollection k P (kept k xs)
  unfolding kept
  kept_is k xs a = coll_is k (made k xs) (made_of (Sure P) k xs a)

  either : (k : Kind) (b : Bool) (v w : Value) → IsCollection k P v → IsCollection k P w → IsCollection k P (cond b v w)
  either k true v w h g = h
  either k false v w h g = g

  pub part_is : (at : Place) (k : Kind) (xs : List Value) (l u : ℤ) → Each (Sure P) xs → IsCollection k P (part at k xs l u)
  part_is at k xs l u a =
      either k (is_span l u (length xs)) (kept k (slice_range xs (natural l - 1) (natural u))) (Invalid BadIndex at)
      (kept_is k (slice_range xs (natural l - 1) (natural u)) (taken (Sure P) (natural u - (natural l - 1)) (drop (natural l - 1) xs) (dropped (Sure P) (natural l - 1) xs a))) tt

  pub inserted_is : (at : Place) (k : Kind) (xs : List Value) (i : ℤ) (x : Value) → Each (Sure P) xs → Sure P x → IsCollection k P (inserted at k xs i x)
  inserted_is at k xs i x a p =
      either k (is_span i i (length xs + 1)) (kept k (insert xs (natural i - 1) x)) (Invalid BadIndex at)
      (kept_is k (insert xs (natural i - 1) x) (append (Sure P) (take (natural i - 1) xs) (x ∷ drop (natural i - 1) xs) (taken (Sure P) (natural i - 1) xs a) (p, dropped (Sure P) (natural i - 1) xs a))) tt

pub strings_are : (cs : List ℕ) → Each (Sure IsText) (map (λ c. Str (encode_utf8 c)) cs)
strings_are [] = tt
strings_are (c ∷ cs) = ((tt, refl), strings_are cs)

-- ---- types

module _ (literals : ℕ → ℕ → LiteralRef → Bool) (objects : ℕ → Oid → Bool) where
  abbrev In : TyTerm → Value → Type 0
  In T v = Fits literals objects T v

  pub invalid_fits : (T : TyTerm) (r : Reason) (p : Place) → In T (Invalid r p)
  invalid_fits Void r p = tt
  invalid_fits Boolean r p = tt
  invalid_fits Integer r p = tt
  invalid_fits Text r p = tt
  invalid_fits (Literals m e) r p = tt
  invalid_fits (Class c) r p = tt
  invalid_fits (Collection k T) r p = tt

  -- an answer beyond the limits is invalid, which fits every type
  pub limited_fits : (T : TyTerm) (at : Place) (v : Value) → In T v → In T (limited at v)
  unfolding limited
  limited_fits T at v h = elim (is_beyond v) as (λ b. In T (cond b (Invalid TooLarge at) v)) [ true ↦ invalid_fits T TooLarge at | false ↦ h ]

  pub null_fits : (T : TyTerm) → In T Null
  null_fits Void = tt
  null_fits Boolean = tt
  null_fits Integer = tt
  null_fits Text = tt
  null_fits (Literals m e) = tt
  null_fits (Class c) = tt
  null_fits (Collection k T) = tt

  pub first_fits : (T : TyTerm) (at : Place) (xs : List Value) → Each (Sure (In T)) xs → In T (lists.first_of at xs)
  first_fits T at [] a = invalid_fits T EmptySource at
  first_fits T at (x ∷ xs) a = a.0.0

  pub last_fits : (T : TyTerm) (at : Place) (xs : List Value) → Each (Sure (In T)) xs → In T (lists.last_of at xs)
  last_fits T at [] a = invalid_fits T EmptySource at
  last_fits T at (x ∷ []) a = a.0.0
  last_fits T at (x ∷ y ∷ xs) a = last_fits T at (y ∷ xs) a.1

  item_either : (T : TyTerm) (at : Place) (b : Bool) (v : Value) → In T v → In T (cond b v (Invalid BadIndex at))
  item_either T at true v h = h
  item_either T at false v h = invalid_fits T BadIndex at

  pub item_fits : (T : TyTerm) (at : Place) (xs : List Value) (i : ℤ) → Each (Sure (In T)) xs → In T (item_at at xs i)
  item_fits T at xs i a =
      item_either T at (is_span i i (length xs)) (slice_index_or xs (natural i - 1) Null)
      (at_index (In T) xs (natural i - 1) Null (each_map (Sure (In T)) (In T) (λ v h. h.0) xs a) (null_fits T))

  -- ---- flatten

  row_flat : (P Q : Value → Type 0) → ((v : Value) → P v → Each Q (lists.innermost v)) → {m : _} (r : Row_of-Value m) → Each P (items-the_row-Value m r) → Each Q (lists.flattened_row r)
  row_flat P Q f end_of-Value a = tt
  row_flat P Q f (more_of-Value v vs) a = append Q (lists.innermost v) (lists.flattened_row vs) (f v a.0) (row_flat P Q f vs a.1)

  pub one_flat : (T : TyTerm) (v : Value) → Sure (In T) v → Each (Sure (In (innermost T))) (lists.innermost v)
  one_flat (Collection k T) (Coll' l s r) h = row_flat (Sure (In T)) (Sure (In (innermost T))) (one_flat T) r h.0.1
  one_flat (Collection k T) Null h = ((null_fits (innermost T), refl), tt)
  one_flat (Collection k T) (Invalid r p) h = cc
  one_flat (Collection k T) v h = absurd h.0
  one_flat Void (Coll' l s r) h = absurd h.0
  one_flat Boolean (Coll' l s r) h = absurd h.0
  one_flat Integer (Coll' l s r) h = absurd h.0
  one_flat Text (Coll' l s r) h = absurd h.0
  one_flat (Literals m e) (Coll' l s r) h = absurd h.0
  one_flat (Class c) (Coll' l s r) h = absurd h.0
  one_flat T v h = (h, tt)

  pub flat : (T : TyTerm) (xs : List Value) → Each (Sure (In T)) xs → Each (Sure (In (innermost T))) (lists.flattened xs)
  flat T [] a = tt
  flat T (x ∷ xs) a = append (Sure (In (innermost T))) (lists.innermost x) (lists.flattened xs) (one_flat T x a.0) (flat T xs a.1)

-- ---- sums, least and greatest

none_right : (a b : Bool) → (a || b) ≡ false → b ≡ false
none_right false b h = h
none_right true b h = cc

sum_from_is : (at : Place) (n : ℤ) (xs : List Value) → Each (Sure IsNumber) xs → list_any lists.is_null xs ≡ false → IsSomeAnd (lists.sum_from at n xs) IsNumber
sum_from_is at n [] a h = tt
sum_from_is at n (Int m ∷ xs) a h =
    elim (fits_64 (n +ℤ m)) as (λ b. IsSomeAnd (cond b (lists.sum_from at (n +ℤ m) xs) (Some (Invalid Overflow at))) IsNumber) [ true ↦ sum_from_is at (n +ℤ m) xs a.1 h | false ↦ tt ]
sum_from_is at n (Null ∷ xs) a h = cc
sum_from_is at n (Invalid r p ∷ xs) a h = let e = a.0.1 in cc
sum_from_is at n (v ∷ xs) a h = absurd a.0.0

unless : (P : Value → Type 0) (at : Place) (xs : List Value) (o : Option Value) → P (Invalid NullValue at) → (list_any lists.is_null xs ≡ false → IsSomeAnd o P) → IsSomeAnd (lists.unless_null_item at xs o) P
unless P at xs o p f = go (list_any lists.is_null xs) refl
  where
    go : (b : Bool) → list_any lists.is_null xs ≡ b → IsSomeAnd (cond b (Some (Invalid NullValue at)) o) P
    go true e = p
    go false e = f e

all_numbers : (xs : List Value) → Each (Sure IsNumber) xs → list_any lists.is_null xs ≡ false → list_all lists.is_integer xs ≡ true
all_numbers [] a h = refl
all_numbers (Int m ∷ xs) a h = all_numbers xs a.1 h
all_numbers (Null ∷ xs) a h = cc
all_numbers (Invalid r p ∷ xs) a h = let e = a.0.1 in cc
all_numbers (v ∷ xs) a h = absurd a.0.0

pub sum_is : (at : Place) (xs : List Value) → Each (Sure IsNumber) xs → IsSomeAnd (lists.sum_of at xs) IsNumber
sum_is at xs a =
    unless IsNumber at xs (cond (list_all lists.is_integer xs) (lists.sum_from at (pos 0) xs) None) tt
    (λ h. subst (λ b. IsSomeAnd (cond b (lists.sum_from at (pos 0) xs) None) IsNumber) (sym (all_numbers xs a h)) (sum_from_is at (pos 0) xs a h))

all_texts : (xs : List Value) → Each (Sure IsText) xs → list_any lists.is_null xs ≡ false → list_all lists.is_string xs ≡ true
all_texts [] a h = refl
all_texts (Str s ∷ xs) a h = all_texts xs a.1 h
all_texts (Null ∷ xs) a h = cc
all_texts (Invalid r p ∷ xs) a h = let e = a.0.1 in cc
all_texts (v ∷ xs) a h = absurd a.0.0

or_left : (a b : Bool) → a ≡ true → (a || b) ≡ true
or_left true b h = refl
or_left false b h = cc

or_right : (a b : Bool) → b ≡ true → (a || b) ≡ true
or_right true b h = refl
or_right false b h = h

-- items that fit, and are ordered unless one is null
pub best_is : (P : Value → Type 0) (f : Value → Value → Value) → ((v w : Value) → Sure P v → Sure P w → Sure P (f v w)) → ((r : Reason) (p : Place) → P (Invalid r p)) → (at : Place) (xs : List Value) → Each (Sure P) xs
    → (list_any lists.is_null xs ≡ false → lists.are_ordered xs ≡ true) → IsSomeAnd (lists.best_by f at xs) P
best_is P f h i at [] a o = i EmptySource at
best_is P f h i at (x ∷ xs) a o = unless P at (x ∷ xs) (cond (lists.are_ordered (x ∷ xs)) (Some (fold f x xs)) None) (i NullValue at) (λ e. subst (λ b. IsSomeAnd (cond b (Some (fold f x xs)) None) P) (sym (o e)) (one_of (Sure P) f h x xs a.0 a.1).0)

pub ordered_numbers : (xs : List Value) → Each (Sure IsNumber) xs → list_any lists.is_null xs ≡ false → lists.are_ordered xs ≡ true
ordered_numbers xs a h = or_left (list_all lists.is_integer xs) (list_all lists.is_string xs) (all_numbers xs a h)

pub ordered_texts : (xs : List Value) → Each (Sure IsText) xs → list_any lists.is_null xs ≡ false → lists.are_ordered xs ≡ true
ordered_texts xs a h = or_right (list_all lists.is_integer xs) (list_all lists.is_string xs) (all_texts xs a h)

pub nothing_number : (v : Value) → Sure IsNothing v → Sure IsNumber v
nothing_number Null h = (tt, refl)
nothing_number (Invalid r p) h = (tt, h.1)
nothing_number v h = absurd h.0
