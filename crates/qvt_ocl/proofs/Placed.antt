-- One more item in a list that is in order, and in one in which besides nothing stands twice.
use Rattle.std.proofs.Common.{◌≡◌, ◌∙◌, ℕ, zero, suc, ◌<◌, ◌≤◌, Bool, true, false, ◌||◌, cond, refl, sym, ap, subst, List, [], ◌∷◌, ◌++◌, length, get_or, arith}
use Rattle.std.specs.Prelude.{Result, Ok, Err, nat_lt}
use Rattle.std.proofs.lemmas.Bool.{ltb-true, ltb-false}
use Rattle.std.specs.List.{insert}
use Rattle.std.specs.List.Sorted.{IsSorted, IsNonDecreasingBy, IsPartitionedBy, IsPartitionPoint, IsBinarySearchResult, IsSearchInRange}
use Rattle.std.specs.Ordering.{is_eq, is_lt, ordering_index}
use Rattle.std.specs.declared.cmp.Ordering.{Ordering}
use Rattle.std.specs.declared.cmp.Ordering.TheVariants.{Less, Equal, Greater}
use Rattle.std.proofs.lemmas.List.Sorted.{IsPermutation-trans, IsPermutation-to_front, IsPermutation-insert, searchable_from_sorted}
use Rattle.qvt_value.specs.contracts.value.ValueOrd.TheImpl.{ghosts}
use Rattle.qvt_value.specs.declared.value.Value.{Value}
use Rattle.qvt_value.specs.declared.value.Kind.TheVariants.{Set}
use Rattle.qvt_value.specs.Kept.{sorted, firsts, put_in}
use Rattle.qvt_value.specs.Make.{made}
use Rattle.qvt_value.specs.Order.{order_of}
use Rattle.qvt_value.proofs.InOrder.{is_sorted}
use Rattle.qvt_value.proofs.KeptItems as items
use Rattle.qvt_value.proofs.OrderOfValues.{total, exact}
use Rattle.qvt_value.proofs.Same as derived
use Rattle.qvt_ocl_words.specs.Lists.{same, has}
use Rattle.qvt_ocl_lists.proofs.Joined.{same_flip, firsts_more}

abbrev count : Value → List Value → ℕ
count = items.count order_of total exact

-- a Set's list is in order, and nothing stands twice in it
pub set_in_order : (xs : List Value) → made Set xs ≡ xs → sorted order_of xs ≡ xs
set_in_order xs h =
    ap (sorted order_of) (sym h)
    ∙ items.sorted_same order_of total exact (sorted order_of (firsts order_of xs)) (items.order_sorted order_of total exact (firsts order_of xs)) ∙ h

once : (xs : List Value) → made Set xs ≡ xs → firsts order_of xs ≡ xs
once xs h = items.firsts_same order_of total exact xs (λ z. subst (λ ys. count z ys ≤ 1) h
    (omega (arith, items.count_sorted order_of total exact z (firsts order_of xs), items.count_firsts order_of total exact z xs)))

in_order : (xs : List Value) → sorted order_of xs ≡ xs → IsSorted order_of xs
in_order xs h = subst (IsSorted order_of) h (is_sorted order_of total (sorted order_of xs) (items.order_sorted order_of total exact xs))

rises : (xs : List Value) (x : Value) → sorted order_of xs ≡ xs → IsNonDecreasingBy (λ y. ordering_index (order_of y x)) xs
rises xs x h = searchable_from_sorted total (λ y. y) xs x (in_order xs h)

-- what is below x stands in front
pub is_parted : (xs : List Value) (x : Value) → sorted order_of xs ≡ xs → IsPartitionedBy (λ y. is_lt (order_of y x)) xs
is_parted xs x h i j d l b e = low (order_of (get_or xs i d) x) (order_of (get_or xs j d) x) (rises xs x h i j d l b) e
  where
    low : (r s : Ordering) → ordering_index r ≤ ordering_index s → is_lt s ≡ true → is_lt r ≡ true
    low Less s l e = refl
    low Equal Less l e = absurd (omega (arith, l))
    low Greater Less l e = absurd (omega (arith, l))
    low Equal Equal l e = e
    low Equal Greater l e = e
    low Greater Equal l e = e
    low Greater Greater l e = e

abbrev IsPlace : List Value → ℕ → Value → Type 0
IsPlace xs i x = IsPartitionPoint (λ y. is_lt (order_of y x) ≡ true) (λ y. is_lt (order_of y x) ≡ false) xs i

put_first : (y x : Value) (ys : List Value) (b : Bool) → is_lt (order_of y x) ≡ b → put_in order_of x (y ∷ ys) ≡ cond b (y ∷ put_in order_of x ys) (x ∷ y ∷ ys)
put_first y x ys b e = ap (λ c. cond c (y ∷ put_in order_of x ys) (x ∷ y ∷ ys)) e

placed : (xs : List Value) (i : ℕ) (x : Value) → i ≤ length xs → IsPlace xs i x → insert xs i x ≡ put_in order_of x xs
placed [] zero x l p = refl
placed [] (suc i) x l p = absurd (omega (arith, l))
placed (y ∷ ys) zero x l p = sym (put_first y x ys false (p.1 0 y (omega arith) (omega arith)))
placed (y ∷ ys) (suc i) x l p =
    ap (λ zs. y ∷ zs) (placed ys i x (omega (arith, l)) (
      (λ k d m b. p.0 (suc k) d (omega (arith, m)) (omega (arith, b))),
      (λ k d m b. p.1 (suc k) d (omega (arith, m)) (omega (arith, b))),
    ))
    ∙ sym (put_first y x ys true (p.0 0 y (omega arith) (omega arith)))

-- put in at its place, x keeps the list in order
pub put_sorted : (xs : List Value) (i : ℕ) (x : Value) → sorted order_of xs ≡ xs → i ≤ length xs → IsPlace xs i x → insert xs i x ≡ sorted order_of (xs ++ x ∷ [])
put_sorted xs i x h l p =
    items.sorted_is order_of total exact (xs ++ x ∷ []) (insert xs i x)
    (IsPermutation-trans (xs ++ x ∷ []) (x ∷ xs) (insert xs i x) (IsPermutation-to_front xs x) (IsPermutation-insert xs i x))
    (subst (IsSorted order_of) (ap (put_in order_of x) h ∙ sym (placed xs i x l p)) (is_sorted order_of total (sorted order_of (x ∷ xs)) (items.order_sorted order_of total exact (x ∷ xs))))

or_true : (b : Bool) → b || true ≡ true
or_true true = refl
or_true false = refl

found : (xs : List Value) (i : ℕ) (x d : Value) → i < length xs → same x (get_or xs i d) ≡ true → has xs x ≡ true
found [] i x d l e = absurd (omega (arith, l))
found (y ∷ ys) zero x d l e = ap (λ b. b || has ys x) e
found (y ∷ ys) (suc i) x d l e = ap (λ b. same x y || b) (found ys i x d (omega (arith, l)) e) ∙ or_true (same x y)

missing : (xs : List Value) (x : Value) → ((k : ℕ) (d : Value) → k < length xs → same x (get_or xs k d) ≡ false) → has xs x ≡ false
missing [] x h = refl
missing (y ∷ ys) x h = ap (λ b. b || has ys x) (h 0 y (omega arith)) ∙ missing ys x (λ k d l. h (suc k) d (omega (arith, l)))

-- what a search by halves says of a list in order
abbrev pub tells : Result ℕ ℕ → Bool
tells (Ok i) = true
tells (Err i) = false

pub searched : (xs : List Value) (x : Value) (r : Result ℕ ℕ) → sorted order_of xs ≡ xs → IsSearchInRange r (length xs) → IsBinarySearchResult (λ y. ghosts.cmp y x) xs r → tells r ≡ has xs x
searched xs x (Ok i) h l b = sym (found xs i x x l (same_flip x (get_or xs i x) ∙ ap is_eq (sym (derived.same (get_or xs i x) x) ∙ b x)))
searched xs x (Err i) h l b = sym (missing xs x none)
  where
    rising : IsNonDecreasingBy (λ y. ordering_index (ghosts.cmp y x)) xs
    rising j k d m n = omega (arith, rises xs x h j k d m n, ap ordering_index (derived.same (get_or xs j d) x), ap ordering_index (derived.same (get_or xs k d) x))

    other : (y : Value) → is_eq (ghosts.cmp y x) ≡ false → same x y ≡ false
    other y e = same_flip x y ∙ ap is_eq (sym (derived.same y x)) ∙ e

    none : (k : ℕ) (d : Value) → k < length xs → same x (get_or xs k d) ≡ false
    none k d m = by (nat_lt k i) refl
      where
        by : (c : Bool) → nat_lt k i ≡ c → same x (get_or xs k d) ≡ false
        by true e = other (get_or xs k d) (ap is_eq ((b rising).0 k d (omega arith) (ltb-true k i e)))
        by false e = other (get_or xs k d) (ap is_eq ((b rising).1 k d (ltb-false k i e) m))

-- so in a Set's list it is put in unless it stands there
pub set_stays : (xs : List Value) (x : Value) → made Set xs ≡ xs → has xs x ≡ true → xs ≡ made Set (xs ++ x ∷ [])
set_stays xs x h e = sym (ap (sorted order_of) (firsts_more xs x ∙ ap (λ b. cond b (firsts order_of xs) (firsts order_of xs ++ x ∷ [])) e) ∙ h)

pub set_joins : (xs all : List Value) (x : Value) → made Set xs ≡ xs → has xs x ≡ false → all ≡ sorted order_of (xs ++ x ∷ []) → all ≡ made Set (xs ++ x ∷ [])
set_joins xs all x h e a =
    a ∙ sym (ap (sorted order_of) (firsts_more xs x ∙ ap (λ b. cond b (firsts order_of xs) (firsts order_of xs ++ x ∷ [])) e ∙ ap (λ ys. ys ++ x ∷ []) (once xs h)))
