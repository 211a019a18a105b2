-- Lists in which no item stands twice.
use Rattle.std.proofs.Common.{◌≡◌, ◌∙◌, ℕ, zero, suc, ◌+◌, ◌<◌, ◌≤◌, Bool, true, false, not, cond, refl, sym, ap, subst, take_all, List, [], ◌∷◌, ◌++◌, map, length, take, get_or, arith}
use Rattle.std.specs.List.{list_any}
use Rattle.std.specs.Prelude.{◌&&◌, ◌||◌}
use Rattle.std.specs.Ordering.{is_eq, is_lt}
use Rattle.std.specs.declared.cmp.Ordering.{Ordering}
use Rattle.std.specs.declared.cmp.Ordering.TheVariants.{Less, Equal, Greater}
use Rattle.std.proofs.lemmas.List.{take_more}
use denote.Ref.{Bor}
use Rattle.indexmap.specs.IndexSet.{insert_key}
use Rattle.qvt_value.specs.declared.value.Value.{Value}
use Rattle.qvt_value.specs.contracts.value.ValuePartialEq.TheImpl as equality
use Rattle.qvt_value.specs.Kept.{is_same, firsts, rises}
use Rattle.qvt_value.specs.Order.{order_of}
use Rattle.qvt_value.proofs.KeptItems as items
use Rattle.qvt_value.proofs.OrderOfValues.{total, exact, alike}

abbrev same : Value → Value → Bool
same = is_same order_of

abbrev count : Value → List Value → ℕ
count = items.count order_of total exact

-- each value at most once
abbrev pub Few : List Value → Type 0
Few ys = (z : Value) → count z ys ≤ 1

pub few_none : Few []
few_none z = omega arith

pub few_kept : (ys : List Value) → Few ys → firsts order_of ys ≡ ys
few_kept ys h = items.firsts_same order_of total exact ys h

count_last : (z x : Value) (ys : List Value) → count z (ys ++ x ∷ []) ≡ count z ys + items.one order_of total exact z x
count_last z x [] = omega arith
count_last z x (y ∷ ys) = let h = count_last z x ys in omega (arith, h)

none_there : (x : Value) (ys : List Value) → list_any (same x) ys ≡ false → count x ys ≡ 0
none_there x [] h = refl
none_there x (y ∷ ys) h = by (same x y) refl h (none_there x ys)
  where
    by : (b : Bool) → same x y ≡ b → (b || list_any (same x) ys) ≡ false → (list_any (same x) ys ≡ false → count x ys ≡ 0) → count x (y ∷ ys) ≡ 0
    by true e g k = cc
    by false e g k = let none : items.one order_of total exact x y ≡ 0 = ap (λ b. cond b 1 0) e in omega (arith, none, k g)

few_last : (ys : List Value) (x : Value) → Few ys → list_any (same x) ys ≡ false → Few (ys ++ x ∷ [])
few_last ys x h n z = by (same z x) refl
  where
    by : (b : Bool) → same z x ≡ b → count z (ys ++ x ∷ []) ≤ 1
    by true e =
        let one : items.one order_of total exact z x ≡ 1 = ap (λ b. cond b 1 0) e in
        let none : count z ys ≡ 0 = ap (λ v. count v ys) (items.same_is order_of total exact z x e) ∙ none_there x ys n in
        omega (arith, count_last z x ys, one, none)
    by false e =
        let none : items.one order_of total exact z x ≡ 0 = ap (λ b. cond b 1 0) e in
        omega (arith, count_last z x ys, none, h z)

-- all items were gone through
pub all_kept : (xs : List Value) (i : ℕ) → length xs ≤ i → Few (take i xs) → xs ≡ firsts order_of xs
all_kept xs i l f = sym (few_kept xs (subst Few (take_all i xs l) f))

-- ---- a look-up of the items so far

abbrev pub now_of : List (Bor Value) → List Value
now_of ks = map (λ k. k.now) ks

there : (x : Value) (ks : List (Bor Value)) → list_any (λ k. equality.ghosts.eq x k.now) ks ≡ list_any (same x) (now_of ks)
there x [] = refl
there x (k ∷ ks) = λ i. alike x k.now i || there x ks i

now_last : (ks : List (Bor Value)) (k : Bor Value) → now_of (ks ++ k ∷ []) ≡ now_of ks ++ k.now ∷ []
now_last [] k = refl
now_last (l ∷ ks) k = ap (λ ys. l.now ∷ ys) (now_last ks k)

not_true : (b : Bool) → true ≡ not b → b ≡ false
not_true true h = cc
not_true false h = refl

-- one more that was not there
pub noted : (xs : List Value) (i : ℕ) (k : Bor Value) (ks : List (Bor Value)) → i < length xs → k.now ≡ get_or xs i k.now → now_of ks ≡ take i xs → true ≡ not (list_any (λ l. equality.ghosts.eq k.now l.now) ks)
    → now_of (insert_key (λ a b. equality.ghosts.eq a.now b.now) ks k) ≡ take (i + 1) xs
noted xs i k ks l e h t =
    ap (λ b. now_of (cond b ks (ks ++ k ∷ []))) (not_true _ t)
    ∙ now_last ks k ∙ ap (λ ys. ys ++ k.now ∷ []) h
    ∙ sym (take_more xs i k.now l ∙ ap (λ y. take i xs ++ y ∷ []) (sym e))

pub few_more : (xs : List Value) (i : ℕ) (x : Value) (ks : List (Bor Value)) → i < length xs → x ≡ get_or xs i x → now_of ks ≡ take i xs → true ≡ not (list_any (λ l. equality.ghosts.eq x l.now) ks)
    → Few (take i xs) → Few (take (i + 1) xs)
few_more xs i x ks l e h t f =
    subst Few (sym (take_more xs i x l ∙ ap (λ y. take i xs ++ y ∷ []) (sym e)))
    (few_last (take i xs) x f (ap (list_any (same x)) (sym h) ∙ sym (there x ks) ∙ not_true _ t))

-- ---- each item below the next

abbrev rising : List Value → Bool
rising = rises order_of

is_less : (r : Ordering) → is_lt r ≡ true → r ≡ Less
is_less Less h = refl
is_less Equal h = cc
is_less Greater h = cc

first_of_both : (a b : Bool) → (a && b) ≡ true → a ≡ true
first_of_both true b h = refl
first_of_both false b h = cc

second_of_both : (a b : Bool) → (a && b) ≡ true → b ≡ true
second_of_both true b h = h
second_of_both false b h = cc

skip : (x y : Value) (ys : List Value) → order_of x y ≡ Less → rising (y ∷ ys) ≡ true → rising (x ∷ ys) ≡ true
skip x y [] a b = refl
skip x y (z ∷ zs) a b =
    let next : order_of y z ≡ Less = is_less _ (first_of_both _ _ b) in
    ap (λ r. is_lt r && rising (z ∷ zs)) (total.trans x y z a next) ∙ second_of_both _ _ b

none_above : (x : Value) (xs : List Value) → rising (x ∷ xs) ≡ true → count x xs ≡ 0
none_above x [] h = refl
none_above x (y ∷ ys) h =
    let less : order_of x y ≡ Less = is_less _ (first_of_both _ _ h) in
    let none : items.one order_of total exact x y ≡ 0 = ap (λ r. cond (is_eq r) 1 0) less in
    omega (arith, none, none_above x ys (skip x y ys less (second_of_both _ _ h)))

rising_few : (xs : List Value) → rising xs ≡ true → Few xs
rising_few [] h z = omega arith
rising_few (x ∷ xs) h z = by (same z x) refl (rising_few xs (second_of_both _ _ h) z)
  where
    by : (b : Bool) → same z x ≡ b → count z xs ≤ 1 → count z (x ∷ xs) ≤ 1
    by true e k =
        let one : items.one order_of total exact z x ≡ 1 = ap (λ b. cond b 1 0) e in
        let none : count z xs ≡ 0 = ap (λ v. count v xs) (items.same_is order_of total exact z x e) ∙ none_above x xs h in
        omega (arith, one, none)
    by false e k =
        let none : items.one order_of total exact z x ≡ 0 = ap (λ b. cond b 1 0) e in
        omega (arith, none, k)

pub rising_kept : (xs : List Value) → true ≡ rising xs → xs ≡ firsts order_of xs
rising_kept xs h = sym (few_kept xs (rising_few xs (sym h)))
