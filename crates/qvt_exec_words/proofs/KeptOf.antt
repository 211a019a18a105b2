-- What a kind keeps of a list: of a list that grows, of a list of firsts, and how long the collection is.
use Rattle.std.proofs.Common.{◌≡◌, ◌∙◌, suc, ◌+◌, ◌<◌, ◌≤◌, Bool, true, false, cond, refl, sym, ap, List, [], ◌∷◌, ◌++◌, length, arith}
use Rattle.std.specs.Prelude.{Some, not, nat_lt, if◌then◌else◌}
use Rattle.std.specs.List.{find, list_any}
use Rattle.std.specs.Ordering.{is_lt}
use Rattle.std.proofs.lemmas.Bool.{lt-ltb}
use Rattle.std.proofs.lemmas.List.{length-append}
use Rattle.indexmap.specs.IndexSet.{insert_all, insert_key}
use Rattle.qvt_base.specs.declared.numbers.Place.{Place}
use Rattle.qvt_value.specs.declared.value.Value.{Value, Invalid, items_hidden-the_row-Value-0}
use Rattle.qvt_value.specs.declared.value.Value.TheViews.{Coll}
use Rattle.qvt_value.specs.declared.value.Kind.{Kind}
use Rattle.qvt_value.specs.declared.value.Kind.TheVariants.{Set, Bag, Sequence, OrderedSet}
use Rattle.qvt_value.specs.declared.value.Reason.TheVariants.{TooLarge}
use Rattle.qvt_value.specs.Kept.{is_same, firsts, sorted, without, put_in}
use Rattle.qvt_value.specs.Limits.{most, is_beyond, limited, built}
use Rattle.qvt_value.specs.Make.{is_invalid, made}
use Rattle.qvt_value.specs.Order.{order_of}
use Rattle.qvt_value.proofs.KeptItems as items
use Rattle.qvt_value.proofs.MadeLists.{made_again}
use Rattle.qvt_value.proofs.OrderOfValues.{total, exact}
use Rattle.qvt_ocl_words.specs.Collections.{is_once}
use Rattle.qvt_run_rules.specs.Expressions.{collection}
use Rattle.qvt_run_rules.specs.Logic.{value_or}
use Rattle.qvt_exec_words.specs.Gathered.{kept_of}

abbrev first_ones : List Value → List Value
first_ones = firsts order_of

abbrev into : List Value → List Value → List Value
into = insert_all (is_same order_of)

into_all : (xs : List Value) → into [] xs ≡ first_ones xs
into_all = items.firsts_put order_of total exact

into_more : (ks xs ys : List Value) → into ks (xs ++ ys) ≡ into (into ks xs) ys
into_more ks [] ys = refl
into_more ks (x ∷ xs) ys = into_more (insert_key (is_same order_of) ks x) xs ys

onto : (xs ys : List Value) → first_ones (xs ++ ys) ≡ into (first_ones xs) ys
onto xs ys = sym (into_all (xs ++ ys)) ∙ into_more [] xs ys ∙ ap (λ ks. into ks ys) (into_all xs)

-- what is kept of a list that grows follows from what is kept of the list
pub kept_onto : (k : Kind) (xs ys zs : List Value) → kept_of k xs ≡ kept_of k ys → kept_of k (xs ++ zs) ≡ kept_of k (ys ++ zs)
kept_onto Set xs ys zs h = onto xs zs ∙ ap (λ ks. into ks zs) h ∙ sym (onto ys zs)
kept_onto OrderedSet xs ys zs h = onto xs zs ∙ ap (λ ks. into ks zs) h ∙ sym (onto ys zs)
kept_onto Bag xs ys zs h = ap (λ l. l ++ zs) h
kept_onto Sequence xs ys zs h = ap (λ l. l ++ zs) h

one_longer : (ks : List Value) (x : Value) → length ks ≤ length (insert_key (is_same order_of) ks x)
one_longer ks x = by (list_any (is_same order_of x) ks)
  where
    by : (b : Bool) → length ks ≤ length (cond b ks (ks ++ x ∷ []))
    by true = omega arith
    by false = omega (arith, length-append ks (x ∷ []))

longer : (ks xs : List Value) → length ks ≤ length (into ks xs)
longer ks [] = omega arith
longer ks (x ∷ xs) = omega (arith, one_longer ks x, longer (insert_key (is_same order_of) ks x) xs)

-- no less is kept of a list that grows
pub kept_longer : (k : Kind) (xs zs : List Value) → length (kept_of k xs) ≤ length (kept_of k (xs ++ zs))
kept_longer Set xs zs = omega (arith, longer (first_ones xs) zs, ap length (onto xs zs))
kept_longer OrderedSet xs zs = omega (arith, longer (first_ones xs) zs, ap length (onto xs zs))
kept_longer Bag xs zs = omega (arith, length-append xs zs)
kept_longer Sequence xs zs = omega (arith, length-append xs zs)

pub kept_of_firsts : (k : Kind) (xs : List Value) → is_once k ≡ true → kept_of k (first_ones xs) ≡ kept_of k xs
kept_of_firsts Set xs h = made_again OrderedSet xs
kept_of_firsts OrderedSet xs h = made_again OrderedSet xs
kept_of_firsts Bag xs h = cc
kept_of_firsts Sequence xs h = cc

pub kept_of_list : (k : Kind) (xs : List Value) → is_once k ≡ false → kept_of k xs ≡ xs
kept_of_list Set xs h = cc
kept_of_list OrderedSet xs h = cc
kept_of_list Bag xs h = refl
kept_of_list Sequence xs h = refl

pub kept_of_set : (k : Kind) (xs : List Value) → is_once k ≡ true → kept_of k xs ≡ first_ones xs
kept_of_set Set xs h = refl
kept_of_set OrderedSet xs h = refl
kept_of_set Bag xs h = cc
kept_of_set Sequence xs h = cc

-- ---- the first invalid item

find_without : (x : Value) (ys : List Value) → is_invalid x ≡ false → find is_invalid (without order_of x ys) ≡ find is_invalid ys
find_without x [] h = refl
find_without x (y ∷ ys) h = by (is_same order_of x y) refl (find_without x ys h)
  where
    by : (b : Bool) → is_same order_of x y ≡ b → find is_invalid (without order_of x ys) ≡ find is_invalid ys
        → find is_invalid (cond (not b) (y ∷ without order_of x ys) (without order_of x ys)) ≡ find is_invalid (y ∷ ys)
    by true e k = k ∙ sym (ap (λ b. cond b (Some y) (find is_invalid ys)) (ap is_invalid (sym (items.same_is order_of total exact x y e)) ∙ h))
    by false e k = ap (cond (is_invalid y) (Some y)) k

pub find_firsts : (xs : List Value) → find is_invalid (first_ones xs) ≡ find is_invalid xs
find_firsts [] = refl
find_firsts (x ∷ xs) = by (is_invalid x) refl (find_firsts xs)
  where
    by : (b : Bool) → is_invalid x ≡ b → find is_invalid (first_ones xs) ≡ find is_invalid xs → cond b (Some x) (find is_invalid (without order_of x (first_ones xs))) ≡ cond b (Some x) (find is_invalid xs)
    by true e k = refl
    by false e k = find_without x (first_ones xs) e ∙ k

-- ---- how long the collection is

length_put : (x : Value) (ys : List Value) → length (put_in order_of x ys) ≡ suc (length ys)
length_put x [] = refl
length_put x (y ∷ ys) = by (is_lt (order_of y x)) (length_put x ys)
  where
    by : (b : Bool) → length (put_in order_of x ys) ≡ suc (length ys) → length (cond b (y ∷ put_in order_of x ys) (x ∷ y ∷ ys)) ≡ suc (suc (length ys))
    by true h = ap suc h
    by false h = refl

length_sorted : (xs : List Value) → length (sorted order_of xs) ≡ length xs
length_sorted [] = refl
length_sorted (x ∷ xs) = length_put x (sorted order_of xs) ∙ ap suc (length_sorted xs)

length_made : (k : Kind) (xs : List Value) → length (made k xs) ≡ length (kept_of k xs)
length_made Set xs = length_sorted (first_ones xs)
length_made OrderedSet xs = refl
length_made Bag xs = length_sorted xs
length_made Sequence xs = refl

same_made : (k : Kind) (xs ys : List Value) → kept_of k xs ≡ kept_of k ys → made k xs ≡ made k ys
same_made Set xs ys h = ap (sorted order_of) h
same_made OrderedSet xs ys h = h
same_made Bag xs ys h = ap (sorted order_of) h
same_made Sequence xs ys h = h

beyond : (k : Kind) (xs : List Value) → is_beyond (Coll k xs) ≡ nat_lt most (length xs)
beyond k xs = ap (λ l. nat_lt most (length l)) (items_hidden-the_row-Value-0 xs)

too_large : (at : Place) (k : Kind) (xs : List Value) → most < length (kept_of k xs) → built at k xs ≡ Invalid TooLarge at
unfolding built limited
too_large at k xs h =
    let many : most < length (made k xs) = omega (arith, h, length_made k xs) in
    ap (λ b. if b then Invalid TooLarge at else Coll k (made k xs)) (beyond k (made k xs) ∙ lt-ltb most (length (made k xs)) many)

same_built : (at : Place) (k : Kind) (xs ys : List Value) → kept_of k xs ≡ kept_of k ys → built at k xs ≡ built at k ys
unfolding built
same_built at k xs ys h = ap (λ l. limited at (Coll k l)) (same_made k xs ys h)

-- ---- the collection

pub same_collection : (at : Place) (k : Kind) (xs ys : List Value) → find is_invalid xs ≡ find is_invalid ys → kept_of k xs ≡ kept_of k ys → collection at k xs ≡ collection at k ys
unfolding collection
same_collection at k xs ys f h = λ i. value_or (f i) (same_built at k xs ys h i)

pub large_collection : (at : Place) (k : Kind) (xs : List Value) → most < length (kept_of k xs) → collection at k xs ≡ value_or (find is_invalid xs) (Invalid TooLarge at)
unfolding collection
large_collection at k xs h = ap (value_or (find is_invalid xs)) (too_large at k xs h)
