-- Lists of values, step by step.
use Rattle.std.proofs.Common.{◌≡◌, ◌∙◌, ℕ, ◌+◌, ◌<◌, Bool, true, false, ◌||◌, not, cond, refl, sym, ap, List, [], ◌∷◌, ◌++◌, append-nil, append_assoc, map, length, take, drop, get_or}
use Rattle.std.specs.List.{list_any}
use Rattle.std.specs.Prelude.{nat_lt}
use Rattle.std.proofs.lemmas.List.{take_more, at_drop_more}
use Rattle.std.proofs.lemmas.List.Elements.{filter-append}
use denote.Ref.{Bor}
use Rattle.std.specs.Ordering.{is_eq}
use Rattle.std.specs.declared.cmp.Ordering.{Ordering}
use Rattle.std.specs.declared.cmp.Ordering.TheVariants.{Less, Equal, Greater}
use Rattle.qvt_value.specs.Order.{order_of}
use Rattle.indexmap.specs.IndexSet.{insert_key}
use Rattle.qvt_base.specs.declared.numbers.Place.{Place}
use Rattle.qvt_value.specs.declared.value.Value.{Value, Coll', Row_of-Value, end_of-Value, more_of-Value, items-the_row-Value, items_hidden-the_row-Value-0}
use Rattle.qvt_value.specs.declared.value.Value.TheViews.{Coll}
use Rattle.qvt_value.specs.declared.value.Kind.{Kind}
use Rattle.qvt_value.specs.contracts.value.ValuePartialEq.TheImpl as equality
use Rattle.qvt_value.proofs.OrderOfValues.{alike, exact}
use Rattle.qvt_ocl_words.specs.Lists.{same, has, count, common_after, innermost, flattened, flattened_row, first_of, last_of, lacking}

pub row_flattened : {m : _} (r : Row_of-Value m) → flattened (items-the_row-Value m r) ≡ flattened_row r
row_flattened end_of-Value = refl
row_flattened (more_of-Value v vs) = ap (λ l. innermost v ++ l) (row_flattened vs)

abbrev items_of : Value → List Value
items_of (Coll' k s r) = items-the_row-Value _ r
items_of v = []

abbrev IsColl : Value → Type 0
IsColl (Coll' k s r) = Unit {0}
IsColl v = ⊥

inner : (v : Value) → IsColl v → innermost v ≡ flattened (items_of v)
inner (Coll' k s r) h = sym (row_flattened r)
inner v h = absurd h

pub coll_innermost : (k : Kind) (xs : List Value) → innermost (Coll k xs) ≡ flattened xs
coll_innermost k xs = inner (Coll k xs) tt ∙ ap flattened (items_hidden-the_row-Value-0 xs)

pub lacking_same : (ys zs xs : List Value) → ((x : Value) → has ys x ≡ has zs x) → lacking ys xs ≡ lacking zs xs
lacking_same ys zs [] h = refl
lacking_same ys zs (x ∷ xs) h = λ i. cond (not (h x i)) (x ∷ lacking_same ys zs xs h i) (lacking_same ys zs xs h i)

pub first_is : (at : Place) (xs rest : List Value) (v : Value) → xs ≡ v ∷ rest → v ≡ first_of at xs
first_is at xs rest v e = sym (ap (first_of at) e)

last_push : (at : Place) (rest : List Value) (v : Value) → v ≡ last_of at (rest ++ v ∷ [])
last_push at [] v = refl
last_push at (x ∷ []) v = refl
last_push at (x ∷ y ∷ rest) v = last_push at (y ∷ rest) v

pub last_is : (at : Place) (xs rest : List Value) (v : Value) → xs ≡ rest ++ v ∷ [] → v ≡ last_of at xs
last_is at xs rest v e = last_push at rest v ∙ sym (ap (last_of at) e)

-- ---- look-ups

abbrev pub now_of : List (Bor Value) → List Value
now_of ks = map (λ k. k.now) ks

abbrev eq_now : Bor Value → Bor Value → Bool
eq_now a b = equality.ghosts.eq a.now b.now

or_false : (b : Bool) → (b || false) ≡ b
or_false true = refl
or_false false = refl

pub held : (x : Value) (ks : List (Bor Value)) → list_any (λ k. equality.ghosts.eq x k.now) ks ≡ has (now_of ks) x
held x [] = refl
held x (k ∷ ks) = λ i. alike x k.now i || held x ks i

has_last : (ks : List (Bor Value)) (k : Bor Value) (x : Value) → has (now_of (ks ++ k ∷ [])) x ≡ (has (now_of ks) x || same x k.now)
has_last [] k x = or_false (same x k.now)
has_last (l ∷ ks) k x = elim (same x l.now) as (λ b. (b || has (now_of (ks ++ k ∷ [])) x) ≡ ((b || has (now_of ks) x) || same x k.now)) [ true ↦ refl | false ↦ has_last ks k x ]

equal_is : (r : Ordering) → is_eq r ≡ true → r ≡ Equal
equal_is Less h = cc
equal_is Equal h = refl
equal_is Greater h = cc

pub same_is : (v w : Value) → same v w ≡ true → v ≡ w
same_is v w h = exact v w (equal_is (order_of v w) h)

or_true : (a : Bool) → a ≡ true → (b : Bool) → a ≡ (a || b)
or_true true h b = refl
or_true false h b = cc

pub noted : (k : Bor Value) (ks : List (Bor Value)) (x : Value) → has (now_of (insert_key (λ a b. equality.ghosts.eq a.now b.now) ks k)) x ≡ (has (now_of ks) x || same x k.now)
noted k ks x = go (list_any (λ l. equality.ghosts.eq k.now l.now) ks) refl
  where
    there : (b : Bool) → same x k.now ≡ b → list_any (λ l. equality.ghosts.eq k.now l.now) ks ≡ true → has (now_of ks) x ≡ (has (now_of ks) x || b)
    there true e h = or_true (has (now_of ks) x) (ap (has (now_of ks)) (same_is x k.now e) ∙ sym (held k.now ks) ∙ h) true
    there false e h = sym (or_false (has (now_of ks) x))

    go : (b : Bool) → list_any (λ l. equality.ghosts.eq k.now l.now) ks ≡ b → has (now_of (cond b ks (ks ++ k ∷ []))) x ≡ (has (now_of ks) x || same x k.now)
    go true h = there (same x k.now) refl h
    go false h = has_last ks k x

-- ---- a step of a loop that keeps some items

pub lacking_more : (ys xs kept more : List Value) (i : ℕ) (x : Value) (b : Bool) → i < length xs → x ≡ get_or xs i x → b ≡ not (has ys x) → kept ≡ lacking ys (take i xs) → more ≡ cond b (kept ++ x ∷ []) kept → more ≡ lacking ys (take (i + 1) xs)
lacking_more ys xs kept more i x b l e t k m =
    m ∙ (λ j. cond (t j) (k j ++ x ∷ []) (k j)) ∙ go (has ys x) refl
    ∙ sym (ap (lacking ys) (take_more xs i x l ∙ ap (λ y. take i xs ++ y ∷ []) (sym e)) ∙ filter-append (λ z. not (has ys z)) (take i xs) (x ∷ []))
  where
    go : (c : Bool) → has ys x ≡ c → cond (not (has ys x)) (lacking ys (take i xs) ++ x ∷ []) (lacking ys (take i xs)) ≡ lacking ys (take i xs) ++ lacking ys (x ∷ [])
    go true h = ap (λ c. cond (not c) (lacking ys (take i xs) ++ x ∷ []) (lacking ys (take i xs))) h ∙ sym (append-nil (lacking ys (take i xs))) ∙ sym (ap (λ c. lacking ys (take i xs) ++ cond (not c) (x ∷ []) []) h)
    go false h = ap (λ c. cond (not c) (lacking ys (take i xs) ++ x ∷ []) (lacking ys (take i xs))) h ∙ sym (ap (λ c. lacking ys (take i xs) ++ cond (not c) (x ∷ []) []) h)

common_one : (before rest ys kept : List Value) (x : Value) (b : Bool) → b ≡ nat_lt (count x before) (count x ys) → cond b (kept ++ x ∷ []) kept ++ common_after (before ++ x ∷ []) rest ys ≡ kept ++ common_after before (x ∷ rest) ys
common_one before rest ys kept x true t = append_assoc kept (x ∷ []) (common_after (before ++ x ∷ []) rest ys) ∙ ap (λ c. kept ++ cond c (x ∷ common_after (before ++ x ∷ []) rest ys) (common_after (before ++ x ∷ []) rest ys)) t
common_one before rest ys kept x false t = ap (λ c. kept ++ cond c (x ∷ common_after (before ++ x ∷ []) rest ys) (common_after (before ++ x ∷ []) rest ys)) t

pub common_more : (ys xs kept more goal : List Value) (i : ℕ) (x : Value) (b : Bool) → i < length xs → x ≡ get_or xs i x → b ≡ nat_lt (count x (take i xs)) (count x ys) → kept ++ common_after (take i xs) (drop i xs) ys ≡ goal → more ≡ cond b (kept ++ x ∷ []) kept → more ++ common_after (take (i + 1) xs) (drop (i + 1) xs) ys ≡ goal
common_more ys xs kept more goal i x b l e t k m =
    let taken : take (i + 1) xs ≡ take i xs ++ x ∷ [] = take_more xs i x l ∙ ap (λ y. take i xs ++ y ∷ []) (sym e) in
    let left : drop i xs ≡ x ∷ drop (i + 1) xs = at_drop_more (λ zs. zs) xs i x l ∙ ap (λ y. y ∷ drop (i + 1) xs) (sym e) in
    (λ j. m j ++ common_after (taken j) (drop (i + 1) xs) ys)
    ∙ common_one (take i xs) (drop (i + 1) xs) ys kept x b t
    ∙ sym (ap (λ zs. kept ++ common_after (take i xs) zs ys) left) ∙ k
