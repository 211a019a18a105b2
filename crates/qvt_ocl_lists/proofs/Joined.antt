-- Lists of which each item is kept where it first stands, and what joins them.
use Rattle.std.proofs.Common.{◌≡◌, ◌∙◌, ℕ, ◌+◌, ◌<◌, ◌≤◌, Bool, true, false, not, ◌||◌, cond, refl, sym, ap, List, [], ◌∷◌, ◌++◌, append-nil, length, take, take_all, get_or}
use Rattle.std.proofs.lemmas.List.{take_more}
use Rattle.std.proofs.lemmas.List.Elements.{filter-append}
use Rattle.std.specs.List.{list_any}
use Rattle.std.specs.Ordering.{is_eq, ordering_reverse}
use Rattle.std.specs.declared.cmp.Ordering.{Ordering}
use Rattle.std.specs.declared.cmp.Ordering.TheVariants.{Less, Equal, Greater}
use Rattle.qvt_value.specs.declared.value.Value.{Value}
use Rattle.qvt_value.specs.Kept.{firsts, without}
use Rattle.qvt_value.specs.Order.{order_of}
use Rattle.qvt_value.proofs.OrderOfValues.{total}
use Rattle.qvt_ocl_words.specs.Lists.{same, has, lacking}
use Rattle.qvt_repeats.specs.Repeats.{repeats_by}
use Rattle.qvt_repeats.proofs.Repeating as general
use Rattle.qvt_ocl_lists.proofs.ItemLists.{lacking_same}

pub same_flip : (v w : Value) → same v w ≡ same w v
same_flip v w = ap is_eq (total.antisymm v w) ∙ by (order_of w v)
  where
    by : (r : Ordering) → is_eq (ordering_reverse r) ≡ is_eq r
    by Less = refl
    by Equal = refl
    by Greater = refl

-- ---- one more item at the end

last : (x y : Value) (rest : List Value) (c : Bool) → same x y ≡ c → y ∷ (rest ++ cond (not (same y x)) (x ∷ []) []) ≡ cond (c || false) (y ∷ rest) (y ∷ (rest ++ x ∷ []))
last x y rest true e = ap (λ b. y ∷ (rest ++ cond (not b) (x ∷ []) [])) (same_flip y x ∙ e) ∙ ap (λ zs. y ∷ zs) (append-nil rest)
last x y rest false e = ap (λ b. y ∷ (rest ++ cond (not b) (x ∷ []) [])) (same_flip y x ∙ e)

one_more : (x y : Value) (fs : List Value) (b c : Bool) → same x y ≡ c
    → y ∷ without order_of y (cond b fs (fs ++ x ∷ [])) ≡ cond (c || b) (y ∷ without order_of y fs) (y ∷ (without order_of y fs ++ x ∷ []))
one_more x y fs true true e = refl
one_more x y fs true false e = refl
one_more x y fs false c e = ap (λ zs. y ∷ zs) (filter-append (λ z. not (same y z)) fs (x ∷ [])) ∙ last x y (without order_of y fs) c e

pub firsts_more : (ys : List Value) (x : Value) → firsts order_of (ys ++ x ∷ []) ≡ cond (has ys x) (firsts order_of ys) (firsts order_of ys ++ x ∷ [])
firsts_more [] x = refl
firsts_more (y ∷ ys) x = ap (λ zs. y ∷ without order_of y zs) (firsts_more ys x) ∙ one_more x y (firsts order_of ys) (has ys x) (same x y) refl

taken : (xs : List Value) (i : ℕ) (x : Value) → i < length xs → x ≡ get_or xs i x → take (i + 1) xs ≡ take i xs ++ x ∷ []
taken xs i x l e = take_more xs i x l ∙ ap (λ y. take i xs ++ y ∷ []) (sym e)

-- ---- lists in which no item equals an earlier one

here : (xs : List Value) (i : ℕ) (x : Value) → x ≡ get_or xs i x → has (take i xs) x ≡ list_any (same (get_or xs i x)) (take i xs)
here xs i x e = ap (λ y. list_any (same y) (take i xs)) e

pub repeats_more : (xs : List Value) (i : ℕ) (x : Value) → i < length xs → x ≡ get_or xs i x → has (take i xs) x ≡ false → repeats_by same (take i xs) ≡ false → repeats_by same (take (i + 1) xs) ≡ false
repeats_more xs i x l e h k = general.repeats_next same same_flip xs i x l k ∙ sym (here xs i x e) ∙ h

pub repeated : (xs : List Value) (i : ℕ) (x : Value) → i < length xs → x ≡ get_or xs i x → has (take i xs) x ≡ true → repeats_by same (take i xs) ≡ false → repeats_by same xs ≡ true
repeated xs i x l e h k = general.repeats_found same xs (i + 1) (general.repeats_next same same_flip xs i x l k ∙ sym (here xs i x e) ∙ h)

pub none_repeated : (xs : List Value) (i : ℕ) → length xs ≤ i → repeats_by same (take i xs) ≡ false → repeats_by same xs ≡ false
none_repeated xs i l k = ap (repeats_by same) (sym (take_all i xs l)) ∙ k

none_without : (x : Value) (xs : List Value) → has xs x ≡ false → without order_of x xs ≡ xs
none_without x [] h = refl
none_without x (y ∷ xs) h = go (same x y) h (none_without x xs)
  where
    go : (b : Bool) → (b || has xs x) ≡ false → (has xs x ≡ false → without order_of x xs ≡ xs) → cond (not b) (y ∷ without order_of x xs) (without order_of x xs) ≡ y ∷ xs
    go true e ih = cc
    go false e ih = ap (λ ys. y ∷ ys) (ih e)

either_first : (a b : Bool) → (a || b) ≡ false → a ≡ false
either_first true b h = cc
either_first false b h = refl

either_second : (a b : Bool) → (a || b) ≡ false → b ≡ false
either_second true b h = cc
either_second false b h = h

-- such a list keeps all
pub different_kept : (xs : List Value) → repeats_by same xs ≡ false → firsts order_of xs ≡ xs
different_kept [] h = refl
different_kept (x ∷ xs) h =
    ap (λ ys. x ∷ without order_of x ys) (different_kept xs (either_second (has xs x) (repeats_by same xs) h))
    ∙ ap (λ ys. x ∷ ys) (none_without x xs (either_first (has xs x) (repeats_by same xs) h))

-- ---- what joins a list

or_false : (b : Bool) → (b || false) ≡ b
or_false true = refl
or_false false = refl

or_assoc : (a b c : Bool) → ((a || b) || c) ≡ (a || (b || c))
or_assoc true b c = refl
or_assoc false b c = refl

has_more : (ys : List Value) (v x : Value) → has (ys ++ v ∷ []) x ≡ (has ys x || same x v)
has_more [] v x = or_false (same x v)
has_more (y ∷ ys) v x = ap (λ b. same x y || b) (has_more ys v x) ∙ sym (or_assoc (same x y) (has ys x) (same x v))

pub not_true : (b : Bool) → true ≡ not b → b ≡ false
not_true true h = cc
not_true false h = refl

pub not_false : (b : Bool) → false ≡ not b → b ≡ true
not_false true h = refl
not_false false h = cc

-- an item more is put into a look-up of the items so far
pub seen_more : (before after xs : List Value) (i : ℕ) (v : Value) → i < length xs → v ≡ get_or xs i v → ((x : Value) → has before x ≡ has (take i xs) x) → ((x : Value) → has after x ≡ (has before x || same x v)) → (x : Value) → has after x ≡ has (take (i + 1) xs) x
seen_more before after xs i v l e h s x = s x ∙ ap (λ b. b || same x v) (h x) ∙ sym (ap (λ ys. has ys x) (taken xs i v l e) ∙ has_more (take i xs) v x)

pub seen_all : (all xs : List Value) (i : ℕ) → length xs ≤ i → ((x : Value) → has all x ≡ has (take i xs) x) → (x : Value) → has all x ≡ has xs x
seen_all all xs i l h x = h x ∙ ap (λ ys. has ys x) (take_all i xs l)

-- a value more is looked at: it is known then
pub known_more : (known before after xs : List Value) (i : ℕ) (v : Value) → i < length xs → v ≡ get_or xs i v → ((x : Value) → has before x ≡ (has known x || has (take i xs) x)) → ((x : Value) → has after x ≡ (has before x || same x v)) → (x : Value) → has after x ≡ (has known x || has (take (i + 1) xs) x)
known_more known before after xs i v l e h s x =
    s x ∙ ap (λ b. b || same x v) (h x) ∙ or_assoc (has known x) (has (take i xs) x) (same x v)
    ∙ sym (ap (λ b. has known x || b) (ap (λ ys. has ys x) (taken xs i v l e) ∙ has_more (take i xs) v x))

-- and it joins where it was not known
pub joining_more : (known xs new more : List Value) (i : ℕ) (x : Value) (b : Bool) → i < length xs → x ≡ get_or xs i x → b ≡ not (has known x || has (take i xs) x) → new ≡ lacking known (firsts order_of (take i xs)) → more ≡ cond b (new ++ x ∷ []) new → more ≡ lacking known (firsts order_of (take (i + 1) xs))
joining_more known xs new more i x b l e t k m =
    m ∙ (λ j. cond (t j) (k j ++ x ∷ []) (k j))
    ∙ go (firsts order_of (take i xs)) (has known x) (has (take i xs) x) refl
    ∙ sym (ap (λ ys. lacking known (firsts order_of ys)) (taken xs i x l e) ∙ ap (lacking known) (firsts_more (take i xs) x))
  where
    go : (fs : List Value) (a c : Bool) → has known x ≡ a → cond (not (a || c)) (lacking known fs ++ x ∷ []) (lacking known fs) ≡ lacking known (cond c fs (fs ++ x ∷ []))
    go fs true true h = refl
    go fs false true h = refl
    go fs true false h = sym (filter-append (λ z. not (has known z)) fs (x ∷ []) ∙ ap (λ c. lacking known fs ++ cond (not c) (x ∷ []) []) h ∙ append-nil (lacking known fs))
    go fs false false h = sym (filter-append (λ z. not (has known z)) fs (x ∷ []) ∙ ap (λ c. lacking known fs ++ cond (not c) (x ∷ []) []) h)

none_lacking : (zs : List Value) → lacking [] zs ≡ zs
none_lacking [] = refl
none_lacking (z ∷ zs) = ap (λ ys. z ∷ ys) (none_lacking zs)

lacking_both : (x : Value) (xs zs : List Value) → without order_of x (lacking xs zs) ≡ lacking (x ∷ xs) zs
lacking_both x xs [] = refl
lacking_both x xs (z ∷ zs) = by (has xs z) (same z x) (same_flip x z) (lacking_both x xs zs)
  where
    by : (b c : Bool) → same x z ≡ c → without order_of x (lacking xs zs) ≡ lacking (x ∷ xs) zs
        → without order_of x (cond (not b) (z ∷ lacking xs zs) (lacking xs zs)) ≡ cond (not (c || b)) (z ∷ lacking (x ∷ xs) zs) (lacking (x ∷ xs) zs)
    by true true e h = h
    by true false e h = h
    by false true e h = ap (λ c. cond (not c) (z ∷ without order_of x (lacking xs zs)) (without order_of x (lacking xs zs))) e ∙ h
    by false false e h = ap (λ c. cond (not c) (z ∷ without order_of x (lacking xs zs)) (without order_of x (lacking xs zs))) e ∙ ap (λ ys. z ∷ ys) h

firsts_joined : (xs ys : List Value) → firsts order_of (xs ++ ys) ≡ firsts order_of xs ++ lacking xs (firsts order_of ys)
firsts_joined [] ys = sym (none_lacking (firsts order_of ys))
firsts_joined (x ∷ xs) ys =
    ap (λ zs. x ∷ without order_of x zs) (firsts_joined xs ys)
    ∙ ap (λ zs. x ∷ zs) (
    filter-append (λ z. not (same x z)) (firsts order_of xs) (lacking xs (firsts order_of ys))
    ∙ ap (λ zs. without order_of x (firsts order_of xs) ++ zs) (lacking_both x xs (firsts order_of ys))
    )

-- what joins a list in which no item equals an earlier one
pub joined : (known xs ys new : List Value) → repeats_by same xs ≡ false → ((x : Value) → has known x ≡ has xs x) → new ≡ lacking known (firsts order_of ys) → xs ++ new ≡ firsts order_of (xs ++ ys)
joined known xs ys new d h n =
    ap (λ zs. xs ++ zs) (n ∙ lacking_same known xs (firsts order_of ys) h)
    ∙ ap (λ zs. zs ++ lacking xs (firsts order_of ys)) (sym (different_kept xs d))
    ∙ sym (firsts_joined xs ys)
