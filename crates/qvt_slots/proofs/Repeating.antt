-- Lists that repeat no value, and the bounds of slots.
use Rattle.std.proofs.Common.{◌≡◌, ℕ, suc, ◌+◌, ◌<◌, ◌≤◌, Bool, true, false, ◌||◌, not, cond, refl, sym, ap, subst, ◌∙◌, List, [], ◌∷◌, ◌++◌, length, take, drop, get_or, arith}
use Rattle.std.specs.Prelude.{Option, Some, None, filter}
use Rattle.std.specs.List.{list_any}
use Rattle.std.specs.Ordering.{is_eq}
use Rattle.std.proofs.lemmas.Bool.{le-ltb, ltb-false}
use Rattle.std.proofs.lemmas.Bool.Decides.{Decides-eqb}
use Rattle.std.proofs.lemmas.List.{take_more}
use Rattle.std.proofs.lemmas.List.Elements.{filter-append}
use Rattle.qvt_value.specs.declared.value.Value.{Value}
use Rattle.qvt_value.specs.declared.value.Value.TheVariants.{Bool as BoolValue, Int as IntValue, Str as StrValue, Enum as EnumValue, Obj}
use Rattle.qvt_value.specs.Kept.{is_same, firsts}
use Rattle.qvt_value.specs.Order.{order_of}
use Rattle.qvt_value.proofs.KeptItems.{same_is}
use Rattle.qvt_value.proofs.OrderOfValues.{total, exact, itself}
use Rattle.qvt_metas.specs.Metamodels.{Metamodels, is_one, shape_of}
use Rattle.qvt_relation.proofs.Bools.{or_none, none_left, none_right, same_test}
use Rattle.qvt_repeats.proofs.Repeating as general
use Rattle.qvt_repeats.proofs.Repeating.{any-last}
use Rattle.qvt_base.specs.declared.numbers.Oid.{Oid}
use Rattle.qvt_slots.specs.Slots.{is_object, has}
use Rattle.qvt_slots.specs.Change.{object_value, with_object}
use Rattle.qvt_slots.specs.Repeats.{repeats, new_list}
use Rattle.qvt_slots.specs.Assign.{exceeds_bound}

pub length-filter : (keep : Value → Bool) (vs : List Value) → length (filter keep vs) ≤ length vs
length-filter keep [] = omega arith
length-filter keep (v ∷ vs) = go (keep v) (length-filter keep vs)
  where
    go : (b : Bool) → length (filter keep vs) ≤ length vs → length (cond b (v ∷ filter keep vs) (filter keep vs)) ≤ suc (length vs)
    go true ih = omega arith
    go false ih = omega arith

pub fewer_fit : (a b : ℕ) (upper : Option ℕ) → a ≤ b → exceeds_bound b upper ≡ false → exceeds_bound a upper ≡ false
fewer_fit a b None l h = refl
fewer_fit a b (Some n) l h = let k : b ≤ n = ltb-false n b h in le-ltb n a (omega arith)

pub single_fits : (n : ℕ) (upper : Option ℕ) → is_one upper ≡ true → exceeds_bound n upper ≡ false → n ≤ 1
single_fits n None one h = cc
single_fits n (Some u) one h = let e : u ≡ 1 = (Decides-eqb u 1).0 one in let k : n ≤ u = ltb-false u n h in omega arith

pub repeats-filter : (keep : Value → Bool) (vs : List Value) → repeats vs ≡ false → repeats (filter keep vs) ≡ false
repeats-filter = general.repeats-filter (is_same order_of)

filtered_out : (test : Value → Bool) (vs : List Value) → list_any test (filter (λ w. not (test w)) vs) ≡ false
filtered_out test [] = refl
filtered_out test (v ∷ vs) = go (test v) refl (filtered_out test vs)
  where
    go : (b : Bool) → test v ≡ b → list_any test (filter (λ w. not (test w)) vs) ≡ false → list_any test (cond (not b) (v ∷ filter (λ w. not (test w)) vs) (filter (λ w. not (test w)) vs)) ≡ false
    go true e ih = ih
    go false e ih = or_none _ _ e ih

pub repeats-without : (vs : List Value) → repeats (firsts order_of vs) ≡ false
repeats-without [] = refl
repeats-without (v ∷ vs) = or_none _ _ (filtered_out (is_same order_of v) (firsts order_of vs)) (repeats-filter (λ w. not (is_same order_of v w)) (firsts order_of vs) (repeats-without vs))

pub new_no_repeats : (m : Metamodels) (p : ℕ) (vs : List Value) → (shape_of m p).unique ≡ true → repeats (new_list m p vs) ≡ false
new_no_repeats m p vs = go (shape_of m p).unique
  where
    go : (b : Bool) → b ≡ true → repeats (cond b (firsts order_of vs) vs) ≡ false
    go true e = repeats-without vs
    go false e = cc

-- ---- equal values

-- equal values are the same
pub same_true : (v w : Value) → is_same order_of v w ≡ true → v ≡ w
same_true = same_is order_of total exact

pub same_itself : (v : Value) → is_same order_of v v ≡ true
same_itself v = ap is_eq (itself v)

pub same_flip : (v w : Value) → is_same order_of v w ≡ is_same order_of w v
same_flip v w = same_test _ _ (turned v w) (turned w v)
  where
    turned : (v w : Value) → is_same order_of v w ≡ true → is_same order_of w v ≡ true
    turned v w h = subst (λ x. is_same order_of x v ≡ true) (same_true v w h) (same_itself v)

-- a value equals an object where it is that object
pub same_as_object : (o : Oid) (v : Value) → is_same order_of (Obj o) v ≡ is_object o.0 v
same_as_object o (Obj x) = same_test _ _
    (λ e. subst (λ v. is_object o.0 v ≡ true) (same_true (Obj o) (Obj x) e) ((Decides-eqb o.0 o.0).1 refl))
    (λ e. subst (λ (n : ℕ). is_same order_of (Obj (record { 0 = n })) (Obj x) ≡ true) ((Decides-eqb x.0 o.0).0 e) (same_itself (Obj x)))
same_as_object o (BoolValue b) = refl
same_as_object o (IntValue n) = refl
same_as_object o (StrValue t) = refl
same_as_object o (EnumValue l) = refl
same_as_object o v = refl

-- so a list holds an object where it has an equal value
pub any_same_object : (o : Oid) (vs : List Value) → list_any (is_same order_of (Obj o)) vs ≡ has vs o.0
any_same_object o [] = refl
any_same_object o (v ∷ vs) = λ i. same_as_object o v i || any_same_object o vs i

pub has_equal : (vs : List Value) (o : Oid) → has vs o.0 ≡ list_any (λ w. is_same order_of w (Obj o)) vs
has_equal [] o = refl
has_equal (v ∷ vs) o = λ i. sym (same_flip v (Obj o) ∙ same_as_object o v) i || has_equal vs o i

repeats-object : (vs : List Value) (o : ℕ) → repeats vs ≡ false → has vs o ≡ false → repeats (vs ++ object_value o ∷ []) ≡ false
repeats-object [] o r h = refl
repeats-object (v ∷ vs) o r h = or_none _ _
    (any-last (is_same order_of v) vs (object_value o) ∙ or_none _ _ (none_left _ _ r) (same_flip v (object_value o) ∙ same_as_object (record { 0 = o }) v ∙ none_left _ _ h))
    (repeats-object vs o (none_right (list_any (is_same order_of v) vs) _ r) (none_right (is_object o v) _ h))

pub repeats-with_object : (o : ℕ) (vs : List Value) → repeats vs ≡ false → repeats (with_object o vs) ≡ false
repeats-with_object o vs r = go (has vs o) refl
  where
    go : (b : Bool) → has vs o ≡ b → repeats (cond b vs (vs ++ object_value o ∷ [])) ≡ false
    go true e = r
    go false e = repeats-object vs o r e

any-rest : (u v : Value) (vs : List Value) → is_same order_of u v ≡ false → list_any (λ w. is_same order_of w v) (filter (λ w. not (is_same order_of u w)) vs) ≡ list_any (λ w. is_same order_of w v) vs
any-rest u v [] n = refl
any-rest u v (x ∷ vs) n = go (is_same order_of u x) refl (any-rest u v vs n)
  where
    go : (b : Bool) → is_same order_of u x ≡ b → list_any (λ w. is_same order_of w v) (filter (λ w. not (is_same order_of u w)) vs) ≡ list_any (λ w. is_same order_of w v) vs →
        list_any (λ w. is_same order_of w v) (cond (not b) (x ∷ filter (λ w. not (is_same order_of u w)) vs) (filter (λ w. not (is_same order_of u w)) vs)) ≡ (is_same order_of x v || list_any (λ w. is_same order_of w v) vs)
    go true e ih = ih ∙ ap (λ b. b || list_any (λ w. is_same order_of w v) vs) (sym (ap (λ z. is_same order_of z v) (sym (same_true u x e)) ∙ n))
    go false e ih = ap (λ b. is_same order_of x v || b) ih

pub any-without : (v : Value) (vs : List Value) → list_any (λ w. is_same order_of w v) (firsts order_of vs) ≡ list_any (λ w. is_same order_of w v) vs
any-without v [] = refl
any-without v (u ∷ vs) = go (is_same order_of u v) refl (any-without v vs)
  where
    go : (b : Bool) → is_same order_of u v ≡ b → list_any (λ w. is_same order_of w v) (firsts order_of vs) ≡ list_any (λ w. is_same order_of w v) vs →
        (b || list_any (λ w. is_same order_of w v) (filter (λ w. not (is_same order_of u w)) (firsts order_of vs))) ≡ (b || list_any (λ w. is_same order_of w v) vs)
    go true e ih = refl
    go false e ih = any-rest u v (firsts order_of vs) e ∙ ih

no_more : (l : List Value) → l ++ [] ≡ l
no_more [] = refl
no_more (x ∷ l) = ap (λ t. x ∷ t) (no_more l)

pub without-push : (vs : List Value) (v : Value) → firsts order_of (vs ++ v ∷ []) ≡ cond (list_any (λ w. is_same order_of w v) vs) (firsts order_of vs) (firsts order_of vs ++ v ∷ [])
without-push [] v = refl
without-push (u ∷ vs) v = ap (λ l. u ∷ filter (λ w. not (is_same order_of u w)) l) (without-push vs v) ∙ go (is_same order_of u v) (list_any (λ w. is_same order_of w v) vs) refl
  where
    go : (a b : Bool) → is_same order_of u v ≡ a → u ∷ filter (λ w. not (is_same order_of u w)) (cond b (firsts order_of vs) (firsts order_of vs ++ v ∷ [])) ≡
        cond (a || b) (u ∷ filter (λ w. not (is_same order_of u w)) (firsts order_of vs)) ((u ∷ filter (λ w. not (is_same order_of u w)) (firsts order_of vs)) ++ v ∷ [])
    go true true e = refl
    go false true e = refl
    go true false e = ap (λ l. u ∷ l) (filter-append (λ w. not (is_same order_of u w)) (firsts order_of vs) (v ∷ []) ∙ ap (λ b. filter (λ w. not (is_same order_of u w)) (firsts order_of vs) ++ cond (not b) (v ∷ []) []) e ∙ no_more (filter (λ w. not (is_same order_of u w)) (firsts order_of vs)))
    go false false e = ap (λ l. u ∷ l) (filter-append (λ w. not (is_same order_of u w)) (firsts order_of vs) (v ∷ []) ∙ ap (λ b. filter (λ w. not (is_same order_of u w)) (firsts order_of vs) ++ cond (not b) (v ∷ []) []) e)

pub without_step : (vs : List Value) (i : ℕ) (d : Value) (list new : List Value) (b : Bool) → i < length vs → list ≡ firsts order_of (take i vs) →
    b ≡ list_any (λ w. is_same order_of w (get_or vs i d)) list → new ≡ cond b list (list ++ get_or vs i d ∷ []) → new ≡ firsts order_of (take (i + 1) vs)
without_step vs i d list new b h so test is = is ∙ ap (λ t. cond t list (list ++ get_or vs i d ∷ [])) test
    ∙ ap (λ l. cond (list_any (λ w. is_same order_of w (get_or vs i d)) l) l (l ++ get_or vs i d ∷ [])) so
    ∙ sym (ap (firsts order_of) (take_more vs i d h) ∙ without-push (take i vs) (get_or vs i d)
    ∙ ap (λ b. cond b (firsts order_of (take i vs)) (firsts order_of (take i vs) ++ get_or vs i d ∷ [])) (sym (any-without (get_or vs i d) (take i vs))))

filter_none : (test : Value → Bool) (vs : List Value) → list_any test vs ≡ false → filter (λ w. not (test w)) vs ≡ vs
filter_none test [] h = refl
filter_none test (v ∷ vs) h = go (test v) (none_left (test v) _ h) (filter_none test vs (none_right (test v) _ h))
  where
    go : (b : Bool) → b ≡ false → filter (λ w. not (test w)) vs ≡ vs → cond (not b) (v ∷ filter (λ w. not (test w)) vs) (filter (λ w. not (test w)) vs) ≡ v ∷ vs
    go true e ih = cc
    go false e ih = ap (λ t. v ∷ t) ih

-- a list that repeats no value is left as it is
pub without_same : (vs : List Value) → repeats vs ≡ false → firsts order_of vs ≡ vs
without_same [] h = refl
without_same (v ∷ vs) h = ap (λ l. v ∷ filter (λ w. not (is_same order_of v w)) l) (without_same vs (none_right (list_any (is_same order_of v) vs) _ h))
    ∙ ap (λ t. v ∷ t) (filter_none (is_same order_of v) vs (none_left _ _ h))

-- after a list that repeats none stand those that it does not hold, the first of equals kept
pub without-append : (old vs : List Value) → repeats old ≡ false → firsts order_of (old ++ vs) ≡ old ++ filter (λ v. not (list_any (λ w. is_same order_of w v) old)) (firsts order_of vs)
without-append [] vs h = sym (all (firsts order_of vs))
  where
    all : (l : List Value) → filter (λ v. true) l ≡ l
    all [] = refl
    all (x ∷ l) = ap (λ t. x ∷ t) (all l)
without-append (o ∷ os) vs h =
    ap (λ l. o ∷ filter (λ w. not (is_same order_of o w)) l) (without-append os vs (none_right (list_any (is_same order_of o) os) _ h))
    ∙ ap (λ l. o ∷ l) (filter-append (λ w. not (is_same order_of o w)) os (filter (λ v. not (list_any (λ w. is_same order_of w v) os)) (firsts order_of vs))
    ∙ (λ i. filter_none (is_same order_of o) os (none_left _ _ h) i ++ both (firsts order_of vs) i))
  where
    both : (l : List Value) → filter (λ w. not (is_same order_of o w)) (filter (λ v. not (list_any (λ w. is_same order_of w v) os)) l) ≡ filter (λ v. not (is_same order_of o v || list_any (λ w. is_same order_of w v) os)) l
    both [] = refl
    both (x ∷ l) = go (list_any (λ w. is_same order_of w x) os) (is_same order_of o x) refl (both l)
      where
        rest : List Value
        rest = filter (λ v. not (list_any (λ w. is_same order_of w v) os)) l

        go : (a b : Bool) → is_same order_of o x ≡ b → filter (λ w. not (is_same order_of o w)) rest ≡ filter (λ v. not (is_same order_of o v || list_any (λ w. is_same order_of w v) os)) l →
            filter (λ w. not (is_same order_of o w)) (cond (not a) (x ∷ rest) rest) ≡ cond (not (b || a)) (x ∷ filter (λ v. not (is_same order_of o v || list_any (λ w. is_same order_of w v) os)) l) (filter (λ v. not (is_same order_of o v || list_any (λ w. is_same order_of w v) os)) l)
        go true true e ih = ih
        go true false e ih = ih
        go false true e ih = ap (λ t. cond (not t) (x ∷ filter (λ w. not (is_same order_of o w)) rest) (filter (λ w. not (is_same order_of o w)) rest)) e ∙ ih
        go false false e ih = ap (λ t. cond (not t) (x ∷ filter (λ w. not (is_same order_of o w)) rest) (filter (λ w. not (is_same order_of o w)) rest)) e ∙ ap (λ t. x ∷ t) ih

pub repeats-drop : (vs : List Value) (i : ℕ) (d : Value) → i < length vs → repeats (drop i vs) ≡ (list_any (is_same order_of (get_or vs i d)) (drop (i + 1) vs) || repeats (drop (i + 1) vs))
repeats-drop = general.repeats-drop (is_same order_of)
