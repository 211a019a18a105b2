-- An append as the code makes it.
use Rattle.std.proofs.Common.{◌≡◌, ℕ, Bool, true, false, ◌||◌, ◌&&◌, cond, refl, sym, ap, ◌∙◌, List, [], ◌∷◌, ◌++◌, map, length, length-append, suc, not, ◌+◌, arith}
use Rattle.std.specs.Prelude.{filter, Option, Some, None, SomeIff, ◌^◌, ◌<◌}
use Rattle.std.specs.List.{list_any}
use Rattle.qvt_base.specs.declared.numbers.Oid.{Oid}
use Rattle.qvt_value.specs.declared.value.Value.{Value}
use Rattle.qvt_metamodel.specs.Metamodels.{Metamodels, shape_of}
use Rattle.qvt_relation.proofs.Bools.{or_left}
use Rattle.qvt_slots.specs.Change.{oid_of, is_new_object, objects_beyond, is_here, slot_elsewhere}
use Rattle.qvt_slots.specs.Contents.{Contents, slot_of, extent_of, is_model}
use Rattle.qvt_slots.specs.Types.{is_of_type, IsAssignable}
use Rattle.qvt_value.specs.Kept.{is_same, firsts}
use Rattle.qvt_value.specs.Order.{order_of}
use Rattle.qvt_slots.specs.Repeats.{repeats, new_list}
use Rattle.qvt_slots.specs.Assign.{is_elsewhere, crosses, change_to, store_after}
use Rattle.qvt_store.specs.Ready.{IsKnown}
use Rattle.qvt_slots.proofs.Objects.{none_beyond_all, has-append}
use Rattle.qvt_slots.proofs.Repeating.{without-push, without_same, without-append}
use Rattle.qvt_store_laws.proofs.SoundKept.{all-append}
use Rattle.qvt_store_laws.proofs.Opposites.{here}
use Rattle.qvt_store_laws.proofs.Own.{any-push, any-append}
use Rattle.qvt_store_laws.proofs.Touched.{all_stay}

pub beyond-append : (others xs ys : List Value) → objects_beyond others (xs ++ ys) ≡ objects_beyond others xs ++ objects_beyond others ys
beyond-append others [] ys = refl
beyond-append others (x ∷ xs) ys = go (is_new_object others x) (beyond-append others xs ys)
  where
    go : (b : Bool) → objects_beyond others (xs ++ ys) ≡ objects_beyond others xs ++ objects_beyond others ys →
        map oid_of (cond b (x ∷ filter (is_new_object others) (xs ++ ys)) (filter (is_new_object others) (xs ++ ys))) ≡ map oid_of (cond b (x ∷ filter (is_new_object others) xs) (filter (is_new_object others) xs)) ++ objects_beyond others ys
    go true e = ap (λ l. oid_of x ∷ l) e
    go false e = e

-- what is added stands in what is put last
pub adds_last : (old us : List Value) (added : List Oid) → added ≡ [] ++ objects_beyond old us → added ≡ objects_beyond old (old ++ us)
adds_last old us added e = e ∙ sym (beyond-append old old us ∙ ap (λ l. l ++ objects_beyond old us) (none_beyond_all old old (λ y h. h)))

pub removes_none : (old us : List Value) → ◌≡◌ {A = List Oid} [] (objects_beyond (old ++ us) old)
removes_none old us = sym (none_beyond_all (old ++ us) old (λ y h. has-append old us y ∙ or_left _ _ h))

pub same_none : (old : List Value) → ◌≡◌ {A = List Oid} [] (objects_beyond old old)
same_none old = sym (none_beyond_all old old (λ y h. h))

pub list_assignable : (s : Contents) (o p : ℕ) (us : List Value) → IsKnown s → IsAssignable s o p us → IsAssignable s o p (slot_of s o p ++ us)
list_assignable s o p us known can = record {
  live = can.live;
  feature = can.feature;
  types = all-append (is_of_type s p) (slot_of s o p) us (known.typed.types o p) can.types;
}

-- the new list, by the value's place
pub plain_last : (m : Metamodels) (p : ℕ) (vs : List Value) → (shape_of m p).unique ≡ false → new_list m p vs ≡ vs
plain_last m p vs u = ap (λ b. cond b (firsts order_of vs) vs) u

pub new_last : (m : Metamodels) (p : ℕ) (old : List Value) (v : Value) → (shape_of m p).unique ≡ true → repeats old ≡ false → list_any (λ w. is_same order_of w v) old ≡ false → new_list m p (old ++ v ∷ []) ≡ old ++ v ∷ []
new_last m p old v u distinct absent = ap (λ b. cond b (firsts order_of (old ++ v ∷ [])) (old ++ v ∷ [])) u ∙ without-push old v
    ∙ ap (λ b. cond b (firsts order_of old) (firsts order_of old ++ v ∷ [])) absent ∙ ap (λ l. l ++ v ∷ []) (without_same old distinct)

pub new_none : (m : Metamodels) (p : ℕ) (old : List Value) (v : Value) → (shape_of m p).unique ≡ true → repeats old ≡ false → list_any (λ w. is_same order_of w v) old ≡ true → new_list m p (old ++ v ∷ []) ≡ old
new_none m p old v u distinct there = ap (λ b. cond b (firsts order_of (old ++ v ∷ [])) (old ++ v ∷ [])) u ∙ without-push old v
    ∙ ap (λ b. cond b (firsts order_of old) (firsts order_of old ++ v ∷ [])) there ∙ without_same old distinct

pub crosses-push : (s : Contents) (o : ℕ) (vs : List Value) (v : Value) → (is_model s (extent_of s o) && (list_any (is_elsewhere s o) vs || is_elsewhere s o v)) ≡ crosses s o (vs ++ v ∷ [])
crosses-push s o vs v = ap (λ b. is_model s (extent_of s o) && b) (sym (any-push (is_elsewhere s o) vs v))

-- the new list, by those of the values that the slot does not hold
pub new_more : (m : Metamodels) (p : ℕ) (old us news fresh : List Value) → (shape_of m p).unique ≡ true → repeats old ≡ false → news ≡ firsts order_of us →
    fresh ≡ filter (λ v. not (list_any (λ w. is_same order_of w v) old)) news → new_list m p (old ++ us) ≡ old ++ fresh
new_more m p old us news fresh u distinct first rest = ap (λ b. cond b (firsts order_of (old ++ us)) (old ++ us)) u ∙ without-append old us distinct
    ∙ ap (λ l. old ++ filter (λ v. not (list_any (λ w. is_same order_of w v) old)) l) (sym first) ∙ ap (λ l. old ++ l) (sym rest)

pub crosses-append : (s : Contents) (o : ℕ) (vs us : List Value) → (is_model s (extent_of s o) && (list_any (is_elsewhere s o) vs || list_any (is_elsewhere s o) us)) ≡ crosses s o (vs ++ us)
crosses-append s o vs us = ap (λ b. is_model s (extent_of s o) && b) (sym (any-append (is_elsewhere s o) vs us))

pub length-more : (vs us : List Value) (n j k : ℕ) → n ≡ length vs → j ≡ length us → k ≡ n + j → k ≡ length (vs ++ us)
length-more vs us n j k e f h = h ∙ (λ i. e i + f i) ∙ sym (length-append vs us)

pub length-last : (vs : List Value) (v : Value) (n k : ℕ) → n ≡ length vs → k ≡ n + 1 → k ≡ length (vs ++ v ∷ [])
length-last vs v n k e f = f ∙ ap (λ i. i + 1) e ∙ sym (pushed vs)
  where
    pushed : (vs : List Value) → length (vs ++ v ∷ []) ≡ length vs + 1
    pushed [] = refl
    pushed (w ∷ vs) = ap suc (pushed vs) ∙ one_more (length vs)
      where
        one_more : (n : ℕ) → suc (n + 1) ≡ suc n + 1
        one_more n = omega arith

pub count_is : (n i : ℕ) (r : Option ℕ) (k : ℕ) → SomeIff r (n + i < 2 ^ 64) (n + i) → r ≡ Some k → k ≡ n + i
count_is n i None k h e = cc
count_is n i (Some j) k h e = let q : j ≡ k = cc in sym q ∙ h.1

-- a list that stays leaves the store
pub none_told : (s : Contents) (o p : ℕ) → IsKnown s → store_after s (change_to s o p (slot_of s o p)) ≡ s
none_told s o p known = known.told (change_to s o p (slot_of s o p)) refl (λ x f. go x f (is_here (change_to s o p (slot_of s o p)) x f) refl)
  where
    go : (x f : ℕ) (b : Bool) → is_here (change_to s o p (slot_of s o p)) x f ≡ b → slot_of s x f ≡ cond b (slot_of s o p) (slot_elsewhere (change_to s o p (slot_of s o p)) x f)
    go x f true e =
        let at : (x ≡ o) × (f ≡ p) = here (change_to s o p (slot_of s o p)) x f e in
        λ i. slot_of s (at.0 i) (at.1 i)
    go x f false e = sym (all_stay (change_to s o p (slot_of s o p)) known.well_formed
        (none_beyond_all (slot_of s o p) (slot_of s o p) (λ y h. h)) (none_beyond_all (slot_of s o p) (slot_of s o p) (λ y h. h)) x f)
