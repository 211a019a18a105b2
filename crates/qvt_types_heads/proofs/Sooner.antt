-- What is kept while the refusals are gone through.
use Rattle.std.proofs.Common.{◌≡◌, ◌∙◌, ℕ, ◌<◌, ◌≤◌, ◌==◌, ◌&&◌, ◌||◌, nat_lt, Bool, true, false, ◌⊎◌, inl, inr, if◌then◌else◌, arith, List, [], ◌∷◌, ◌++◌, Option, Some, None, refl, sym, ap, subst, append_assoc}
use Rattle.std.specs.Prelude.{IsTrue, IsFalse}
use Rattle.std.specs.List.{AllByRecursion}
use Rattle.std.proofs.lemmas.Bool.{or_cases, or_parts, or_left, or_right, or_from, and_parts, and_cases, and_from, and_left, and_right, ltb-true, ltb-false, lt-ltb, le-ltb, eqb-true, eqb-false, eq-eqb, ne_eqb, cases_lt}
use Rattle.std.proofs.lemmas.List.{append-nil}
use Rattle.qvt_types_data.specs.declared.refusal.TypingRefusal.{TypingRefusal}
use Rattle.qvt_types_context.specs.Accepts.{comes_before, least_from, rank, sooner}
use Rattle.qvt_types_heads.specs.Least.{IsLeast, LeastIsLeast, NoneOfNone}

-- an offset and a rank before another
abbrev is_less : ℕ → ℕ → ℕ → ℕ → Bool
is_less o k p l = nat_lt o p || ((o == p) && nat_lt k l)

lower : (o k p l : ℕ) → o < p → is_less o k p l ≡ true
lower o k p l h = or_left (nat_lt o p) ((o == p) && nat_lt k l) (lt-ltb o p h)

level : (o k p l : ℕ) → o ≡ p → k < l → is_less o k p l ≡ true
level o k p l e h = or_right (nat_lt o p) ((o == p) && nat_lt k l) (and_from (o == p) (nat_lt k l) (eq-eqb o p e) (lt-ltb k l h))

-- what is less is lower, or level and of lower rank
parts : (o k p l : ℕ) → is_less o k p l ≡ true → (o < p) ⊎ ((o ≡ p) × (k < l))
parts o k p l h = elim (or_cases (nat_lt o p) ((o == p) && nat_lt k l) h) [
  | inl a ↦ inl (ltb-true o p a)
  | inr b ↦ inr (eqb-true o p (and_parts (o == p) (nat_lt k l) b).0, ltb-true k l (and_parts (o == p) (nat_lt k l) b).1)
]

-- what is not less is higher, or level and not of lower rank
other_parts : (o k p l : ℕ) → is_less o k p l ≡ false → (p < o) ⊎ ((o ≡ p) × (l ≤ k))
other_parts o k p l h = elim (and_cases (o == p) (nat_lt k l) (or_parts (nat_lt o p) ((o == p) && nat_lt k l) h).1) [
  | inl e ↦ inl (let high : p ≤ o = ltb-false o p (or_parts (nat_lt o p) ((o == p) && nat_lt k l) h).0 in
      let other : o ≡ p → ⊥ = eqb-false o p e in
      omega (arith, high, other))
  | inr f ↦ (let high : p ≤ o = ltb-false o p (or_parts (nat_lt o p) ((o == p) && nat_lt k l) h).0 in
      elim (cases_lt p o) [
        | inl low ↦ inl low
        | inr up ↦ inr (let e : o ≡ p = omega (arith, high, up) in e, ltb-false k l f)
      ])
]

-- what is less than another is less than all that are not less than that
below : (r s x : TypingRefusal) → comes_before r s ≡ true → comes_before x s ≡ false → comes_before r x ≡ true
below r s x h g = by (parts r.place.offset (rank r.kind) s.place.offset (rank s.kind) h) (other_parts x.place.offset (rank x.kind) s.place.offset (rank s.kind) g)
  where
    by : ((r.place.offset < s.place.offset) ⊎ ((r.place.offset ≡ s.place.offset) × (rank r.kind < rank s.kind)))
        → ((s.place.offset < x.place.offset) ⊎ ((x.place.offset ≡ s.place.offset) × (rank s.kind ≤ rank x.kind)))
        → comes_before r x ≡ true
    by (inl a) (inl b) = lower r.place.offset (rank r.kind) x.place.offset (rank x.kind) (omega (arith, a, b))
    by (inl a) (inr (e, f)) = lower r.place.offset (rank r.kind) x.place.offset (rank x.kind) (omega (arith, a, e))
    by (inr (e, f)) (inl b) = lower r.place.offset (rank r.kind) x.place.offset (rank x.kind) (omega (arith, e, b))
    by (inr (e, f)) (inr (e', f')) = level r.place.offset (rank r.kind) x.place.offset (rank x.kind) (omega (arith, e, e')) (omega (arith, f, f'))

-- not both of two are less than each other
apart : (o k p l : ℕ) → is_less o k p l ≡ true → is_less p l o k ≡ false
apart o k p l h = or_from (nat_lt p o) ((p == o) && nat_lt l k) (by_offset (parts o k p l h)) (by_rank (parts o k p l h))
  where
    by_offset : ((o < p) ⊎ ((o ≡ p) × (k < l))) → nat_lt p o ≡ false
    by_offset (inl a) = le-ltb p o (omega (arith, a))
    by_offset (inr (e, f)) = le-ltb p o (omega (arith, e))

    by_rank : ((o < p) ⊎ ((o ≡ p) × (k < l))) → ((p == o) && nat_lt l k) ≡ false
    by_rank (inl a) = and_left (p == o) (nat_lt l k) (ne_eqb p o (λ e. absurd (omega (arith, a, e))))
    by_rank (inr (e, f)) = and_right (p == o) (nat_lt l k) (le-ltb l k (omega (arith, f)))

not_itself : (r : TypingRefusal) → comes_before r r ≡ false
not_itself r = or_from (nat_lt r.place.offset r.place.offset) ((r.place.offset == r.place.offset) && nat_lt (rank r.kind) (rank r.kind))
    (le-ltb r.place.offset r.place.offset (omega arith))
    (and_right (r.place.offset == r.place.offset) (nat_lt (rank r.kind) (rank r.kind)) (le-ltb (rank r.kind) (rank r.kind) (omega arith)))

each : (P Q : TypingRefusal → Type 0) → ((x : TypingRefusal) → P x → Q x) → (xs : List TypingRefusal) → AllByRecursion P xs → AllByRecursion Q xs
each P Q f [] all = tt
each P Q f (x ∷ xs) (p, all) = (f x p, each P Q f xs all)

with_last : (P : TypingRefusal → Type 0) (xs : List TypingRefusal) (x : TypingRefusal) → AllByRecursion P xs → P x → AllByRecursion P (xs ++ x ∷ [])
with_last P [] x all p = (p, tt)
with_last P (y ∷ ys) x (q, all) p = (q, with_last P ys x all p)

-- a refusal that comes before the least so far
sooner_next : (done : List TypingRefusal) (s x : TypingRefusal) → IsLeast done s → comes_before x s ≡ true → IsLeast (done ++ x ∷ []) x
sooner_next done s x kept h = record {
  left = done;
  right = [];
  listed = refl;
  least = with_last (λ y. IsFalse (comes_before y x)) done x
      (each (λ y. IsTrue (comes_before x y)) (λ y. IsFalse (comes_before y x))
      (λ y b. apart x.place.offset (rank x.kind) y.place.offset (rank y.kind) b) done all_after)
      (not_itself x);
  leftmost = all_after;
}
  where
    all_after : AllByRecursion (λ y. IsTrue (comes_before x y)) done
    all_after = each (λ y. IsFalse (comes_before y s)) (λ y. IsTrue (comes_before x y)) (λ y a. below x s y h a) done kept.least

-- one that does not
later_next : (done : List TypingRefusal) (s x : TypingRefusal) → IsLeast done s → comes_before x s ≡ false → IsLeast (done ++ x ∷ []) s
later_next done s x kept h = record {
  left = kept.left;
  right = kept.right ++ x ∷ [];
  listed = ap (λ ys. ys ++ x ∷ []) kept.listed ∙ append_assoc kept.left (s ∷ kept.right) (x ∷ []);
  least = with_last (λ y. IsFalse (comes_before y s)) done x kept.least h;
  leftmost = kept.leftmost;
}

next : (done : List TypingRefusal) (s x : TypingRefusal) → IsLeast done s → IsLeast (done ++ x ∷ []) (sooner (Some s) x)
next done s x kept = by (comes_before x s) refl
  where
    by : (b : Bool) → comes_before x s ≡ b → IsLeast (done ++ x ∷ []) (if b then x else s)
    by true h = sooner_next done s x kept h
    by false h = later_next done s x kept h

some_of : TypingRefusal → Option TypingRefusal → TypingRefusal
some_of r None = r
some_of r (Some s) = s

same_some : (r s : TypingRefusal) → Option.Some r ≡ Some s → r ≡ s
unfolding some_of
same_some r s e = ap (some_of r) e

from : (done rs : List TypingRefusal) (s r : TypingRefusal) → IsLeast done s → least_from (Some s) rs ≡ Some r → IsLeast (done ++ rs) r
from done [] s r kept e = subst (λ ds. IsLeast ds r) (sym (append-nil done)) (subst (IsLeast done) (same_some s r e) kept)
from done (x ∷ rs) s r kept e = subst (λ ds. IsLeast ds r) (append_assoc done (x ∷ []) rs) (from (done ++ x ∷ []) rs (sooner (Some s) x) r (next done s x kept) e)

alone : (x : TypingRefusal) → IsLeast (x ∷ []) x
alone x = record { left = []; right = []; listed = refl; least = (not_itself x, tt); leftmost = tt }

pub some_least : LeastIsLeast
some_least [] r e = absurd (cc)
some_least (x ∷ rs) r e = from (x ∷ []) rs x r (alone x) e

stays : (s : TypingRefusal) (rs : List TypingRefusal) → least_from (Some s) rs ≡ None → ⊥
stays s [] e = cc
stays s (r ∷ rs) e = stays (sooner (Some s) r) rs e

pub none_of_none : NoneOfNone
none_of_none [] e = refl
none_of_none (x ∷ rs) e = absurd (stays x rs e)
