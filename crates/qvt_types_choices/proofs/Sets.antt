-- Sets of classes as rows of bits.
use Rattle.std.proofs.Common.{◌≡◌, ◌∙◌, ℕ, zero, suc, ◌+◌, ◌<◌, ◌≤◌, ◌==◌, List, [], ◌∷◌, length, get_or, take, Bool, true, false, ◌&&◌, ◌||◌, not, inl, inr, refl, sym, ap, subst, arith, ◌≢◌}
use Rattle.std.specs.Prelude.{nat_lt, IsTrue, ◌↔◌}
use Rattle.std.specs.List.{list_any, range_with_len}
use Rattle.std.proofs.lemmas.List.{take_all}
use Rattle.std.proofs.lemmas.Bool.{eq-eqb, eqb-true, lt-ltb, ltb-true, le-ltb}
use Rattle.qvt_metamodel.specs.declared.row.Row.{Row}
use Rattle.qvt_metas.specs.Metamodels.{Metamodels}
use Rattle.qvt_metas.specs.Kept.{is_marked, no_row}
use Rattle.qvt_metamodel.proofs.Bools.{and_both, and_left, and_right, clash, not_true, ap2}
use Rattle.qvt_metamodel.proofs.Rows.{no_mark}
use Rattle.qvt_metas.specs.Tables.{EndsWithin}
use Rattle.qvt_rows.specs.Sets.{Overlap, IsSubset}
use Rattle.qvt_types_choices.specs.Sets.{IsSetOf}
use Rattle.qvt_types_choices.proofs.Lowest.{In, same_test}
use Rattle.qvt_types_choices.proofs.Somewhere.{some_is, is_some_of}

pub any_same : (p q : ℕ → Bool) (xs : List ℕ) → ((x : ℕ) → In x xs → p x ≡ q x) → list_any p xs ≡ list_any q xs
any_same p q [] same = refl
any_same p q (x ∷ xs) same = ap2 (λ a b. a || b) (same x (inl refl)) (any_same p q xs (λ y i. same y (inr i)))

pub or_false : (a : Bool) → (a || false) ≡ a
or_false true = refl
or_false false = refl

or_or : (a b c : Bool) → (a || (b || c)) ≡ ((a || b) || c)
or_or true b c = refl
or_or false b c = refl

-- The numbers below a bound.

below_from : (s n d : ℕ) → In d (range_with_len s n) → d < s + n
below_from s zero d i = absurd i
below_from s (suc n) d i = elim i [
  | inl same ↦ omega (arith, same)
  | inr r ↦ (let low : d < (s + 1) + n = below_from (s + 1) n d r in omega (arith, low))
]

pub in_range_below : (n d : ℕ) → In d (range_with_len 0 n) → d < n
in_range_below n d i = (let low : d < 0 + n = below_from 0 n d i in omega (arith, low))

in_from : (s n k : ℕ) → k < n → In (s + k) (range_with_len s n)
in_from s zero k low = absurd (omega (arith, low))
in_from s (suc n) zero low = inl (omega arith)
in_from s (suc n) (suc k) low = inr (subst (λ x. In x (range_with_len (s + 1) n)) (let same : (s + 1) + k ≡ s + suc k = omega arith in same) (in_from (s + 1) n k (omega (arith, low))))

pub in_range : (n d : ℕ) → d < n → In d (range_with_len 0 n)
in_range n d low = subst (λ x. In x (range_with_len 0 n)) (let same : 0 + d ≡ d = omega arith in same) (in_from 0 n d low)

pub any_more : (q : ℕ → Bool) (xs : List ℕ) (i : ℕ) → i < length xs → list_any q (take (suc i) xs) ≡ (list_any q (take i xs) || q (get_or xs i 0))
any_more q [] i low = absurd (omega (arith, low))
any_more q (x ∷ xs) zero low = or_false (q x)
any_more q (x ∷ xs) (suc i) low = ap (λ b. q x || b) (any_more q xs i (omega (arith, low))) ∙ or_or (q x) (list_any q (take i xs)) (q (get_or xs i 0))

-- The set of one without the other.

not_within : (l p q : Bool) → ((l && p) && not (l && q)) ≡ (l && (p && not q))
not_within true p q = refl
not_within false p q = refl

module _ (m : Metamodels) where
  abbrev n : ℕ
  n = length m.classes

  pub set_same : (p q : ℕ → Bool) (r : Row) → IsSetOf m p r → ((d : ℕ) → d < length m.classes → p d ≡ q d) → IsSetOf m q r
  set_same p q r is same = record { within = is.within; marks = λ d. is.marks d ∙ by d (nat_lt d n) refl }
    where
      by : (d : ℕ) (b : Bool) → nat_lt d n ≡ b → (b && p d) ≡ (b && q d)
      by d true e = same d (ltb-true d n e)
      by d false e = refl

  pub set_without : (p q : ℕ → Bool) (r s x : Row) → IsSetOf m p r → IsSetOf m q s → EndsWithin (length m.classes) x → ((d : ℕ) → is_marked x d ≡ (is_marked r d && not (is_marked s d)))
      → IsSetOf m (λ d. p d && not (q d)) x
  set_without p q r s x one other within marks = record {
    within = within;
    marks = λ d. marks d ∙ ap2 (λ a b. a && not b) (one.marks d) (other.marks d) ∙ not_within (nat_lt d n) (p d) (q d);
  }

  -- whether two sets have a class in common, where the one is that of the classes that pass
  pub some_in_both : (q : ℕ → Bool) (r s : Row) (b : Bool) → IsSetOf m q s → (IsTrue b ↔ Overlap r s) → b ≡ list_any (λ d. is_marked r d && q d) (range_with_len 0 (length m.classes))
  some_in_both q r s b is both = same_test b (list_any (λ d. is_marked r d && q d) (range_with_len 0 n))
      (λ h. (let o : Overlap r s = both.0 h in
      let there : (nat_lt o.number n && q o.number) ≡ true = sym (is.marks o.number) ∙ o.second in
      is_some_of (λ d. is_marked r d && q d) o.number (range_with_len 0 n)
      (in_range n o.number (ltb-true o.number n (and_left (nat_lt o.number n) (q o.number) there)))
      (and_both (is_marked r o.number) (q o.number) o.first (and_right (nat_lt o.number n) (q o.number) there))))
      (λ h. both.1 (some_is (λ d. is_marked r d && q d) (range_with_len 0 n) h
      (λ d i t. record {
        number = d;
        first = and_left (is_marked r d) (q d) t;
        second = is.marks d ∙ and_both (nat_lt d n) (q d) (lt-ltb d n (in_range_below n d i)) (and_right (is_marked r d) (q d) t);
      })))

  -- a set in which no class is has no marks
  pub set_emptied : (p : ℕ → Bool) (r : Row) → IsSubset r no_row → IsSetOf m p r → IsSetOf m p no_row
  set_emptied p r none is = record {
    within = record { start = refl; words = omega arith };
    marks = λ d. no_mark d ∙ sym (not_true (is_marked r d) (λ h. clash (none d h) (no_mark d))) ∙ is.marks d;
  }

  pub set_of_none : (p : ℕ → Bool) → ((d : ℕ) → d < length m.classes → p d ≡ false) → IsSetOf m p no_row
  set_of_none p none = record { within = record { start = refl; words = omega arith }; marks = λ d. no_mark d ∙ by d (nat_lt d n) refl }
    where
      by : (d : ℕ) (b : Bool) → nat_lt d n ≡ b → false ≡ (b && p d)
      by d true e = sym (none d (ltb-true d n e))
      by d false e = refl

  pub set_end : (p : ℕ → ℕ → Bool) (ns : List ℕ) (i : ℕ) (r : Row) → length ns ≤ i → IsSetOf m (λ d. list_any (λ k. p k d) (take i ns)) r → IsSetOf m (λ d. list_any (λ k. p k d) ns) r
  set_end p ns i r past is = set_same (λ d. list_any (λ k. p k d) (take i ns)) (λ d. list_any (λ k. p k d) ns) r is (λ d low. ap (list_any (λ k. p k d)) (take_all i ns past))

-- Sets that are made in place.

after_same : (d k : ℕ) → (k == d) ≡ false → nat_lt d (k + 1) ≡ nat_lt d k
after_same d k other = same_test (nat_lt d (k + 1)) (nat_lt d k)
    (λ h. lt-ltb d k (let low : d < k + 1 = ltb-true d (k + 1) h in let apart : k ≢ d = (λ same. clash (eq-eqb k d same) other) in omega (arith, low, apart)))
    (λ h. lt-ltb d (k + 1) (let low : d < k = ltb-true d k h in omega (arith, low)))

-- one number more is looked at
pub marks_next : (p : ℕ → Bool) (k : ℕ) (had has : Row) (b : Bool) → ((d : ℕ) → is_marked had d ≡ (nat_lt d k && p d)) → b ≡ p k
    → ((d : ℕ) → is_marked has d ≡ (is_marked had d || (b && (k == d)))) → (d : ℕ) → is_marked has d ≡ (nat_lt d (k + 1) && p d)
marks_next p k had has b before told marks d = marks d ∙ ap (λ t. t || (b && (k == d))) (before d) ∙ by (k == d) refl
  where
    and_false : (x : Bool) → (x && false) ≡ false
    and_false true = refl
    and_false false = refl

    and_true : (x : Bool) → (x && true) ≡ x
    and_true true = refl
    and_true false = refl

    or_none : (x : Bool) → (x || false) ≡ x
    or_none true = refl
    or_none false = refl

    here : k ≡ d → ((nat_lt k k && p k) || (b && true)) ≡ (nat_lt k (k + 1) && p k)
    here same =
        ap (λ t. (t && p k) || (b && true)) (le-ltb k k (omega arith))
        ∙ and_true b ∙ told
        ∙ ap (λ t. t && p k) (sym (lt-ltb k (k + 1) (omega arith)))

    by : (t : Bool) → (k == d) ≡ t → ((nat_lt d k && p d) || (b && t)) ≡ (nat_lt d (k + 1) && p d)
    by true e = (let same : k ≡ d = eqb-true k d e in subst (λ x. ((nat_lt x k && p x) || (b && true)) ≡ (nat_lt x (k + 1) && p x)) same (here same))
    by false e = ap (λ t. (nat_lt d k && p d) || t) (and_false b) ∙ or_none (nat_lt d k && p d) ∙ ap (λ t. t && p d) (sym (after_same d k e))
