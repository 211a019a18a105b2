-- The words of rows: which bits they have.
use Rattle.std.proofs.Common.{◌≡◌, ◌≢◌, ◌∙◌, ℕ, zero, suc, ◌+◌, ◌-◌, ◌*◌, ◌/◌, ◌%◌, ◌^◌, ◌<◌, ◌≤◌, List, length, get_or, true, false, refl, ap, sym, subst, arith, ◌==◌, ◌||◌, ◌&&◌, ◌⊎◌, inl, inr, leb, max}
use Rattle.std.specs.Prelude.{if◌then◌else◌}
use Rattle.std.specs.Int.{bit_at}
use Rattle.std.specs.Int.RustNames.{bit_or}
use Rattle.std.proofs.lemmas.List.{get_or_past}
use Rattle.std.proofs.lemmas.Bool.{eqb-true, eq-eqb, cases_eq}
use Rattle.std.proofs.lemmas.Bool.Decides.{leb_tells}
use Rattle.std.proofs.lemmas.Nat.{div-add-mod'}
use Rattle.std.proofs.lemmas.Nat.Bits.{bit_at-lt, bit_at_or, bit_at-pow_same, bit_at-pow_other}
use Rattle.qvt_metamodel.specs.declared.row.Row.{Row}
use Rattle.qvt_metamodel.specs.Kept.{word_of, is_bit, is_marked}
use Rattle.qvt_meta_tables.specs.Tables.{joined_word, mark_of}
use Rattle.qvt_metamodel.proofs.Bools.{ap2, not_true}
use Rattle.qvt_metamodel.proofs.Rows.{no_bit}

one_of : (x y : ℕ) → x < 2 → y < 2 → (max x y == 1) ≡ ((x == 1) || (y == 1))
one_of zero zero l k = refl
one_of zero (suc zero) l k = refl
one_of zero (suc (suc y)) l k = absurd (omega arith)
one_of (suc zero) zero l k = refl
one_of (suc zero) (suc zero) l k = refl
one_of (suc zero) (suc (suc y)) l k = absurd (omega arith)
one_of (suc (suc x)) y l k = absurd (omega arith)

bit_of_both : (v w k : ℕ) → is_bit (bit_or v w) k ≡ (is_bit v k || is_bit w k)
bit_of_both v w k = ap (λ x. x == 1) (bit_at_or v w k) ∙ one_of (bit_at v k) (bit_at w k) (bit_at-lt v k) (bit_at-lt w k)

same_parts : (c d : ℕ) → c / 64 ≡ d / 64 → c % 64 ≡ d % 64 → c ≡ d
same_parts c d q r = sym (div-add-mod' c 64) ∙ ap2 (λ x y. x * 64 + y) q r ∙ div-add-mod' d 64

bit_of_power : (c d : ℕ) → c / 64 ≡ d / 64 → is_bit (2 ^ (c % 64)) (d % 64) ≡ (c == d)
bit_of_power c d q = elim (cases_eq (d % 64) (c % 64)) [
  | inl same ↦ subst (λ k. is_bit (2 ^ (c % 64)) k ≡ (c == d)) (sym same) (ap (λ x. x == 1) (bit_at-pow_same (c % 64)) ∙ sym (eq-eqb c d (same_parts c d q (sym same))))
  | inr other ↦ ap (λ x. x == 1) (bit_at-pow_other (c % 64) (d % 64) other) ∙ sym (not_true (c == d) (λ h. other (ap (λ x. x % 64) (sym (eqb-true c d h)))))
]

bit_of_mark : (c d : ℕ) → is_bit (mark_of c (d / 64)) (d % 64) ≡ (c == d)
bit_of_mark c d = elim (cases_eq (c / 64) (d / 64)) [
  | inl same ↦ ap (λ b. is_bit (if b then 2 ^ (c % 64) else 0) (d % 64)) (eq-eqb (c / 64) (d / 64) same) ∙ bit_of_power c d same
  | inr other ↦ ap (λ b. is_bit (if b then 2 ^ (c % 64) else 0) (d % 64)) (not_true (c / 64 == d / 64) (λ h. other (eqb-true (c / 64) (d / 64) h)))
      ∙ no_bit (d % 64) ∙ sym (not_true (c == d) (λ h. other (ap (λ x. x / 64) (eqb-true c d h))))
]

-- a row that starts at the first class
marked_from_0 : (r : Row) → r.start ≡ 0 → (d : ℕ) → is_marked r d ≡ is_bit (word_of r (d / 64)) (d % 64)
marked_from_0 r e d = ap (λ s. leb s d && is_bit (word_of r ((d - s) / 64)) ((d - s) % 64)) e
    ∙ ap2 (λ b k. b && is_bit (word_of r (k / 64)) (k % 64)) (low (leb_tells 0 d)) (let same : d - 0 ≡ d = omega arith in same)
  where
    low : ((leb 0 d ≡ true) × (0 ≤ d)) ⊎ ((leb 0 d ≡ false) × (d < 0)) → leb 0 d ≡ true
    low (inl t) = t.0
    low (inr f) = absurd (omega (arith, f.1))

pub joined_marks : (row other next : Row) (c : ℕ) → row.start ≡ 0 → other.start ≡ 0 → next.start ≡ 0 → ((n : ℕ) → word_of next n ≡ joined_word row c other n)
    → (d : ℕ) → is_marked next d ≡ (is_marked row d || (c == d) || is_marked other d)
joined_marks row other next c rs os ns words d =
    marked_from_0 next ns d
    ∙ ap (λ w. is_bit w (d % 64)) (words (d / 64))
    ∙ bit_of_both (bit_or (word_of row (d / 64)) (mark_of c (d / 64))) (word_of other (d / 64)) (d % 64)
    ∙ ap2 (λ a b. a || b)
    (bit_of_both (word_of row (d / 64)) (mark_of c (d / 64)) (d % 64) ∙ ap2 (λ a b. a || b) (sym (marked_from_0 row rs d)) (bit_of_mark c d))
    (sym (marked_from_0 other os d))

-- a row has no marks before its first word, and none behind its last
no_word_before : (r : Row) (n : ℕ) → n < r.skipped → word_of r n ≡ 0
no_word_before r n l = elim (leb_tells r.skipped n) [
  | inl t ↦ absurd (omega (arith, t.1, l))
  | inr f ↦ ap (λ b. if b then get_or r.words (n - r.skipped) 0 else 0) f.0
]

no_word_behind : (r : Row) (n : ℕ) → r.skipped + length r.words ≤ n → word_of r n ≡ 0
no_word_behind r n l = elim (leb_tells r.skipped n) [
  | inl t ↦ ap (λ b. if b then get_or r.words (n - r.skipped) 0 else 0) t.0 ∙ get_or_past r.words (n - r.skipped) 0 (omega (arith, l))
  | inr f ↦ ap (λ b. if b then get_or r.words (n - r.skipped) 0 else 0) f.0
]

-- a row whose first word is not before this one, unless it has no words
none_before : (r : Row) (first n : ℕ) → (0 < length r.words → first ≤ r.skipped) → n < first → word_of r n ≡ 0
none_before r first n low l = elim (leb_tells (r.skipped + length r.words) n) [
  | inl t ↦ no_word_behind r n t.1
  | inr f ↦ no_word_before r n (inside (leb_tells r.skipped n) f.1)
]
  where
    inside : ((leb r.skipped n ≡ true) × (r.skipped ≤ n)) ⊎ ((leb r.skipped n ≡ false) × (n < r.skipped)) → n < r.skipped + length r.words → n < r.skipped
    inside (inl t) h = (let first_low : first ≤ r.skipped = low (omega (arith, t.1, h)) in absurd (omega (arith, first_low, t.1, l)))
    inside (inr f) h = f.1

no_mark_of : (c n : ℕ) → c / 64 ≢ n → mark_of c n ≡ 0
no_mark_of c n other = ap (λ b. if b then 2 ^ (c % 64) else 0) (not_true (c / 64 == n) (λ h. other (eqb-true (c / 64) n h)))

nothing : (row other : Row) (c n : ℕ) → word_of row n ≡ 0 → c / 64 ≢ n → word_of other n ≡ 0 → joined_word row c other n ≡ 0
nothing row other c n a b d = ap2 bit_or (ap2 bit_or a (no_mark_of c n b)) d

-- words from the first on that are those of both rows and of the class are the words of a row
pub joined_words : (row other : Row) (c first : ℕ) (words : List ℕ) → first ≤ c / 64 → c / 64 < first + length words
    → (0 < length row.words → first ≤ row.skipped) → (0 < length other.words → first ≤ other.skipped)
    → row.skipped + length row.words ≤ first + length words → other.skipped + length other.words ≤ first + length words
    → ((i : ℕ) → i < length words → get_or words i 0 ≡ joined_word row c other (first + i))
    → (n : ℕ) → word_of (record { start = 0; skipped = first; words = words }) n ≡ joined_word row c other n
joined_words row other c first words low high frow fother erow eother at n = elim (leb_tells first n) [
  | inl t ↦ ap (λ b. if b then get_or words (n - first) 0 else 0) t.0 ∙ inside (leb_tells (length words) (n - first)) t.1
  | inr f ↦ ap (λ b. if b then get_or words (n - first) 0 else 0) f.0
      ∙ sym (nothing row other c n (none_before row first n frow f.1) (λ e. absurd (omega (arith, e, f.1, low))) (none_before other first n fother f.1))
]
  where
    inside : ((leb (length words) (n - first) ≡ true) × (length words ≤ n - first)) ⊎ ((leb (length words) (n - first) ≡ false) × (n - first < length words)) → first ≤ n → get_or words (n - first) 0 ≡ joined_word row c other n
    inside (inl t) l = get_or_past words (n - first) 0 t.1
        ∙ sym (nothing row other c n (no_word_behind row n (omega (arith, t.1, l, erow))) (λ e. absurd (omega (arith, e, t.1, l, high))) (no_word_behind other n (omega (arith, t.1, l, eother))))
    inside (inr f) l = at (n - first) f.1 ∙ ap (joined_word row c other) (omega (arith, l))
