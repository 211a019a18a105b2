-- Sets of numbers that are made in place.
use Rattle.std.proofs.Common.{◌≡◌, ◌∙◌, ℕ, zero, suc, ◌-◌, ◌/◌, ◌%◌, ◌*◌, ◌^◌, ◌<◌, ◌≤◌, ◌==◌, leb, ◌≢◌, List, [], length, get_or, set, replicate, Bool, true, false, ◌&&◌, ◌||◌, inl, inr, ◌⊎◌, refl, sym, ap, subst, arith}
use Rattle.std.specs.Prelude.{nat_lt, if◌then◌else◌}
use Rattle.std.specs.Int.RustNames.{bit_or}
use Rattle.std.specs.Int.Bits.{or_zero_r}
use Rattle.std.proofs.Math.Nat.{div-le_self, div-mul-le_self}
use Rattle.std.proofs.lemmas.Nat.{le-div}
use Rattle.std.proofs.lemmas.Bool.{cases_eq, eq-eqb, eqb-true, le-ltb}
use Rattle.std.proofs.lemmas.Bool.Decides.{leb_tells}
use Rattle.std.proofs.lemmas.List.{get_or-set_same, get_or-set_other}
use Rattle.qvt_metas.specs.Metamodels.{Metamodels}
use Rattle.qvt_metamodel.specs.declared.row.Row.{Row}
use Rattle.qvt_metas.specs.Kept.{no_row, word_of, is_bit, is_marked}
use Rattle.qvt_metamodel.proofs.Bools.{and_no, not_true}
use Rattle.qvt_metamodel.proofs.Rows.{no_bit, no_mark}
use Rattle.qvt_metas.specs.Tables.{mark_of}
use Rattle.qvt_meta_tables.specs.Tables.{joined_word}
use Rattle.qvt_meta_tables.proofs.Words.{joined_marks}
use Rattle.qvt_types_choices.specs.Sets.{IsSetOf, word_count}
use Rattle.qvt_counts.specs.Counts.{bits}

pub word_few : (n : ℕ) → word_count n ≤ n
word_few n = omega arith

pub word_there : (k n : ℕ) → k < n → k / 64 < word_count n
word_there k n low =
    let one : k / 64 ≤ k = div-le_self k 64 in
    let back : k / 64 * 64 ≤ k = div-mul-le_self k 64 in
    let two : k / 64 ≤ n / 64 = le-div (k / 64) n 64 (omega arith) (omega (arith, back, low)) in
    omega (arith, one, two, low)

word_is : (ws : List ℕ) (n : ℕ) → word_of (bits ws) n ≡ get_or ws n 0
word_is ws n = ap (λ b. if b then get_or ws (n - 0) 0 else 0) (low (leb_tells 0 n)) ∙ ap (λ k. get_or ws k 0) (let same : n - 0 ≡ n = omega arith in same)
  where
    low : ((leb 0 n ≡ true) × (0 ≤ n)) ⊎ ((leb 0 n ≡ false) × (n < 0)) → leb 0 n ≡ true
    low (inl t) = t.0
    low (inr f) = absurd (omega (arith, f.1))

abbrev word_in : List ℕ → ℕ → ℕ
word_in ws n = get_or ws n 0

nothing : (k n : ℕ) → word_in (replicate k 0) n ≡ 0
nothing zero n = refl
nothing (suc k) zero = refl
nothing (suc k) (suc n) = nothing k n

pub no_marks : (p : ℕ → Bool) (k : ℕ) (ws : List ℕ) → ws ≡ replicate k 0 → (d : ℕ) → is_marked (bits ws) d ≡ (nat_lt d 0 && p d)
no_marks p k ws are d =
    and_no (leb 0 d) (is_bit (word_of (bits ws) ((d - 0) / 64)) ((d - 0) % 64))
    (ap (λ w. is_bit w ((d - 0) % 64)) (word_is ws ((d - 0) / 64) ∙ ap (λ xs. word_in xs ((d - 0) / 64)) are ∙ nothing k ((d - 0) / 64)) ∙ no_bit ((d - 0) % 64))
    ∙ sym (ap (λ b. b && p d) (le-ltb d 0 (omega arith)))

no_word : (n : ℕ) → word_of no_row n ≡ 0
no_word n = word_is [] n

no_mark_of : (c n : ℕ) → c / 64 ≢ n → mark_of c n ≡ 0
no_mark_of c n other = ap (λ b. if b then 2 ^ (c % 64) else 0) (not_true (c / 64 == n) (λ h. other (eqb-true (c / 64) n h)))

or_false : (a : Bool) → (a || false) ≡ a
or_false true = refl
or_false false = refl

-- the bit of a number is set
pub marked_more : (ws : List ℕ) (c : ℕ) → c / 64 < length ws → (d : ℕ)
    → is_marked (bits (set ws (c / 64) (bit_or (get_or ws (c / 64) 0) (2 ^ (c % 64))))) d ≡ (is_marked (bits ws) d || (c == d))
marked_more ws c there d =
    joined_marks (bits ws) no_row (bits more) c refl refl refl words d
    ∙ ap (λ b. (is_marked (bits ws) d || (c == d)) || b) (no_mark d)
    ∙ or_false (is_marked (bits ws) d || (c == d))
  where
    more : List ℕ
    more = set ws (c / 64) (bit_or (get_or ws (c / 64) 0) (2 ^ (c % 64)))

    at : (n : ℕ) → get_or more n 0 ≡ bit_or (get_or ws n 0) (mark_of c n)
    at n = elim (cases_eq n (c / 64)) [
      | inl same ↦ subst (λ k. get_or more k 0 ≡ bit_or (get_or ws k 0) (mark_of c k)) (sym same)
          (get_or-set_same ws (c / 64) (bit_or (get_or ws (c / 64) 0) (2 ^ (c % 64))) 0 there
          ∙ ap (λ b. bit_or (get_or ws (c / 64) 0) (if b then 2 ^ (c % 64) else 0)) (sym (eq-eqb (c / 64) (c / 64) refl)))
      | inr other ↦ get_or-set_other ws (c / 64) n (bit_or (get_or ws (c / 64) 0) (2 ^ (c % 64))) 0 other
          ∙ sym (ap (bit_or (get_or ws n 0)) (no_mark_of c n (λ e. other (sym e))) ∙ or_zero_r (get_or ws n 0))
    ]

    words : (n : ℕ) → word_of (bits more) n ≡ joined_word (bits ws) c no_row n
    words n =
        word_is more n ∙ at n
        ∙ ap (λ w. bit_or w (mark_of c n)) (sym (word_is ws n))
        ∙ sym (or_zero_r (bit_or (word_of (bits ws) n) (mark_of c n)))
        ∙ ap (bit_or (bit_or (word_of (bits ws) n) (mark_of c n))) (sym (no_word n))

pub empty_set : (m : Metamodels) (r : Row) → r ≡ no_row → IsSetOf m (λ d. false) r
empty_set m r is = subst (IsSetOf m (λ d. false)) (sym is) (record {
  within = record { start = refl; words = omega arith };
  marks = λ d. no_mark d ∙ sym (and_no (nat_lt d (length m.classes)) false refl);
})
