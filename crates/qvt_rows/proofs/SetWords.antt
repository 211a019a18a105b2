-- The words of rows as sets of numbers.
use Rattle.std.proofs.Common.{◌≡◌, ◌≢◌, ◌∙◌, ℕ, zero, suc, ◌+◌, ◌-◌, ◌*◌, ◌/◌, ◌%◌, ◌^◌, ◌<◌, ◌≤◌, List, [], ◌∷◌, ◌++◌, length, drop, get_or, set, Bool, true, false, refl, ap, sym, subst, arith, ◌==◌, ◌||◌, ◌&&◌, not, inl, inr, min, max, leb, w64}
use Rattle.std.specs.Prelude.{if◌then◌else◌, nat_lt, bit_and, bit_or}
use Rattle.std.specs.Int.{bit_at, bit_not, trailing_zeros}
use Rattle.std.proofs.lemmas.List.{get_or_past, get_or_append_left, get_or-append_right, get_or-drop, get_or-set_same, get_or-set_other, length-set}
use Rattle.std.proofs.lemmas.Bool.{eqb-true, eq-eqb, le-leb, lt-leb, lt-ltb, le-ltb, cases_eq, cases_lt, and_parts, not-true}
use Rattle.std.proofs.lemmas.Nat.{or_comm}
use Rattle.std.proofs.lemmas.Nat.Bits.{bit_at-lt, bit_at-zero, bit_at_or, bit_at_and, bit_at_not, bit_at-trailing_zeros}
use Rattle.qvt_metamodel.specs.declared.row.Row.{Row}
use Rattle.qvt_metamodel.specs.Kept.{word_of, is_bit, is_marked, no_row}
use Rattle.qvt_rows.specs.Sets.{Overlap, IsSubset, IsLengthened, ArePut}
use Rattle.qvt_metamodel.proofs.Bools.{ap2, clash}
use Rattle.qvt_metamodel.proofs.Rows.{no_bit, no_mark}
use Rattle.qvt_meta_tables.specs.Tables.{joined_word}
use Rattle.qvt_meta_tables.proofs.Words.{joined_words, joined_marks}
use Rattle.qvt_relation.proofs.Bools.{or_false}

-- a row with these words from a place on
abbrev pub row_from : ℕ → List ℕ → Row
row_from first words = record { start = 0; skipped = first; words = words }

most_of : (x y : ℕ) → x < 2 → y < 2 → (max x y == 1) ≡ ((x == 1) || (y == 1))
most_of zero zero l k = refl
most_of zero (suc zero) l k = refl
most_of (suc zero) zero l k = refl
most_of (suc zero) (suc zero) l k = refl
most_of zero (suc (suc y)) l k = absurd (omega arith)
most_of (suc zero) (suc (suc y)) l k = absurd (omega arith)
most_of (suc (suc x)) y l k = absurd (omega arith)

left_of : (x y : ℕ) → x < 2 → y < 2 → (min x (1 - y) == 1) ≡ ((x == 1) && not (y == 1))
left_of zero zero l k = refl
left_of zero (suc zero) l k = refl
left_of (suc zero) zero l k = refl
left_of (suc zero) (suc zero) l k = refl
left_of zero (suc (suc y)) l k = absurd (omega arith)
left_of (suc zero) (suc (suc y)) l k = absurd (omega arith)
left_of (suc (suc x)) y l k = absurd (omega arith)

pub bit_of_union : (v w k : ℕ) → is_bit (bit_or v w) k ≡ (is_bit v k || is_bit w k)
bit_of_union v w k = ap (λ x. x == 1) (bit_at_or v w k) ∙ most_of (bit_at v k) (bit_at w k) (bit_at-lt v k) (bit_at-lt w k)

pub bit_of_rest : (v w k : ℕ) → w < 2 ^ 64 → k < 64 → is_bit (bit_and v (bit_not w64 w)) k ≡ (is_bit v k && not (is_bit w k))
bit_of_rest v w k fits l =
    ap (λ x. x == 1) (bit_at_and v (bit_not w64 w) k ∙ ap (min (bit_at v k)) (bit_at_not w64 w k fits l))
    ∙ left_of (bit_at v k) (bit_at w k) (bit_at-lt v k) (bit_at-lt w k)

-- a mark is a bit of a word
pub marked : (r : Row) → r.start ≡ 0 → (d : ℕ) → is_marked r d ≡ is_bit (word_of r (d / 64)) (d % 64)
marked r e d =
    ap (λ s. leb s d && is_bit (word_of r ((d - s) / 64)) ((d - s) % 64)) e
    ∙ ap2 (λ b k. b && is_bit (word_of r (k / 64)) (k % 64)) (le-leb 0 d (omega arith)) (let same : d - 0 ≡ d = omega arith in same)

marked_at : (r : Row) → r.start ≡ 0 → (n k : ℕ) → k < 64 → is_marked r (n * 64 + k) ≡ is_bit (word_of r n) k
marked_at r e n k l =
    marked r e (n * 64 + k)
    ∙ ap2 (λ m j. is_bit (word_of r m) j) (let word : (n * 64 + k) / 64 ≡ n = omega arith in word) (let bit : (n * 64 + k) % 64 ≡ k = omega arith in bit)

unmarked : (r : Row) → r.start ≡ 0 → (d : ℕ) → word_of r (d / 64) ≡ 0 → is_marked r d ≡ false
unmarked r e d h = marked r e d ∙ ap (λ w. is_bit w (d % 64)) h ∙ no_bit (d % 64)

-- a row has no words before its first, and none behind its last
pub no_word_before : (r : Row) (n : ℕ) → n < r.skipped → word_of r n ≡ 0
no_word_before r n l = ap (λ b. if b then get_or r.words (n - r.skipped) 0 else 0) (lt-leb r.skipped n l)

pub no_word_behind : (r : Row) (n : ℕ) → r.skipped + length r.words ≤ n → word_of r n ≡ 0
no_word_behind r n l = ap (λ b. if b then get_or r.words (n - r.skipped) 0 else 0) (le-leb r.skipped n (omega (arith, l))) ∙ get_or_past r.words (n - r.skipped) 0 (omega (arith, l))

-- nor marks
no_mark_before : (r : Row) → r.start ≡ 0 → (d : ℕ) → d / 64 < r.skipped → is_marked r d ≡ false
no_mark_before r e d l = unmarked r e d (no_word_before r (d / 64) l)

pub no_mark_behind : (r : Row) → r.start ≡ 0 → (d : ℕ) → r.skipped + length r.words ≤ d / 64 → is_marked r d ≡ false
no_mark_behind r e d l = unmarked r e d (no_word_behind r (d / 64) l)

pub no_mark_in_front : (r : Row) → r.start ≡ 0 → (first d : ℕ) → (0 < length r.words → first ≤ r.skipped) → d / 64 < first → is_marked r d ≡ false
no_mark_in_front r e first d front l = elim (cases_lt 0 (length r.words)) [
  | inl some ↦ (let low : first ≤ r.skipped = front some in no_mark_before r e d (omega (arith, low, l)))
  | inr none ↦ elim (cases_lt (d / 64) r.skipped) [
    | inl before ↦ no_mark_before r e d before
    | inr behind ↦ no_mark_behind r e d (omega (arith, none, behind))
  ]
]

inside : (r : Row) → r.start ≡ 0 → (d : ℕ) → is_marked r d ≡ true → (r.skipped ≤ d / 64) × (d / 64 < r.skipped + length r.words)
inside r e d h = (
  elim (cases_lt (d / 64) r.skipped) [ inl l ↦ clash h (no_mark_before r e d l) | inr l ↦ l ],
  elim (cases_lt (d / 64) (r.skipped + length r.words)) [ inl l ↦ l | inr l ↦ clash h (no_mark_behind r e d l) ],
)

-- words from a place on that have the bits of a set that has nothing before and behind them
marks_are : (first : ℕ) (words : List ℕ) (p : ℕ → Bool)
    → ((i : ℕ) → i < length words → (d : ℕ) → d / 64 ≡ first + i → is_bit (get_or words i 0) (d % 64) ≡ p d)
    → ((d : ℕ) → d / 64 < first → p d ≡ false)
    → ((d : ℕ) → first + length words ≤ d / 64 → p d ≡ false)
    → (d : ℕ) → is_marked (row_from first words) d ≡ p d
marks_are first words p within before behind d = elim (cases_lt (d / 64) first) [
  | inl l ↦ no_mark_before (row_from first words) refl d l ∙ sym (before d l)
  | inr on ↦ elim (cases_lt (d / 64) (first + length words)) [
    | inl l ↦ marked (row_from first words) refl d
        ∙ ap (λ b. is_bit (if b then get_or words (d / 64 - first) 0 else 0) (d % 64)) (le-leb first (d / 64) on)
        ∙ within (d / 64 - first) (omega (arith, on, l)) d (omega (arith, on))
    | inr l ↦ no_mark_behind (row_from first words) refl d l ∙ sym (behind d l)
  ]
]

-- the set of one number
pub alone : (c : ℕ) (words : List ℕ) → words ≡ 2 ^ (c % 64) ∷ [] → (d : ℕ) → is_marked (row_from (c / 64) words) d ≡ (c == d)
alone c words are d = subst (λ ws. is_marked (row_from (c / 64) ws) d ≡ (c == d)) (sym are)
    (joined_marks no_row no_row (row_from (c / 64) (2 ^ (c % 64) ∷ [])) c refl refl refl
    (joined_words no_row no_row c (c / 64) (2 ^ (c % 64) ∷ []) (omega arith) (omega arith) (λ h. absurd (omega (arith, h))) (λ h. absurd (omega (arith, h))) (omega arith) (omega arith) at)
    d
    ∙ ap2 (λ a b. a || (c == d) || b) (no_mark d) (no_mark d) ∙ or_false (c == d))
  where
    no_word : (n : ℕ) → word_of no_row n ≡ 0
    no_word n = ap (λ b. if b then 0 else 0) (le-leb 0 n (omega arith))

    at : (i : ℕ) → i < 1 → get_or (2 ^ (c % 64) ∷ []) i 0 ≡ joined_word no_row c no_row (c / 64 + i)
    at zero l = sym (ap2 (λ w b. bit_or (bit_or w (if b then 2 ^ (c % 64) else 0)) w) (no_word (c / 64 + 0)) (eq-eqb (c / 64) (c / 64 + 0) (omega arith)) ∙ or_comm (2 ^ (c % 64)) 0)
    at (suc i) l = absurd (omega (arith, l))

pub union : (one other : Row) (first : ℕ) (words : List ℕ) → one.start ≡ 0 → other.start ≡ 0
    → (0 < length one.words → first ≤ one.skipped) → (0 < length other.words → first ≤ other.skipped)
    → one.skipped + length one.words ≤ first + length words → other.skipped + length other.words ≤ first + length words
    → ((i : ℕ) → i < length words → get_or words i 0 ≡ bit_or (word_of one (first + i)) (word_of other (first + i)))
    → (d : ℕ) → is_marked (row_from first words) d ≡ (is_marked one d || is_marked other d)
union one other first words start also front next_front end next_end at =
    marks_are first words (λ d. is_marked one d || is_marked other d)
    (λ i l d e. ap (λ w. is_bit w (d % 64)) (at i l) ∙ ap (λ n. is_bit (bit_or (word_of one n) (word_of other n)) (d % 64)) (sym e)
    ∙ bit_of_union (word_of one (d / 64)) (word_of other (d / 64)) (d % 64) ∙ sym (ap2 (λ a b. a || b) (marked one start d) (marked other also d)))
    (λ d l. ap2 (λ a b. a || b) (no_mark_in_front one start first d front l) (no_mark_in_front other also first d next_front l))
    (λ d l. ap2 (λ a b. a || b) (no_mark_behind one start d (omega (arith, l, end))) (no_mark_behind other also d (omega (arith, l, next_end))))

-- a word without marks behind the others
zero_behind : (ws : List ℕ) (k : ℕ) → get_or (ws ++ 0 ∷ []) k 0 ≡ get_or ws k 0
zero_behind [] zero = refl
zero_behind [] (suc k) = refl
zero_behind (w ∷ ws) zero = refl
zero_behind (w ∷ ws) (suc k) = zero_behind ws k

pub no_more_words : (r : Row) (words : List ℕ) → words ≡ r.words ++ 0 ∷ [] → (n : ℕ) → word_of (record { start = r.start; skipped = r.skipped; words = words }) n ≡ word_of r n
no_more_words r words are n = ap (λ w. if leb r.skipped n then w else 0) (ap (λ ws. get_or ws (n - r.skipped) 0) are ∙ zero_behind r.words (n - r.skipped))

-- rows with the same words have the same marks
pub same_marks : (one other : Row) → one.start ≡ 0 → other.start ≡ 0 → ((n : ℕ) → word_of one n ≡ word_of other n) → (d : ℕ) → is_marked one d ≡ is_marked other d
same_marks one other start also same d = marked one start d ∙ ap (λ w. is_bit w (d % 64)) (same (d / 64)) ∙ sym (marked other also d)

-- a row that reaches to a place has the words of one, and behind these those of another from that place on
module _ (one row other : Row) (words : List ℕ) (end : ℕ) (first : row.skipped ≡ one.skipped) (reach : row.skipped + length row.words ≡ end)
    (had : one.skipped + length one.words ≤ end) (most : end ≤ max (one.skipped + length one.words) other.skipped) (from_there : other.skipped ≤ end)
    (same : (n : ℕ) → word_of row n ≡ word_of one n) (are : words ≡ row.words ++ drop (end - other.skipped) other.words) where
  abbrev others : List ℕ
  others = drop (end - other.skipped) other.words

  abbrev longer : Row
  longer = record { start = row.start; skipped = row.skipped; words = words }

  in_front : (n : ℕ) → n < end → word_of longer n ≡ word_of row n
  in_front n l = ap (λ ws. if leb row.skipped n then get_or ws (n - row.skipped) 0 else 0) are ∙ elim (cases_lt n row.skipped) [
    | inl k ↦ ap (λ b. if b then get_or (row.words ++ others) (n - row.skipped) 0 else 0) (lt-leb row.skipped n k) ∙ sym (no_word_before row n k)
    | inr k ↦ ap (λ w. if leb row.skipped n then w else 0) (get_or_append_left row.words others 0 (n - row.skipped) (omega (arith, l, k, reach)))
  ]

  behind : (n : ℕ) → end ≤ n → word_of longer n ≡ word_of other n
  behind n l =
      ap (λ ws. if leb row.skipped n then get_or ws (n - row.skipped) 0 else 0) are
      ∙ ap (λ b. if b then get_or (row.words ++ others) (n - row.skipped) 0 else 0) (le-leb row.skipped n (omega (arith, l, reach)))
      ∙ get_or-append_right row.words others (length row.words) (n - row.skipped) 0 refl (omega (arith, l, reach))
      ∙ get_or-drop (end - other.skipped) other.words (n - row.skipped - length row.words) 0
      ∙ ap (λ k. get_or other.words k 0) (let at : (end - other.skipped) + (n - row.skipped - length row.words) ≡ n - other.skipped = omega (arith, l, reach, from_there) in at)
      ∙ sym (ap (λ b. if b then get_or other.words (n - other.skipped) 0 else 0) (le-leb other.skipped n (omega (arith, l, from_there))))

  pub lengthened : (n : ℕ) → word_of (record { start = row.start; skipped = row.skipped; words = words }) n ≡ (if nat_lt n (one.skipped + length one.words) then word_of one n else word_of other n)
  lengthened n = elim (cases_lt n (one.skipped + length one.words)) [
    | inl k ↦ in_front n (omega (arith, k, had)) ∙ same n ∙ sym (ap (λ b. if b then word_of one n else word_of other n) (lt-ltb n (one.skipped + length one.words) k))
    | inr k ↦ elim (cases_lt n end) [
      | inl l ↦ in_front n l ∙ same n ∙ no_word_behind one n k ∙ sym (no_word_before other n (omega (arith, l, k, most)))
      | inr l ↦ behind n l
    ] ∙ sym (ap (λ b. if b then word_of one n else word_of other n) (le-ltb n (one.skipped + length one.words) k))
  ]

-- a row that ends no later than one
pub not_lengthened : (one other : Row) → other.skipped + length other.words ≤ one.skipped + length one.words
    → (n : ℕ) → word_of one n ≡ (if nat_lt n (one.skipped + length one.words) then word_of one n else word_of other n)
not_lengthened one other short n = elim (cases_lt n (one.skipped + length one.words)) [
  | inl k ↦ sym (ap (λ b. if b then word_of one n else word_of other n) (lt-ltb n (one.skipped + length one.words) k))
  | inr k ↦ no_word_behind one n k ∙ sym (no_word_behind other n (omega (arith, k, short))) ∙ sym (ap (λ b. if b then word_of one n else word_of other n) (le-ltb n (one.skipped + length one.words) k))
]

-- another word at a place
module _ (r : Row) (p w : ℕ) (low : r.skipped ≤ p) (high : p < r.skipped + length r.words) where
  abbrev with_word : Row
  with_word = record { start = r.start; skipped = r.skipped; words = set r.words (p - r.skipped) w }

  word_there : word_of with_word p ≡ w
  word_there =
      ap (λ b. if b then get_or (set r.words (p - r.skipped) w) (p - r.skipped) 0 else 0) (le-leb r.skipped p low)
      ∙ get_or-set_same r.words (p - r.skipped) w 0 (omega (arith, low, high))

  word_elsewhere : (n : ℕ) → n ≢ p → word_of with_word n ≡ word_of r n
  word_elsewhere n other = elim (cases_lt n r.skipped) [
    | inl l ↦ ap (λ b. if b then get_or (set r.words (p - r.skipped) w) (n - r.skipped) 0 else 0) (lt-leb r.skipped n l) ∙ sym (ap (λ b. if b then get_or r.words (n - r.skipped) 0 else 0) (lt-leb r.skipped n l))
    | inr l ↦ ap (λ v. if leb r.skipped n then v else 0) (get_or-set_other r.words (p - r.skipped) (n - r.skipped) w 0 (λ same. other (omega (arith, same, l, low))))
  ]

-- the words of a row before place p are those of both, and the others as they were
pub record UnitedBefore (one other row : Row) (p : ℕ) : Type 0 where
  pub start : row.start ≡ 0
  pub first : row.skipped ≡ one.skipped
  pub each : length row.words ≡ length one.words
  pub done : (n : ℕ) → n < p → word_of row n ≡ bit_or (word_of one n) (word_of other n)
  pub rest : (n : ℕ) → p ≤ n → word_of row n ≡ word_of one n

pub united_none : (one other : Row) → one.start ≡ 0 → UnitedBefore one other one other.skipped
united_none one other start = record {
  start = start;
  first = refl;
  each = refl;
  done = λ n l. sym (ap (bit_or (word_of one n)) (no_word_before other n l) ∙ or_comm (word_of one n) 0);
  rest = λ n l. refl;
}

pub united_next : (one other row : Row) (words : List ℕ) (p : ℕ) → row.skipped ≤ p → p < row.skipped + length row.words
    → words ≡ set row.words (p - row.skipped) (bit_or (word_of row p) (word_of other p)) → UnitedBefore one other row p
    → UnitedBefore one other (record { start = row.start; skipped = row.skipped; words = words }) (p + 1)
united_next one other row words p low high are had = subst (λ ws. UnitedBefore one other (record { start = row.start; skipped = row.skipped; words = ws }) (p + 1)) (sym are) (record {
  start = had.start;
  first = had.first;
  each = length-set row.words (p - row.skipped) (bit_or (word_of row p) (word_of other p)) ∙ had.each;
  done = λ n l. elim (cases_eq n p) [
    | inl same ↦ subst (λ k. word_of (with_word row p (bit_or (word_of row p) (word_of other p)) low high) k ≡ bit_or (word_of one k) (word_of other k)) (sym same)
        (word_there row p (bit_or (word_of row p) (word_of other p)) low high ∙ ap (λ w. bit_or w (word_of other p)) (had.rest p (omega arith)))
    | inr apart ↦ word_elsewhere row p (bit_or (word_of row p) (word_of other p)) low high n apart ∙ had.done n (omega (arith, l, apart))
  ];
  rest = λ n l. word_elsewhere row p (bit_or (word_of row p) (word_of other p)) low high n (λ same. absurd (omega (arith, same, l))) ∙ had.rest n (omega (arith, l));
})

pub put_all : (one other row : Row) (p end : ℕ) → min end (other.skipped + length other.words) ≤ p → p ≤ max other.skipped end → UnitedBefore one other row p
    → (n : ℕ) → word_of row n ≡ (if nat_lt n end then bit_or (word_of one n) (word_of other n) else word_of one n)
put_all one other row p end past most had n = elim (cases_lt n p) [
  | inl l ↦ had.done n l ∙ elim (cases_lt n end) [
    | inl k ↦ sym (ap (λ b. if b then bit_or (word_of one n) (word_of other n) else word_of one n) (lt-ltb n end k))
    | inr k ↦ ap (bit_or (word_of one n)) (no_word_before other n (omega (arith, l, k, most))) ∙ or_comm (word_of one n) 0 ∙ sym (ap (λ b. if b then bit_or (word_of one n) (word_of other n) else word_of one n) (le-ltb n end k))
  ]
  | inr l ↦ had.rest n l ∙ elim (cases_lt n end) [
    | inl k ↦ sym (ap (bit_or (word_of one n)) (no_word_behind other n (omega (arith, l, k, past))) ∙ or_comm (word_of one n) 0) ∙ sym (ap (λ b. if b then bit_or (word_of one n) (word_of other n) else word_of one n) (lt-ltb n end k))
    | inr k ↦ sym (ap (λ b. if b then bit_or (word_of one n) (word_of other n) else word_of one n) (le-ltb n end k))
  ]
]

-- a row that was lengthened by another, and then had its words put in, has the marks of both
pub both_marks : (one other longer row : Row) → one.start ≡ 0 → other.start ≡ 0 → row.start ≡ 0 → IsLengthened one other longer → ArePut (one.skipped + length one.words) longer other row
    → (d : ℕ) → is_marked row d ≡ (is_marked one d || is_marked other d)
both_marks one other longer row start also begins long put d =
    marked row begins d
    ∙ ap (λ w. is_bit w (d % 64)) (put.words (d / 64) ∙ by (d / 64))
    ∙ bit_of_union (word_of one (d / 64)) (word_of other (d / 64)) (d % 64)
    ∙ sym (ap2 (λ a b. a || b) (marked one start d) (marked other also d))
  where
    end : ℕ
    end = one.skipped + length one.words

    by : (n : ℕ) → (if nat_lt n end then bit_or (word_of longer n) (word_of other n) else word_of longer n) ≡ bit_or (word_of one n) (word_of other n)
    by n = ap (λ w. if nat_lt n end then bit_or w (word_of other n) else w) (long.words n) ∙ elim (cases_lt n end) [
      | inl k ↦ ap (λ b. if b then bit_or (if b then word_of one n else word_of other n) (word_of other n) else (if b then word_of one n else word_of other n)) (lt-ltb n end k)
      | inr k ↦ ap (λ b. if b then bit_or (if b then word_of one n else word_of other n) (word_of other n) else (if b then word_of one n else word_of other n)) (le-ltb n end k)
          ∙ sym (ap (λ w. bit_or w (word_of other n)) (no_word_behind one n k))
    ]

pub rest : (one other : Row) (words : List ℕ) → one.start ≡ 0 → other.start ≡ 0 → length one.words ≤ length words
    → ((i : ℕ) → i < length words → (k : ℕ) → k < 64 → is_bit (get_or words i 0) k ≡ (is_bit (word_of one (one.skipped + i)) k && not (is_bit (word_of other (one.skipped + i)) k)))
    → (d : ℕ) → is_marked (row_from one.skipped words) d ≡ (is_marked one d && not (is_marked other d))
rest one other words start also end at =
    marks_are one.skipped words (λ d. is_marked one d && not (is_marked other d))
    (λ i l d e. at i l (d % 64) (omega arith) ∙ ap (λ n. is_bit (word_of one n) (d % 64) && not (is_bit (word_of other n) (d % 64))) (sym e)
    ∙ sym (ap2 (λ a b. a && not b) (marked one start d) (marked other also d)))
    (λ d l. ap (λ b. b && not (is_marked other d)) (no_mark_before one start d l))
    (λ d l. ap (λ b. b && not (is_marked other d)) (no_mark_behind one start d (omega (arith, l, end))))

-- a word with a bit that both rows have
pub shared : (one other : Row) (n v w : ℕ) → one.start ≡ 0 → other.start ≡ 0 → v ≡ word_of one n → w ≡ word_of other n → bit_and v w ≢ 0 → bit_and v w < 2 ^ 64 → Overlap one other
shared one other n v w start also first second some fits =
    let k : ℕ = trailing_zeros w64 (bit_and v w) in
    let low = bit_at-trailing_zeros w64 (bit_and v w) (omega (arith, some)) fits in
    let both = bit_at_and v w k in
    let bit : bit_at (bit_and v w) k ≡ 1 = low.1 in
    record {
      number = n * 64 + k;
      first = marked_at one start n k low.0 ∙ ap (λ x. is_bit x k) (sym first) ∙ eq-eqb (bit_at v k) 1 (omega (arith, both, bit, bit_at-lt v k));
      second = marked_at other also n k low.0 ∙ ap (λ x. is_bit x k) (sym second) ∙ eq-eqb (bit_at w k) 1 (omega (arith, both, bit, bit_at-lt w k));
    }

pub apart : (one other : Row) (end : ℕ) → one.start ≡ 0 → other.start ≡ 0 → min (one.skipped + length one.words) (other.skipped + length other.words) ≤ end
    → ((n : ℕ) → one.skipped ≤ n → other.skipped ≤ n → n < end → bit_and (word_of one n) (word_of other n) ≡ 0)
    → Overlap one other → ⊥
apart one other end start also reach none o =
    let n : ℕ = o.number / 64 in
    let k : ℕ = o.number % 64 in
    let first = inside one start o.number o.first in
    let second = inside other also o.number o.second in
    let both = bit_at_and (word_of one n) (word_of other n) k in
    let no : bit_at (bit_and (word_of one n) (word_of other n)) k ≡ 0 = ap (λ w. bit_at w k) (none n first.0 second.0 (omega (arith, first.1, second.1, reach))) ∙ bit_at-zero k in
    let a : bit_at (word_of one n) k ≡ 1 = eqb-true (bit_at (word_of one n) k) 1 (sym (marked one start o.number) ∙ o.first) in
    let b : bit_at (word_of other n) k ≡ 1 = eqb-true (bit_at (word_of other n) k) 1 (sym (marked other also o.number) ∙ o.second) in
    omega (arith, both, no, a, b)

follows : (a b : Bool) → (a && not b) ≡ false → a ≡ true → b ≡ true
follows true true h t = refl
follows true false h t = absurd (cc)
follows false b h t = absurd (cc)

pub subset : (one other : Row) (end : ℕ) → one.start ≡ 0 → other.start ≡ 0 → one.skipped + length one.words ≤ end
    → ((n : ℕ) → one.skipped ≤ n → n < end → (k : ℕ) → k < 64 → (is_bit (word_of one n) k && not (is_bit (word_of other n) k)) ≡ false)
    → IsSubset one other
subset one other end start also reach none d h =
    let there = inside one start d h in
    marked other also d
    ∙ follows (is_bit (word_of one (d / 64)) (d % 64)) (is_bit (word_of other (d / 64)) (d % 64))
    (none (d / 64) there.0 (omega (arith, there.1, reach)) (d % 64) (omega arith)) (sym (marked one start d) ∙ h)

pub no_subset : (one other : Row) (n w : ℕ) → one.start ≡ 0 → other.start ≡ 0 → w ≢ 0 → w < 2 ^ 64
    → ((k : ℕ) → k < 64 → is_bit w k ≡ (is_bit (word_of one n) k && not (is_bit (word_of other n) k)))
    → IsSubset one other → ⊥
no_subset one other n w start also some fits bits all =
    let k : ℕ = trailing_zeros w64 w in
    let low = bit_at-trailing_zeros w64 w (omega (arith, some)) fits in
    let both = and_parts (is_bit (word_of one n) k) (not (is_bit (word_of other n) k)) (sym (bits k low.0) ∙ eq-eqb (bit_at w k) 1 low.1) in
    clash (sym (marked_at other also n k low.0) ∙ all (n * 64 + k) (marked_at one start n k low.0 ∙ both.0)) (not-true (is_bit (word_of other n) k) both.1)
