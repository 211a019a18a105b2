-- Counts by their digits.
use Rattle.std.proofs.Common.{◌≡◌, ◌≢◌, ◌∙◌, ℕ, zero, suc, ◌+◌, ◌-◌, ◌*◌, ◌/◌, ◌%◌, ◌^◌, ◌<◌, List, [], ◌∷◌, Bool, true, false, refl, ap, sym, arith, ◌==◌, ◌||◌, ◌&&◌, not, inl, inr, min, w64}
use Rattle.std.specs.Prelude.{if◌then◌else◌, bit_and, bit_or, bit_xor, nat_lt}
use Rattle.std.specs.Int.{bit_at, bit_not}
use Rattle.std.proofs.lemmas.Bool.{eqb-true, eq-eqb, lt-ltb, cases_eq}
use Rattle.std.proofs.lemmas.Nat.Bits.{bit_at-lt, bit_at_and, bit_at_xor, bit_at_not}
use Rattle.qvt_metamodel.specs.Kept.{is_bit}
use Rattle.qvt_rows.proofs.SetWords.{bit_of_union}
use Rattle.qvt_counts.specs.Counts.{one, value, is_digit}

pub one_few : (b : Bool) → one b < 2
unfolding one
one_few true = omega arith
one_few false = omega arith

pub one_none : one false ≡ 0
unfolding one
one_none = refl

sum_of : (x y : ℕ) → x < 2 → y < 2 → one ((x + y) % 2 == 1) + 2 * one (min x y == 1) ≡ one (x == 1) + one (y == 1)
unfolding one
sum_of zero zero l k = refl
sum_of zero (suc zero) l k = refl
sum_of (suc zero) zero l k = refl
sum_of (suc zero) (suc zero) l k = refl
sum_of zero (suc (suc y)) l k = absurd (omega (arith, k))
sum_of (suc zero) (suc (suc y)) l k = absurd (omega (arith, k))
sum_of (suc (suc x)) y l k = absurd (omega (arith, l))

-- a digit of a sum and what it carries
pub sum_is : (v w k : ℕ) → one (is_bit (bit_xor v w) k) + 2 * one (is_bit (bit_and v w) k) ≡ one (is_bit v k) + one (is_bit w k)
sum_is v w k =
    (λ i. one (bit_at_xor v w k i == 1) + 2 * one (bit_at_and v w k i == 1))
    ∙ sum_of (bit_at v k) (bit_at w k) (bit_at-lt v k) (bit_at-lt w k)

not_of : (x : ℕ) → x < 2 → (1 - x == 1) ≡ not (x == 1)
not_of zero l = refl
not_of (suc zero) l = refl
not_of (suc (suc x)) l = absurd (omega (arith, l))

pub bit_of_none : (v k : ℕ) → v < 2 ^ 64 → k < 64 → is_bit (bit_not w64 v) k ≡ not (is_bit v k)
bit_of_none v k fits l = ap (λ x. x == 1) (bit_at_not w64 v k fits l) ∙ not_of (bit_at v k) (bit_at-lt v k)

least_of : (x y : ℕ) → x < 2 → y < 2 → (min x y == 1) ≡ ((x == 1) && (y == 1))
least_of zero y l k = ap (λ n. n == 1) (let none : min 0 y ≡ 0 = omega arith in none)
least_of (suc zero) zero l k = refl
least_of (suc zero) (suc zero) l k = refl
least_of (suc zero) (suc (suc y)) l k = absurd (omega (arith, k))
least_of (suc (suc x)) y l k = absurd (omega (arith, l))

pub bit_of_both : (v w k : ℕ) → is_bit (bit_and v w) k ≡ (is_bit v k && is_bit w k)
bit_of_both v w k = ap (λ x. x == 1) (bit_at_and v w k) ∙ least_of (bit_at v k) (bit_at w k) (bit_at-lt v k) (bit_at-lt w k)

and_more : (a b c : Bool) → ((a && b) && c) ≡ (a && (b && c))
and_more true b c = refl
and_more false b c = refl

or_more : (a b c : Bool) → ((a || b) || c) ≡ (a || (b || c))
or_more true b c = refl
or_more false b c = refl

and_true : (a : Bool) → a ≡ (a && true)
and_true true = refl
and_true false = refl

or_false : (a : Bool) → a ≡ (a || false)
or_false true = refl
or_false false = refl

-- seven words at a bit
module _ (a b c d e f g k : ℕ) where
  next_and : (v w : ℕ) (r : Bool) → (is_bit (bit_and v w) k && r) ≡ (is_bit v k && (is_bit w k && r))
  next_and v w r = ap (λ s. s && r) (bit_of_both v w k) ∙ and_more (is_bit v k) (is_bit w k) r

  next_or : (v w : ℕ) (r : Bool) → (is_bit (bit_or v w) k || r) ≡ (is_bit v k || (is_bit w k || r))
  next_or v w r = ap (λ s. s || r) (bit_of_union v w k) ∙ or_more (is_bit v k) (is_bit w k) r

  pub seven_and : is_bit (bit_and (bit_and (bit_and (bit_and (bit_and (bit_and a b) c) d) e) f) g) k
      ≡ (is_bit a k && (is_bit b k && (is_bit c k && (is_bit d k && (is_bit e k && (is_bit f k && (is_bit g k && true)))))))
  seven_and =
      and_true (is_bit (bit_and (bit_and (bit_and (bit_and (bit_and (bit_and a b) c) d) e) f) g) k)
      ∙ next_and (bit_and (bit_and (bit_and (bit_and (bit_and a b) c) d) e) f) g true
      ∙ next_and (bit_and (bit_and (bit_and (bit_and a b) c) d) e) f (is_bit g k && true)
      ∙ next_and (bit_and (bit_and (bit_and a b) c) d) e (is_bit f k && (is_bit g k && true))
      ∙ next_and (bit_and (bit_and a b) c) d (is_bit e k && (is_bit f k && (is_bit g k && true)))
      ∙ next_and (bit_and a b) c (is_bit d k && (is_bit e k && (is_bit f k && (is_bit g k && true))))
      ∙ next_and a b (is_bit c k && (is_bit d k && (is_bit e k && (is_bit f k && (is_bit g k && true)))))

  pub seven_or : is_bit (bit_or (bit_or (bit_or (bit_or (bit_or (bit_or a b) c) d) e) f) g) k
      ≡ (is_bit a k || (is_bit b k || (is_bit c k || (is_bit d k || (is_bit e k || (is_bit f k || (is_bit g k || false)))))))
  seven_or =
      or_false (is_bit (bit_or (bit_or (bit_or (bit_or (bit_or (bit_or a b) c) d) e) f) g) k)
      ∙ next_or (bit_or (bit_or (bit_or (bit_or (bit_or a b) c) d) e) f) g false
      ∙ next_or (bit_or (bit_or (bit_or (bit_or a b) c) d) e) f (is_bit g k || false)
      ∙ next_or (bit_or (bit_or (bit_or a b) c) d) e (is_bit f k || (is_bit g k || false))
      ∙ next_or (bit_or (bit_or a b) c) d (is_bit e k || (is_bit f k || (is_bit g k || false)))
      ∙ next_or (bit_or a b) c (is_bit d k || (is_bit e k || (is_bit f k || (is_bit g k || false))))
      ∙ next_or a b (is_bit c k || (is_bit d k || (is_bit e k || (is_bit f k || (is_bit g k || false)))))

-- whether these are the digits of a number
abbrev agree : List Bool → ℕ → Bool
agree [] n = true
agree (b ∷ bs) n = is_digit b n && agree bs (n / 2)

no_eq : (x : Bool) → (x ≡ true → ⊥) → x ≡ false
no_eq true h = absurd (h refl)
no_eq false h = refl

never : (x y : ℕ) → x ≢ y → (x == y) ≡ false
never x y h = no_eq (x == y) (λ e. h (eqb-true x y e))

pub not_odd : (n : ℕ) → n % 2 ≢ 1 → (n % 2 == 1) ≡ false
not_odd n h = never (n % 2) 1 h

pub both_ways : (a b c d : ℕ) → (a ≡ b → c ≡ d) → (c ≡ d → a ≡ b) → (a == b) ≡ (c == d)
both_ways a b c d there back = elim (cases_eq a b) [
  | inl same ↦ eq-eqb a b same ∙ sym (eq-eqb c d (there same))
  | inr other ↦ elim (cases_eq c d) [
    | inl same ↦ absurd (other (back same))
    | inr apart ↦ never a b other ∙ sym (never c d apart)
  ]
]

last : (b : Bool) (v n : ℕ) → (is_digit b n && (v == n / 2)) ≡ (one b + 2 * v == n)
unfolding one
last true v n = elim (cases_eq (n % 2) 1) [
  | inl odd ↦ ap (λ s. (if s then true else false) && (v == n / 2)) (eq-eqb (n % 2) 1 odd) ∙ both_ways v (n / 2) (1 + 2 * v) n (λ e. omega (arith, e, odd)) (λ e. omega (arith, e, odd))
  | inr even ↦ ap (λ s. (if s then true else false) && (v == n / 2)) (not_odd n even) ∙ sym (never (1 + 2 * v) n (λ e. even (omega (arith, e))))
]
last false v n = elim (cases_eq (n % 2) 1) [
  | inl odd ↦ ap (λ s. (if s then false else true) && (v == n / 2)) (eq-eqb (n % 2) 1 odd) ∙ sym (never (0 + 2 * v) n (λ e. absurd (omega (arith, e, odd))))
  | inr even ↦ ap (λ s. (if s then false else true) && (v == n / 2)) (not_odd n even) ∙ both_ways v (n / 2) (0 + 2 * v) n (λ e. omega (arith, e, even)) (λ e. omega (arith, e, even))
]

-- how many numbers have so many digits
abbrev room : List Bool → ℕ
room [] = 1
room (b ∷ bs) = 2 * room bs

pub agree_is : (bs : List Bool) (n : ℕ) → n < room bs → agree bs n ≡ (value bs == n)
agree_is [] n l = sym (eq-eqb 0 n (omega (arith, l)))
agree_is (b ∷ bs) n l =
    ap (λ s. is_digit b n && s) (agree_is bs (n / 2) (omega (arith, l)))
    ∙ last b (value bs) n

abbrev some : List Bool → Bool
some [] = false
some (b ∷ bs) = b || some bs

more_some : (b : Bool) (v : ℕ) → (b || nat_lt 0 v) ≡ nat_lt 0 (one b + 2 * v)
unfolding one
more_some true v = sym (lt-ltb 0 (1 + 2 * v) (omega arith))
more_some false zero = refl
more_some false (suc v) = lt-ltb 0 (suc v) (omega arith) ∙ sym (lt-ltb 0 (0 + 2 * suc v) (omega arith))

pub some_is : (bs : List Bool) → some bs ≡ nat_lt 0 (value bs)
some_is [] = refl
some_is (b ∷ bs) = ap (λ s. b || s) (some_is bs) ∙ more_some b (value bs)
