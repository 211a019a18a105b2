-- The Integer that a text writes.
use Rattle.std.proofs.Common.{◌≡◌, ◌≢◌, ℕ, zero, suc, ◌^◌, ◌<◌, ◌≤◌, Bool, true, false, ◌==◌, ◌&&◌, cond, ℤ, pos, neg_ℤ, List, [], ◌∷◌, length, drop, get_or, refl, sym, ap, ◌∙◌, subst, rules, arith}
use Rattle.std.specs.Prelude.{Result, Ok, Err, nat_lt}
use Rattle.std.specs.Int.{w64}
use Rattle.std.specs.Str.{all_ascii_digits}
use Rattle.std.specs.Str.Parse.{ParsesSigned}
use Rattle.std.proofs.lemmas.Bool.{lt-ltb, ltb-true, eqb-true, eqb-false}
use Rattle.std.proofs.lemmas.Str.Parse.{IsNumeralModel, numerals_by_fold, parse_signed_minus, parse_signed_plain}
use Rattle.qvt_base.specs.declared.numbers.Place.{Place}
use Rattle.qvt_value.specs.declared.value.Value.{Value, Int, Invalid}
use Rattle.qvt_value.specs.declared.value.Reason.TheVariants.{BadNumber}
use Rattle.qvt_ocl_words.specs.Integers.{fits_64}
use Rattle.qvt_ocl_words.specs.Strings.{number_after, is_number, if_whole, integer_in}

own : IsNumeralModel (λ ds. all_ascii_digits ds ≡ true) (number_after 0)
own = numerals_by_fold _ (search rules) number_after (search rules)

both : (a b : Bool) → a ≡ true → b ≡ true → (a && b) ≡ true
both true b e f = f
both false b e f = e

split : (a b : Bool) → (a && b) ≡ true → (a ≡ true) × (b ≡ true)
split true b e = (refl, e)
split false b e = cc

-- what is parsed: the number where these hold
abbrev pub read_as : {E : Type 0} → Place → Result ℤ E → Value
read_as at (Ok n) = Int n
read_as at (Err e) = Invalid BadNumber at

is_it : (at : Place) (b : Bool) (z n : ℤ) → b && fits_64 z ≡ true → n ≡ z → Int n ≡ if_whole at b z
is_it at b z n h e = ap Int e ∙ sym (ap (λ c. cond c (Int z) (Invalid BadNumber at)) h)

is_not : (at : Place) (b : Bool) (z : ℤ) → b && fits_64 z ≡ false → Invalid BadNumber at ≡ if_whole at b z
is_not at b z h = sym (ap (λ c. cond c (Int z) (Invalid BadNumber at)) h)

numeral : (bs : List ℕ) → all_ascii_digits bs ≡ true → 0 < length bs → is_number bs ≡ true
numeral bs d l = both (nat_lt 0 (length bs)) (all_ascii_digits bs) (lt-ltb 0 (length bs) l) d

down : (v : ℕ) → v ≤ 2 ^ 63 → fits_64 (neg_ℤ (pos v)) ≡ true
down zero h = refl
down (suc v) h = let l : v < 2 ^ 63 = omega arith in lt-ltb v (2 ^ 63) l

down_from : (v : ℕ) → fits_64 (neg_ℤ (pos v)) ≡ true → v ≤ 2 ^ 63
down_from zero h = omega arith
down_from (suc v) h = let l : v < 2 ^ 63 = ltb-true v (2 ^ 63) h in omega arith

not_so : (b : Bool) → (b ≡ true → ⊥) → b ≡ false
not_so true h = absurd (h refl)
not_so false h = refl

minus : {E : Type 0} (at : Place) (bs : List ℕ) (r : Result ℤ E) → ParsesSigned w64 10 bs r → get_or bs 0 0 ≡ 45 → read_as at r ≡ if_whole at (is_number (drop 1 bs)) (neg_ℤ (pos (number_after 0 (drop 1 bs))))
minus {E = E} at bs (Ok n) p e =
    let k = parse_signed_minus own {E = E} w64 bs (Ok n) p e in
    is_it at (is_number (drop 1 bs)) (neg_ℤ (pos (number_after 0 (drop 1 bs)))) n (both _ _ (numeral (drop 1 bs) k.0.0 k.0.1) (down _ k.0.2)) k.1
minus {E = E} at bs (Err x) p e =
    let k = parse_signed_minus own {E = E} w64 bs (Err x) p e in
    is_not at (is_number (drop 1 bs)) (neg_ℤ (pos (number_after 0 (drop 1 bs)))) (not_so _ (λ h.
    let parts = split (is_number (drop 1 bs)) _ h in
    let number = split (nat_lt 0 (length (drop 1 bs))) _ parts.0 in
    k (number.1, ltb-true 0 (length (drop 1 bs)) number.0, down_from _ parts.1)))

plain : {E : Type 0} (at : Place) (bs : List ℕ) (r : Result ℤ E) → ParsesSigned w64 10 bs r → get_or bs 0 0 ≢ 43 → get_or bs 0 0 ≢ 45 → read_as at r ≡ if_whole at (is_number bs) (pos (number_after 0 bs))
plain {E = E} at bs (Ok n) p f e =
    let k = parse_signed_plain own {E = E} w64 bs (Ok n) p f e in
    is_it at (is_number bs) (pos (number_after 0 bs)) n (both _ _ (numeral bs k.0.0 k.0.1) (lt-ltb _ (2 ^ 63) k.0.2)) k.1
plain {E = E} at bs (Err x) p f e =
    let k = parse_signed_plain own {E = E} w64 bs (Err x) p f e in
    is_not at (is_number bs) (pos (number_after 0 bs)) (not_so _ (λ h.
    let parts = split (is_number bs) _ h in
    let number = split (nat_lt 0 (length bs)) _ parts.0 in
    k (number.1, ltb-true 0 (length bs) number.0, ltb-true _ (2 ^ 63) parts.1)))

-- of a text that begins with no plus
pub parsed : {E : Type 0} (at : Place) (bs : List ℕ) (r : Result ℤ E) → ParsesSigned w64 10 bs r → (get_or bs 0 0 == 43) ≡ false → read_as at r ≡ integer_in at bs
parsed at bs r p f = go (get_or bs 0 0 == 45) refl
  where
    go : (b : Bool) → (get_or bs 0 0 == 45) ≡ b → read_as at r ≡ cond b (if_whole at (is_number (drop 1 bs)) (neg_ℤ (pos (number_after 0 (drop 1 bs))))) (if_whole at (is_number bs) (pos (number_after 0 bs)))
    go true e = minus at bs r p (eqb-true (get_or bs 0 0) 45 e)
    go false e = plain at bs r p (eqb-false (get_or bs 0 0) 43 f) (eqb-false (get_or bs 0 0) 45 e)

none_second : (a b : Bool) → b ≡ false → (a && b) ≡ false
none_second true b e = e
none_second false b e = refl

-- a plus is no digit
pub plus : (at : Place) (bs : List ℕ) → (get_or bs 0 0 == 43) ≡ true → Invalid BadNumber at ≡ integer_in at bs
plus at [] e = cc
plus at (c ∷ cs) e = subst (λ d. Invalid BadNumber at ≡ integer_in at (d ∷ cs)) (sym (eqb-true c 43 e)) (is_not at (is_number (43 ∷ cs)) (pos (number_after 0 (43 ∷ cs))) (λ i. none_second (nat_lt 0 (length (43 ∷ cs))) (all_ascii_digits (43 ∷ cs)) refl i && fits_64 (pos (number_after 0 (43 ∷ cs)))))
