-- The ids that a written model gives: they differ, are of the form of ids, and are texts.
use Rattle.std.proofs.Common.{◌≡◌, ℕ, zero, suc, ◌<◌, ◌≤◌, ◌^◌, ◌==◌, List, [], ◌∷◌, length, drop, Bool, true, false, not, nat_lt, decimal, refl, ap, arith, lt-ltb, ltb-true, le-leb, ne_eqb, IsUtf8}
use Rattle.std.specs.Char.{digit_value}
use Rattle.std.specs.List.{list_any, list_all}
use Rattle.std.specs.Str.{bytes_eq, IsAscii}
use Rattle.std.specs.Str.Parse.{AllDigits}
use Rattle.std.proofs.lemmas.Slice.Eq.{bytes_eq-Decides}
use Rattle.std.proofs.lemmas.Fmt.{decimal_injective, decimal_is_IsNumeral, IsAscii-decimal, length-decimal-le_wide}
use Rattle.std.proofs.lemmas.Str.{chars-IsAscii, IsUtf8-from_ascii}
use Rattle.qvt_base.specs.Names.{is_control, is_file}
use Rattle.qvt_json.specs.Leaves.{is_id}
use Rattle.qvt_model.specs.Extents.{own_id}

pub own_id-apart : (a n : ℕ) → n < a → a < 2 ^ 64 → bytes_eq (own_id n) (own_id a) ≡ false
unfolding own_id
own_id-apart a n lt fits = by (bytes_eq (own_id n) (own_id a)) refl
  where
    by : (b : Bool) → bytes_eq (own_id n) (own_id a) ≡ b → b ≡ false
    by false e = refl
    by true e = absurd (omega (arith, decimal_injective n a (omega arith) fits (ap (drop 1) ((bytes_eq-Decides (own_id n) (own_id a)).0 e))))

digit : (d : ℕ) → digit_value d < 10 → (48 ≤ d) × (d ≤ 57)
digit d h = (grind arith, grind arith)

not-below : (d : ℕ) → 32 ≤ d → nat_lt d 32 ≡ false
not-below d h = by (nat_lt d 32) refl
  where
    by : (b : Bool) → nat_lt d 32 ≡ b → b ≡ false
    by false e = refl
    by true e = let lt : d < 32 = ltb-true d 32 e in absurd (omega arith)

digits-plain : (ds : List ℕ) → AllDigits 10 ds → (list_all (λ c. not (is_control c)) ds ≡ true) × (list_any (λ x. x == 58) ds ≡ false)
digits-plain [] h = (refl, refl)
digits-plain (d ∷ ds) h =
    let r = digits-plain ds h.1 in
    let p = digit d h.0 in
    let high : 32 ≤ d = omega (arith, p.0) in
    (rw (not-below d high, ne_eqb d 127 (λ e. omega (arith, p.1, e)), r.0) refl, rw (ne_eqb d 58 (λ e. omega (arith, p.1, e)), r.1) refl)

ascii : (n : ℕ) → n < 2 ^ 64 → IsAscii (own_id n)
unfolding own_id
ascii n h zero = omega arith
ascii n h (suc i) = IsAscii-decimal n h i

pub is_id-own_id : (n : ℕ) → n < 2 ^ 64 → is_id (own_id n) ≡ true
unfolding own_id is_id is_file
is_id-own_id n h =
    let plain = digits-plain (decimal n) (decimal_is_IsNumeral n h).0.1 in
    let short : suc (length (decimal n)) ≤ 200 = omega (arith, length-decimal-le_wide 20 n (omega arith) (omega arith) (omega arith)) in
    rw (chars-IsAscii (own_id n) (ascii n h), lt-ltb 0 (suc (length (decimal n))) (omega arith), le-leb (suc (length (decimal n))) 200 short, plain.0, plain.1) refl

pub IsUtf8-own_id : (n : ℕ) → n < 2 ^ 64 → IsUtf8 (own_id n)
unfolding own_id
IsUtf8-own_id n h = IsUtf8-from_ascii (own_id n) (ascii n h)
