-- The numbers that digits write.
use Rattle.std.proofs.Common.{◌≡◌, ℕ, ℤ, pos, ◌<◌, ◌≤◌, List, [], ◌∷◌, true, sym, ap, ◌∙◌, arith, rules, subst, Result, Ok, Err, w64}
use Rattle.std.specs.Str.{chars, encode_utf8_all, IsUtf8, IsAscii}
use Rattle.std.specs.Str.Parse.{ParsesSigned}
use Rattle.std.proofs.lemmas.Str.{encodes-IsAscii, chars-IsAscii, encodes-chars}
use Rattle.std.proofs.lemmas.Str.Ascii.{IsAscii-nil, IsAscii-cons}
use Rattle.std.proofs.lemmas.Str.Parse.{IsNumeralModel, numerals_by_fold, parse_signed_digits}
use Rattle.std.proofs.lemmas.Bool.Decides.{nat_tests}
use Rattle.qvt_lexer.specs.Characters.{is_digit}
use Rattle.qvt_lexer.specs.Literals.{every, number_after, number_of, greatest_number}
use Rattle.qvt_lexer.proofs.Runs.{and_left, and_right}
use Rattle.qvt_parser_tokens.specs.Whole.{IsNumeral}

abbrev Digits : List ℕ → Type 0
Digits cs = every is_digit cs ≡ true

digits_model : IsNumeralModel Digits number_of
digits_model = numerals_by_fold Digits (search rules) number_after (search rules)

digit_small : (c : ℕ) → is_digit c ≡ true → c < 128
digit_small c h = grind (arith, nat_tests)

digits_ascii : (cs : List ℕ) → Digits cs → IsAscii cs
digits_ascii [] h = IsAscii-nil
digits_ascii (c ∷ cs) h = IsAscii-cons c cs (digit_small c (and_left (is_digit c) (every is_digit cs) h)) (digits_ascii cs (and_right (is_digit c) (every is_digit cs) h))

-- the characters of digits are their bytes
pub digits_are : (text u : List ℕ) → text ≡ encode_utf8_all u → Digits u → chars text ≡ u
digits_are text u e h = let ascii = digits_ascii u h in ap chars (e ∙ encodes-IsAscii u ascii) ∙ chars-IsAscii u ascii

-- what parsing gives for them
abbrev pub Parsed : {E : Type 0} → List ℕ → Result ℤ E → Type 0
Parsed bs (Ok n) = n ≡ pos (number_of (chars bs))
Parsed bs (Err e) = number_of (chars bs) ≡ 0

of_bytes : {E : Type 0} (bs : List ℕ) (r : Result ℤ E) → chars bs ≡ bs → Digits bs → number_of bs ≤ greatest_number → ParsesSigned w64 10 bs r → Parsed bs r
of_bytes {E} bs (Ok n) same all small h = (parse_signed_digits digits_model {E = E} w64 bs (Ok n) h all).1 ∙ ap (λ z. pos (number_of z)) (sym same)
of_bytes {E} [] (Err e) same all small h = ap number_of same
of_bytes {E} (b ∷ bs) (Err e) same all small h = absurd (parse_signed_digits digits_model {E = E} w64 (b ∷ bs) (Err e) h all (omega arith, omega arith))

pub parsed : {E : Type 0} (bs : List ℕ) (r : Result ℤ E) → IsUtf8 bs → IsNumeral bs → ParsesSigned w64 10 bs r → Parsed bs r
parsed bs r w k h =
    let ascii = digits_ascii (chars bs) k.digits in
    let bytes : chars bs ≡ bs = sym (sym (encodes-chars bs w) ∙ encodes-IsAscii (chars bs) ascii) in
    of_bytes bs r bytes (subst Digits bytes k.digits) (subst (λ z. number_of z ≤ greatest_number) bytes k.small) h
