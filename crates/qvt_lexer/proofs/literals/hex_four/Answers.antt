use Rattle.std.proofs.Common.{◌≡◌, ◌+◌, ◌*◌, Some, ap, ◌∙◌, arith}
use Rattle.std.specs.Str.{chars}
use Rattle.qvt_lexer.specs.Literals.{hex_at, no_surrogate}
use Rattle.qvt_lexer.proofs.Ends.{end_of_end}
use Rattle.qvt_lexer.proofs.Numbers.{whole_character, no_character}
use Rattle.qvt_lexer.proofs.literals.hex_four.Goals as goal

pub returns-in_default-clause-value : goal.returns-in_default-clause-value
returns-in_default-clause-value c = ap no_surrogate (c.in_default.ensures.value 3 0)

pub returns-in_default-hex_digit-clause-value : goal.returns-in_default-hex_digit-clause-value
returns-in_default-hex_digit-clause-value c = ap no_surrogate (c.in-Some.ensures.value 3 0 ∙ c.in_default-hex_digit.ensures.value 2 (16 * 0 + c.in-Some.a))

pub returns-in_default-hex_digit-2-clause-value : goal.returns-in_default-hex_digit-2-clause-value
returns-in_default-hex_digit-2-clause-value c =
    let a = 16 * 0 + c.in-Some.a in
    let b = 16 * a + c.in-Some-hex_digit.b in
    ap no_surrogate (c.in-Some.ensures.value 3 0 ∙ c.in-Some-hex_digit.ensures.value 2 a ∙ c.in_default-hex_digit-2.ensures.value 1 b)

pub returns-in_default-hex_digit-3-clause-value : goal.returns-in_default-hex_digit-3-clause-value
returns-in_default-hex_digit-3-clause-value c =
    let a = 16 * 0 + c.in-Some.a in
    let b = 16 * a + c.in-Some-hex_digit.b in
    let d = 16 * b + c.in-Some-hex_digit-2.c in
    ap no_surrogate
    (c.in-Some.ensures.value 3 0 ∙ c.in-Some-hex_digit.ensures.value 2 a ∙ c.in-Some-hex_digit-2.ensures.value 1 b ∙ c.in_default-hex_digit-3.ensures.value 0 d)

pub returns-in-Some-from_u32-clause-value : goal.returns-in-Some-from_u32-clause-value
returns-in-Some-from_u32-clause-value c =
    let a = 16 * 0 + c.in-Some.a in
    let b = 16 * a + c.in-Some-hex_digit.b in
    let d = 16 * b + c.in-Some-hex_digit-2.c in
    let code = 16 * (16 * (16 * c.in-Some.a + c.in-Some-hex_digit.b) + c.in-Some-hex_digit-2.c) + c.in-Some-hex_digit-3.d in
    let rest = chars c.in-Some-hex_digit-3.rest.now in
    let digits : hex_at 4 0 (chars c.args.text.now) ≡ Some (code, rest) =
    c.in-Some.ensures.value 3 0 ∙ c.in-Some-hex_digit.ensures.value 2 a ∙ c.in-Some-hex_digit-2.ensures.value 1 b ∙ c.in-Some-hex_digit-3.ensures.value 0 d
    ∙ ap (λ z. Some (z, rest)) (omega arith) in
    whole_character _ code _ rest digits c.in-Some-from_u32.ensures.cases c.in-Some-from_u32.ensures.value.1

pub returns-in-Some-from_u32-clause-end : goal.returns-in-Some-from_u32-clause-end
returns-in-Some-from_u32-clause-end c =
    end_of_end _ _ _ (end_of_end _ _ _ (end_of_end _ _ _ c.in-Some.ensures.end c.in-Some-hex_digit.ensures.end) c.in-Some-hex_digit-2.ensures.end) c.in-Some-hex_digit-3.ensures.end

pub returns-in-None-clause-value : goal.returns-in-None-clause-value
returns-in-None-clause-value c =
    let a = 16 * 0 + c.in-Some.a in
    let b = 16 * a + c.in-Some-hex_digit.b in
    let d = 16 * b + c.in-Some-hex_digit-2.c in
    let code = 16 * (16 * (16 * c.in-Some.a + c.in-Some-hex_digit.b) + c.in-Some-hex_digit-2.c) + c.in-Some-hex_digit-3.d in
    let rest = chars c.in-Some-hex_digit-3.rest.now in
    let digits : hex_at 4 0 (chars c.args.text.now) ≡ Some (code, rest) =
    c.in-Some.ensures.value 3 0 ∙ c.in-Some-hex_digit.ensures.value 2 a ∙ c.in-Some-hex_digit-2.ensures.value 1 b ∙ c.in-Some-hex_digit-3.ensures.value 0 d
    ∙ ap (λ z. Some (z, rest)) (omega arith) in
    no_character _ code rest digits c.in-None.ensures.cases
    (omega (arith, c.in-Some.ensures.small, c.in-Some-hex_digit.ensures.small, c.in-Some-hex_digit-2.ensures.small, c.in-Some-hex_digit-3.ensures.small))
