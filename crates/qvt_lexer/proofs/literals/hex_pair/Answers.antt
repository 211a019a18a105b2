use Rattle.std.proofs.Common.{◌+◌, ◌*◌, Some, ap, ◌∙◌, arith}
use Rattle.std.specs.Str.{chars}
use Rattle.qvt_lexer.proofs.Ends.{end_of_end}
use Rattle.qvt_lexer.proofs.literals.hex_pair.Goals as goal

pub returns-in_default-clause-value : goal.returns-in_default-clause-value
returns-in_default-clause-value c = c.in_default.ensures.value 1 0

pub returns-in_default-hex_digit-clause-value : goal.returns-in_default-hex_digit-clause-value
returns-in_default-hex_digit-clause-value c = c.in-Some.ensures.value 1 0 ∙ c.in_default-hex_digit.ensures.value 0 _

pub returns-clause-value : goal.returns-clause-value
returns-clause-value c =
    c.in-Some.ensures.value 1 0 ∙ c.in-Some-hex_digit.ensures.value 0 (16 * 0 + c.in-Some.a) ∙ ap (λ z. Some (z, chars c.in-Some-hex_digit.rest.now)) (omega arith)

pub returns-clause-end : goal.returns-clause-end
returns-clause-end c = end_of_end _ _ _ c.in-Some.ensures.end c.in-Some-hex_digit.ensures.end
