use Rattle.std.proofs.Common.{◌+◌, ◌*◌, sym, ap, ◌∙◌, arith}
use Rattle.std.specs.Str.{chars}
use Rattle.std.proofs.lemmas.Bool.Decides.{nat_tests}
use Rattle.qvt_lexer.specs.Literals.{number_after}
use Rattle.qvt_lexer.proofs.Numbers.{number_step, number_above, number_above_tenth, more_digits}
use Rattle.qvt_lexer.proofs.literals.is_within.Goals as goal

pub loop-c-preserved : goal.loop-c-preserved
loop-c-preserved c = (
  c.in-Some.ensures.text,
  grind (arith, nat_tests, c.if-value-gt-GREATEST.false),
  number_step c.in-Some.c c.digit_value.result c.loop-c.value (chars c.in-Some.more.now) c.digit_value.ensures.value
      ∙ sym (ap (number_after c.loop-c.value) c.in-Some.ensures.characters) ∙ c.loop-c.invariant.2,
  more_digits _ _ c.in-Some.c c.in-Some.ensures.characters c.loop-c.invariant.3,
)

pub returns-then-value-gt-TENTH : goal.returns-then-value-gt-TENTH
returns-then-value-gt-TENTH c =
    sym (number_above_tenth _ c.loop-c.value c.in-Some.c (chars c.in-Some.more.now)
    (sym (ap (number_after c.loop-c.value) c.in-Some.ensures.characters) ∙ c.loop-c.invariant.2) (grind (arith, nat_tests, c.if-value-gt-TENTH.true)))

pub returns-then-value-gt-GREATEST : goal.returns-then-value-gt-GREATEST
returns-then-value-gt-GREATEST c =
    sym (number_above _ (10 * c.loop-c.value + c.digit_value.result) (chars c.in-Some.more.now)
    (number_step c.in-Some.c c.digit_value.result c.loop-c.value (chars c.in-Some.more.now) c.digit_value.ensures.value
    ∙ sym (ap (number_after c.loop-c.value) c.in-Some.ensures.characters) ∙ c.loop-c.invariant.2)
    (grind (arith, nat_tests, c.if-value-gt-GREATEST.true)))
