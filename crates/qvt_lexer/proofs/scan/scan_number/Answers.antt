use Rattle.std.proofs.Common.{sym, ◌∙◌}
use Rattle.std.specs.Str.{chars}
use Rattle.qvt_lexer.specs.Characters.{is_digit}
use Rattle.qvt_lexer.proofs.Cuts.{chars_of_run, run_passes, number_gives}
use Rattle.qvt_lexer.proofs.scan.scan_number.Goals as goal

pub is_within-requires : goal.is_within-requires
is_within-requires c = run_passes is_digit _ _ c.skip-rest.result.now c.before-digits.ensures c.before-digits.utf8 c.skip-rest.ensures.characters

pub returns-then-is_within-clause-gives : goal.returns-then-is_within-clause-gives
returns-then-is_within-clause-gives c =
    number_gives (chars c.args.text.now) (chars c.before-digits.result.now) _ _
    (chars_of_run is_digit _ _ c.skip-rest.result.now c.before-digits.ensures c.before-digits.utf8 c.skip-rest.ensures.characters)
    (sym c.is_within.ensures ∙ c.if-is_within.true) c.skip-rest.ensures.characters

pub returns-else-is_within-clause-gives : goal.returns-else-is_within-clause-gives
returns-else-is_within-clause-gives c =
    number_gives (chars c.args.text.now) (chars c.before-digits.result.now) _ _
    (chars_of_run is_digit _ _ c.skip-rest.result.now c.before-digits.ensures c.before-digits.utf8 c.skip-rest.ensures.characters)
    (sym c.is_within.ensures ∙ c.if-is_within.false) c.skip-rest.ensures.characters
