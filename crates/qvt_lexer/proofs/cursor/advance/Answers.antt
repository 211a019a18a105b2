use Rattle.std.proofs.Common.{ap, ◌∙◌}
use Rattle.qvt_lexer.specs.Division.{place_after}
use Rattle.qvt_lexer.proofs.Cuts.{chars_before}
use Rattle.qvt_lexer.proofs.cursor.advance.Goals as goal

pub returns-clause-place : goal.returns-clause-place
returns-clause-place c u e =
    c.place_after.ensures.value ∙ ap (place_after c.args.at.place) (chars_before c.args.at.rest.now c.before-passed.result.now c.args.rest.now u c.before-passed.ensures c.before-passed.utf8 e)
