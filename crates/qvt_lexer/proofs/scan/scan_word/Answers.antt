use Rattle.std.proofs.Common.{sym, ◌∙◌}
use Rattle.std.specs.Str.{chars}
use Rattle.qvt_lexer.specs.Characters.{is_continue}
use Rattle.qvt_lexer.proofs.Ends.{end_of_end}
use Rattle.qvt_lexer.proofs.Cuts.{chars_of_more, word_gives}
use Rattle.qvt_lexer.proofs.scan.scan_word.Goals as goal

pub before-word-requires : goal.before-word-requires
before-word-requires c = end_of_end _ _ _ c.requires.end c.skip-rest.ensures.end

pub returns-then-is_reserved-clause-gives : goal.returns-then-is_reserved-clause-gives
returns-then-is_reserved-clause-gives c =
    word_gives c.args.c (chars c.args.more.now) c.before-word.result.now _ _
    (chars_of_more is_continue _ _ c.skip-rest.result.now c.before-word.ensures c.before-word.utf8 _ _ c.requires.first c.skip-rest.ensures.characters)
    c.before-word.utf8 (sym c.is_reserved.ensures ∙ c.if-is_reserved.true) c.skip-rest.ensures.characters

pub returns-else-is_reserved-clause-gives : goal.returns-else-is_reserved-clause-gives
returns-else-is_reserved-clause-gives c =
    word_gives c.args.c (chars c.args.more.now) c.before-word.result.now _ _
    (chars_of_more is_continue _ _ c.skip-rest.result.now c.before-word.ensures c.before-word.utf8 _ _ c.requires.first c.skip-rest.ensures.characters)
    c.before-word.utf8 (sym c.is_reserved.ensures ∙ c.if-is_reserved.false) c.skip-rest.ensures.characters
