use Rattle.std.proofs.Common.{rules}
use Rattle.std.proofs.lemmas.Str.{chars_past_char}
use Rattle.qvt_lexer.proofs.chars.split_char.Goals as goal

pub returns-clause-characters : goal.returns-clause-characters
returns-clause-characters c = chars_past_char c.args.text.now c.as_str.result.now c.in_ok-c.c c.utf8.text (search rules)
