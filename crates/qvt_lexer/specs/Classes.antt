-- The classes of characters that the code skips.
use Rattle.std.specs.Prelude.{ℕ, Bool}
use Rattle.qvt_lexer.specs.Characters.{is_continue, is_digit, is_in_line}
use Rattle.qvt_lexer.specs.declared.chars.CharacterClass as code
use Rattle.qvt_lexer.specs.declared.chars.CharacterClass.TheVariants.{Continue, Digit, Line}

abbrev pub in_class : code.CharacterClass → ℕ → Bool
in_class Continue = is_continue
in_class Digit = is_digit
in_class Line = is_in_line
