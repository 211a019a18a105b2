use Rattle.std.proofs.Common.{◌≡◌, ◌≤◌, true, length}
use denote.Text.{Utf8}
use denote.Shadow.{shadow}
use Rattle.std.specs.Str.{chars}
use Rattle.qvt_lexer.specs.Characters.{is_digit}
use Rattle.qvt_lexer.specs.Literals.{every, number_after, number_of, greatest_number}
use Rattle.qvt_lexer.proofs.literals.is_within.Given as goal

abbrev pub invariant-loop-c : goal.invariant-loop-c
invariant-loop-c l =
    shadow (Utf8 l.rest) × (l.value ≤ greatest_number) × (number_after l.value (chars l.rest) ≡ number_of (chars l.fn.digits))
    × (every is_digit (chars l.rest) ≡ true)

abbrev pub decreases-loop-c : goal.decreases-loop-c
decreases-loop-c l = length l.rest
