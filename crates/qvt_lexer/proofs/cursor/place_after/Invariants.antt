use Rattle.std.proofs.Common.{◌≡◌, ◌+◌, ◌≤◌, length}
use denote.Text.{Utf8}
use denote.Shadow.{shadow}
use Rattle.std.specs.Str.{chars}
use Rattle.qvt_lexer.specs.Division.{place_after}
use Rattle.qvt_lexer.proofs.cursor.place_after.Given as goal

abbrev pub invariant-loop-c : goal.invariant-loop-c
invariant-loop-c l =
    shadow (Utf8 l.rest) × (place_after l.place (chars l.rest) ≡ place_after l.fn.at (chars l.fn.text)) × (l.place.offset + length l.rest ≡ l.fn.at.offset + length l.fn.text)
    × (l.place.line ≤ l.place.offset + 1) × (l.place.column ≤ l.place.offset + 1)

abbrev pub decreases-loop-c : goal.decreases-loop-c
decreases-loop-c l = length l.rest
