use Rattle.std.proofs.Common.{◌≡◌, length}
use denote.Text.{Utf8}
use denote.Shadow.{shadow}
use Rattle.std.specs.Str.{chars}
use Rattle.qvt_lexer.specs.Classes.{in_class}
use Rattle.qvt_lexer.specs.Ends.{IsEndOf}
use Rattle.qvt_lexer.specs.Literals.{skip}
use Rattle.qvt_lexer.proofs.chars.skip.Given as goal

abbrev pub invariant-loop-c : goal.invariant-loop-c
invariant-loop-c l = shadow (Utf8 l.rest) × (skip (in_class l.class) (chars l.rest) ≡ skip (in_class l.class) (chars l.fn.text)) × IsEndOf l.fn.text l.rest

abbrev pub decreases-loop-c : goal.decreases-loop-c
decreases-loop-c l = length l.rest
