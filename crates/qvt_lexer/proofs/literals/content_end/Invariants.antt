use Rattle.std.proofs.Common.{◌≡◌, length}
use denote.Text.{Utf8}
use denote.Shadow.{shadow}
use Rattle.std.specs.Str.{chars}
use Rattle.qvt_lexer.specs.Scan.{content_end}
use Rattle.qvt_lexer.specs.Ends.{IsEndOf}
use Rattle.qvt_lexer.proofs.literals.content_end.Given as goal

abbrev pub invariant-loop-more : goal.invariant-loop-more
invariant-loop-more l = shadow (Utf8 l.rest) × (content_end l.quote (chars l.rest) ≡ content_end l.quote (chars l.fn.text)) × IsEndOf l.fn.text l.rest

abbrev pub decreases-loop-more : goal.decreases-loop-more
decreases-loop-more l = length l.rest
