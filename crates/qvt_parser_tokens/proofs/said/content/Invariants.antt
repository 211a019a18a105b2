use Rattle.std.proofs.Common.{◌≡◌, ◌++◌, length}
use denote.Text.{Utf8}
use denote.Shadow.{shadow}
use Rattle.std.specs.Str.{chars, encode_utf8_all}
use Rattle.qvt_parser_tokens.specs.Said as said
use Rattle.qvt_parser_tokens.proofs.said.content.Given as goal

abbrev pub invariant-loop-c : goal.invariant-loop-c
invariant-loop-c l = shadow (Utf8 l.rest) × (encode_utf8_all (said.content l.quote (chars l.fn.text)) ≡ l.out ++ encode_utf8_all (said.content l.quote (chars l.rest)))

abbrev pub decreases-loop-c : goal.decreases-loop-c
decreases-loop-c l = length l.rest
