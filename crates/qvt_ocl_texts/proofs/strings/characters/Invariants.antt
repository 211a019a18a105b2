-- What was made, and the characters of the rest, are the characters of the text.
use Rattle.std.proofs.Common.{◌≡◌, ◌++◌, map, length}
use denote.Text.{Utf8}
use denote.Shadow.{shadow}
use Rattle.std.specs.Prelude.{encode_utf8}
use Rattle.std.specs.Str.{chars}
use Rattle.qvt_value.specs.declared.value.Value.{Str}
use Rattle.qvt_ocl_texts.proofs.strings.characters.Given as goal

abbrev pub invariant-loop-c : goal.invariant-loop-c
invariant-loop-c l = shadow (Utf8 l.rest) × (l.items ++ map (λ c. Str (encode_utf8 c)) (chars l.rest) ≡ map (λ c. Str (encode_utf8 c)) (chars l.fn.whole))

abbrev pub decreases-loop-c : goal.decreases-loop-c
decreases-loop-c l = length l.rest
