-- What is left to skip of the rest is what is to be skipped of the text, and it is missing as often.
use Rattle.std.proofs.Common.{◌≡◌, ◌+◌, drop, length}
use denote.Text.{Utf8}
use denote.Shadow.{shadow}
use Rattle.std.specs.Str.{chars}
use Rattle.qvt_ocl_texts.proofs.texts.after_chars.Given as goal

abbrev pub invariant-loop-left : goal.invariant-loop-left
invariant-loop-left l = shadow (Utf8 l.rest) × (drop l.left (chars l.rest) ≡ drop l.fn.n (chars l.fn.text)) × (length (chars l.rest) + l.fn.n ≡ length (chars l.fn.text) + l.left)

abbrev pub decreases-loop-left : goal.decreases-loop-left
decreases-loop-left l = l.left
