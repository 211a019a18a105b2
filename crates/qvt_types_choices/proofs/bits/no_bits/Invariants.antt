use Rattle.std.proofs.Common.{◌≡◌, replicate}
use Rattle.qvt_types_choices.proofs.bits.no_bits.Given as goal

abbrev pub invariant-loop-place : goal.invariant-loop-place
invariant-loop-place l = l.words ≡ replicate l.place 0
