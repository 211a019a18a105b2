use Rattle.std.proofs.Common.{◌≡◌, ℕ, ◌<◌, ◌≤◌, bit_and}
use Rattle.qvt_metamodel.specs.Kept.{word_of}
use Rattle.qvt_rows.proofs.sets.overlap.Given as goal

abbrev pub invariant-loop-place : goal.invariant-loop-place
invariant-loop-place l = (n : ℕ) → l.one.skipped ≤ n → l.other.skipped ≤ n → n < l.place → bit_and (word_of l.one n) (word_of l.other n) ≡ 0
