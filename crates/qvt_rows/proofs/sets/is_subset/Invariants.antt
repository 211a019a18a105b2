use Rattle.std.proofs.Common.{◌≡◌, ℕ, ◌<◌, ◌≤◌, ◌&&◌, not, false}
use Rattle.qvt_metamodel.specs.Kept.{word_of, is_bit}
use Rattle.qvt_rows.proofs.sets.is_subset.Given as goal

abbrev pub invariant-loop-place : goal.invariant-loop-place
invariant-loop-place l = (n : ℕ) → l.one.skipped ≤ n → n < l.place → (k : ℕ) → k < 64 → (is_bit (word_of l.one n) k && not (is_bit (word_of l.other n) k)) ≡ false
