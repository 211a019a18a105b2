use Rattle.std.proofs.Common.{◌≡◌, ℕ, ◌<◌, ◌&&◌, not, length, slice_index_or}
use Rattle.std.specs.Prelude.{nat_lt}
use Rattle.qvt_metamodel.specs.Kept.{is_bit}
use Rattle.qvt_counts.specs.Counts.{counted, no_counter}
use Rattle.qvt_counts.proofs.counts.counted_without.Given as goal

abbrev pub invariant-loop-place : goal.invariant-loop-place
invariant-loop-place l = record {
  each : length l.rest ≡ l.place;
  words : (i : ℕ) → i < length l.rest → (k : ℕ) → k < 64 → is_bit (slice_index_or l.rest i 0) k ≡ (nat_lt 0 (counted (slice_index_or l.counts i no_counter) k) && not (is_bit (slice_index_or l.words i 0) k));
}
