use Rattle.std.proofs.Common.{◌≡◌, ℕ, ◌+◌, ◌<◌, ◌&&◌, not, length, slice_index_or}
use Rattle.qvt_metamodel.specs.Kept.{word_of, is_bit}
use Rattle.qvt_rows.proofs.sets.without.Given as goal

abbrev pub invariant-loop-place : goal.invariant-loop-place
invariant-loop-place l = record {
  each : l.one.skipped + length l.words ≡ l.place;
  words : (i : ℕ) → i < length l.words → (k : ℕ) → k < 64 → is_bit (slice_index_or l.words i 0) k ≡ (is_bit (word_of l.one (l.one.skipped + i)) k && not (is_bit (word_of l.other (l.one.skipped + i)) k));
}
