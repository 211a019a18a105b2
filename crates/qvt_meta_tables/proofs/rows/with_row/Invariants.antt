use Rattle.std.proofs.Common.{◌≡◌, ℕ, ◌+◌, ◌<◌, length, slice_index_or}
use Rattle.qvt_meta_tables.specs.Tables.{joined_word}
use Rattle.qvt_meta_tables.proofs.rows.with_row.Given as goal

abbrev pub invariant-loop-number : goal.invariant-loop-number
invariant-loop-number l = record {
  each : l.first + length l.words ≡ l.number;
  words : (i : ℕ) → i < length l.words → slice_index_or l.words i 0 ≡ joined_word l.row l.class l.other (l.first + i);
}
