use Rattle.std.proofs.Common.{◌≡◌, ℕ, length, slice_index_or}
use Rattle.qvt_meta_tables.proofs.number_set.MarkedNumbers.reach.Given as goal

abbrev pub invariant-loop-at : goal.invariant-loop-at
invariant-loop-at l = record {
  reached : length l.self-inside.marks ≡ l.at;
  same : (n : ℕ) → slice_index_or l.self-inside.marks n 0 ≡ slice_index_or l.initial.self-inside.marks n 0;
  turn : l.self-inside.turn ≡ l.initial.self-inside.turn;
}
