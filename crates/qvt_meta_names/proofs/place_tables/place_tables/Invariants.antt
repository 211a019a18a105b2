use Rattle.std.proofs.Common.{◌≡◌, ◌<◌, ℕ, [], length, slice_index_or}
use Rattle.qvt_meta_names.specs.Rooted.{AreReady, FindsPlaces}
use Rattle.qvt_meta_names.proofs.place_tables.place_tables.Given as goal

abbrev pub invariant-loop-line : goal.invariant-loop-line
invariant-loop-line l = record {
  each : length l.roots ≡ l.line;
  ready : AreReady l.numbers l.words l.levels;
  finds : (k : ℕ) → k < l.line → FindsPlaces l.numbers (slice_index_or l.lists.lines k []) l.words l.levels (slice_index_or l.roots k 0);
}
