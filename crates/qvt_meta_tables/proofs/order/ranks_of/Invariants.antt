use Rattle.std.proofs.Common.{◌≡◌, ◌<◌, ◌+◌, ℕ, drop, length}
use Rattle.std.specs.Prelude.{IsTrue, slice_index}
use Rattle.qvt_meta_tables.specs.Search.{stands_in, place_of}
use Rattle.qvt_meta_tables.proofs.order.ranks_of.Given as goal

abbrev pub invariant-loop-place : goal.invariant-loop-place
invariant-loop-place l = record {
  each : length l.ranks ≡ l.count;
  places : (c : ℕ) → c < l.count → IsTrue (stands_in c (drop l.place l.order)) → slice_index l.ranks c ≡ l.place + place_of c (drop l.place l.order);
}
