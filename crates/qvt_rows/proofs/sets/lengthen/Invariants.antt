use Rattle.std.proofs.Common.{◌≡◌, ℕ, ◌+◌, ◌≤◌, length, max}
use Rattle.qvt_metamodel.specs.Kept.{word_of}
use Rattle.qvt_rows.proofs.sets.lengthen.Given as goal

abbrev pub invariant-loop-place : goal.invariant-loop-place
invariant-loop-place l = record {
  start : l.row.start ≡ 0;
  first : l.row.skipped ≡ l.fn.row.skipped;
  end : l.row.skipped + length l.row.words ≡ l.place;
  bound : l.place ≤ l.bound;
  most : l.place ≤ max (l.fn.row.skipped + length l.fn.row.words) l.other.skipped;
  had : l.fn.row.skipped + length l.fn.row.words ≤ l.place;
  words : (n : ℕ) → word_of l.row n ≡ word_of l.fn.row n;
}
