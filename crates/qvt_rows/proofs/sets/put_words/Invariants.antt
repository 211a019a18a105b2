use Rattle.std.proofs.Common.{◌≤◌, max}
use Rattle.qvt_rows.proofs.SetWords.{UnitedBefore}
use Rattle.qvt_rows.proofs.sets.put_words.Given as goal

abbrev pub invariant-loop-place : goal.invariant-loop-place
invariant-loop-place l = record {
  united : UnitedBefore l.fn.row l.other l.row l.place;
  most : l.place ≤ max l.other.skipped l.end;
}
