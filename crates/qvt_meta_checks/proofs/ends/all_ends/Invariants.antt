use Rattle.std.proofs.Common.{◌≡◌, ℕ, ◌<◌, length, slice_index_or}
use Rattle.qvt_metamodel.specs.Added.{declared_at}
use Rattle.qvt_meta_checks.specs.Ends.{AreEndsOf, no_ends}
use Rattle.qvt_meta_checks.proofs.ends.all_ends.Given as goal

abbrev pub invariant-loop-class : goal.invariant-loop-class
invariant-loop-class l = record {
  each : length l.all ≡ l.class;
  at : (c : ℕ) → c < l.class → AreEndsOf (declared_at l.classes c).features (slice_index_or l.all c no_ends);
}
