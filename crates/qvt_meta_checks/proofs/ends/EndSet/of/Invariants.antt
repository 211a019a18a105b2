use Rattle.std.proofs.Common.{◌≡◌, ◌||◌, drop}
use Rattle.std.specs.List.{list_any}
use Rattle.qvt_meta_checks.specs.declared.ends.OppositeEnd.{OppositeEnd}
use Rattle.qvt_meta_checks.specs.Ends.{same_end, is_end_of}
use Rattle.qvt_meta_checks.proofs.ends.EndSet.of.Given as goal

abbrev pub invariant-loop-feature : goal.invariant-loop-feature
invariant-loop-feature l = (e : OppositeEnd) → (list_any (same_end e) l.ends || list_any (is_end_of l.only e) (drop l.feature-index l.features)) ≡ list_any (is_end_of l.only e) l.features
