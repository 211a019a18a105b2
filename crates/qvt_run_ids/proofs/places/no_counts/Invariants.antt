use Rattle.std.proofs.Common.{◌≡◌, ◌++◌, map, drop}
use Rattle.qvt_run_ids.proofs.places.no_counts.Given as goal

abbrev pub invariant-loop-extent : goal.invariant-loop-extent
invariant-loop-extent l = l.counts ++ map (λ _. 0) (drop l._extent-index l.extents) ≡ map (λ _. 0) l.extents
