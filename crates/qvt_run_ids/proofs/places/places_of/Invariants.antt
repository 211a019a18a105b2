use Rattle.std.proofs.Common.{◌≡◌, ◌++◌, drop}
use Rattle.qvt_run_ids.specs.Places.{no_counts, places_from}
use Rattle.qvt_run_ids.proofs.places.places_of.Given as goal

abbrev pub invariant-loop-number : goal.invariant-loop-number
invariant-loop-number l = l.places ++ places_from l.counts (drop l.number l.store.objects) ≡ places_from (no_counts l.store) l.store.objects
