use Rattle.std.proofs.Common.{ℕ, ◌+◌, length}
use Rattle.std.specs.Prelude.{IsTrue}
use Rattle.qvt_meta_tables.specs.Search.{IsSearch, flag, work}
use Rattle.qvt_meta_tables.proofs.order.go_on.Given as goal

abbrev pub invariant-loop-visit : goal.invariant-loop-visit
invariant-loop-visit l = record {
  search : IsSearch l.classes l.search.met l.search.placed l.search.visits;
  stay : (c : ℕ) → IsTrue (flag l.initial.search.met c) → IsTrue (flag l.search.met c);
}

abbrev pub decreases-loop-visit : goal.decreases-loop-visit
decreases-loop-visit l = work l.search.met l.classes + length l.search.visits
