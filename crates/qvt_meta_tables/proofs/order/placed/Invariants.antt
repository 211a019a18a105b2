use Rattle.std.proofs.Common.{◌≡◌, ◌<◌, ℕ, []}
use Rattle.std.specs.Prelude.{IsTrue}
use Rattle.qvt_meta_tables.specs.Search.{IsSearch, flag}
use Rattle.qvt_meta_tables.proofs.order.placed.Given as goal

abbrev pub invariant-loop-class : goal.invariant-loop-class
invariant-loop-class l = record {
  search : IsSearch l.classes l.search.met l.search.placed l.search.visits;
  done : l.search.visits ≡ [];
  met : (c : ℕ) → c < l.class → IsTrue (flag l.search.met c);
}
