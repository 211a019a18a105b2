-- What was found of a relation.
use Rattle.std.specs.Prelude.{◌≡◌, ℕ, List, IsTrue}
use Rattle.qvt_cycle.specs.Counts.{counted_all, zeros}
use Rattle.qvt_cycle.specs.Search.{fall}
use Rattle.qvt_cycle.specs.declared.cycles.Cycles.{Cycles}

pub record AreCyclesOf (lists : List (List ℕ)) (c : Cycles) : Type 0 where
  pub falls : IsTrue (fall c.classes.items lists)
  pub uses : c.uses.items ≡ counted_all (zeros lists) c.classes.items
