-- What was found of the containment of a model.
use Rattle.std.specs.Prelude.{◌≡◌, ℕ, List, fold}
use Rattle.qvt_cycle.specs.Counts.{counted_all, zeros}
use Rattle.qvt_cycle.specs.Ready.{AreCyclesOf}
use Rattle.qvt_conform.specs.declared.containment.Containment.{Containment}

pub record IsContainment (lists : List (List ℕ)) (c : Containment) : Type 0 where
  pub contents : c.contents ≡ lists
  pub counts : c.counts.items ≡ fold counted_all (zeros lists) lists
  pub cycles : AreCyclesOf lists c.cycles
