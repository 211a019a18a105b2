use Rattle.std.proofs.Common.{◌≡◌, ◌++◌, drop, map}
use Rattle.qvt_meta_tables.specs.declared.visit.Visit.TheVariants.{Enter}
use Rattle.qvt_meta_tables.proofs.order.enter_all.Given as goal

abbrev pub invariant-loop-class : goal.invariant-loop-class
invariant-loop-class l = l.visits ++ map (λ c. Enter c.0) (drop l.class-index l.classes) ≡ l.initial.visits ++ map (λ c. Enter c.0) l.classes
