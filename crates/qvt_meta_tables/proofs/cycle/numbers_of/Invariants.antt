use Rattle.std.proofs.Common.{◌≡◌, ◌++◌, drop, map}
use Rattle.qvt_meta_tables.proofs.cycle.numbers_of.Given as goal

abbrev pub invariant-loop-class : goal.invariant-loop-class
invariant-loop-class l = l.numbers ++ map (λ c. c.0) (drop l.class-index l.classes) ≡ map (λ c. c.0) l.classes
