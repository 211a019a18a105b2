use Rattle.std.proofs.Common.{◌≡◌, ◌-◌}
use Rattle.qvt_meta_tables.specs.Cycles.{cycle_from, first_cycle}
use Rattle.qvt_meta_tables.proofs.cycle.first_cycle.Given as goal

abbrev pub invariant-loop-class : goal.invariant-loop-class
invariant-loop-class l = cycle_from l.classes l.class (l.count - l.class) ≡ first_cycle l.classes
