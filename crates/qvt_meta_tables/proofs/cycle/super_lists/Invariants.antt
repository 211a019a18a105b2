use Rattle.std.proofs.Common.{◌≡◌, ◌++◌, drop, map}
use Rattle.qvt_meta_tables.specs.Cycles.{super_numbers}
use Rattle.qvt_meta_tables.proofs.cycle.super_lists.Given as goal

abbrev pub invariant-loop-class : goal.invariant-loop-class
invariant-loop-class l = l.lists ++ map super_numbers (drop l.class-index l.classes) ≡ map super_numbers l.classes
