use Rattle.std.proofs.Common.{◌≡◌, drop}
use Rattle.qvt_types_above.specs.Above.{from_all}
use Rattle.qvt_types_above.proofs.above.from_all.Given as goal

abbrev pub invariant-loop-class : goal.invariant-loop-class
invariant-loop-class l = from_all l.metas l.units l.row l.all (drop l.class-index l.classes) ≡ from_all l.metas l.units l.row l.fn.told l.classes
