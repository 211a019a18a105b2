use Rattle.qvt_types_above.specs.Tells.{IsAboveTable}
use Rattle.qvt_types_above.proofs.table.tell_along.Given as goal

abbrev pub invariant-loop-class : goal.invariant-loop-class
invariant-loop-class l = IsAboveTable l.making.metas.now l.making.units.now l.making.group.now l.table
