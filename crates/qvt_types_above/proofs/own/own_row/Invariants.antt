use Rattle.std.proofs.Common.{◌≡◌, drop}
use Rattle.qvt_types_above.specs.Own.{own_row}
use Rattle.qvt_types_above.proofs.own.own_row.Given as goal

abbrev pub invariant-loop-number : goal.invariant-loop-number
invariant-loop-number l = own_row l.metas l.units l.row (drop l.number-index l.group) ≡ own_row l.metas l.units l.initial.row l.group
