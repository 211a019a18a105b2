use Rattle.std.proofs.Common.{◌≡◌, drop, None}
use Rattle.qvt_types_units.specs.Choice.{candidates}
use Rattle.qvt_types_choices.specs.Only.{least_from}
use Rattle.qvt_types_choices.proofs.only.least_above.Given as goal

abbrev pub invariant-loop-number : goal.invariant-loop-number
invariant-loop-number l = least_from l.metas l.units l.least (candidates l.metas l.units (drop l.number-index l.group) l.class.0) ≡ least_from l.metas l.units None (candidates l.metas l.units l.group l.class.0)
