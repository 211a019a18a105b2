use Rattle.std.proofs.Common.{◌≡◌, drop}
use Rattle.qvt_types_steps.specs.UnitCalls.{arguments_conform}
use Rattle.qvt_types_steps.proofs.units.arguments_conform.Given as goal

abbrev pub invariant-loop-i : goal.invariant-loop-i
invariant-loop-i l = arguments_conform l.metas l.parameters l.arguments ≡ arguments_conform l.metas (drop l.i l.parameters) (drop l.i l.arguments)
