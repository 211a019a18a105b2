use Rattle.std.proofs.Common.{◌≡◌, drop}
use Rattle.qvt_types_context.specs.Seen.{heads_seen}
use Rattle.qvt_typing.specs.Choice.{is_unsure}
use Rattle.qvt_typing.specs.Numbers.{no_unit}
use Rattle.qvt_types_context.proofs.calls.is_unsure.Given as goal

abbrev pub invariant-loop-unit : goal.invariant-loop-unit
invariant-loop-unit l = record {
  kept : is_unsure (heads_seen l.heads).units (drop l.unit-index l.units) ≡ is_unsure (heads_seen l.heads).units l.units;
  none : l.none ≡ no_unit;
}
