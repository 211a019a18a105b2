use Rattle.std.proofs.Common.{◌≡◌, take}
use Rattle.qvt_types_context.specs.Seen.{heads_seen}
use Rattle.qvt_typing.specs.Numbers.{no_unit}
use Rattle.qvt_typing.specs.Calls.{numbers_of}
use Rattle.qvt_types_context.proofs.calls.numbers_of.Given as goal

abbrev pub invariant-loop-unit : goal.invariant-loop-unit
invariant-loop-unit l = record {
  kept : l.numbers ≡ numbers_of (heads_seen l.heads) (take l.unit-index l.units);
  none : l.none ≡ no_unit;
}
