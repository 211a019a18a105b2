use Rattle.std.proofs.Common.{◌≡◌, take}
use Rattle.std.specs.Prelude.{All}
use Rattle.qvt_slots.specs.Types.{HasCodeType}
use Rattle.qvt_slots.proofs.values.copied.Given as goal

abbrev pub invariant-loop-value : goal.invariant-loop-value
invariant-loop-value l = record {
  same : l.copies ≡ take l.value-index l.values;
  plain : All HasCodeType l.copies;
}
