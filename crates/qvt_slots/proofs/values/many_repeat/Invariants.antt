use Rattle.std.proofs.Common.{◌≡◌, false, take}
use Rattle.qvt_slots.specs.Repeats.{repeats}
use Rattle.qvt_slots.proofs.Noting.{Noted}
use Rattle.qvt_slots.proofs.values.many_repeat.Given as goal

abbrev pub invariant-loop-value : goal.invariant-loop-value
invariant-loop-value l = record {
  seen : Noted l.seen (take l.value-index l.values);
  once : repeats (take l.value-index l.values) ≡ false;
}
