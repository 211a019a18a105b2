use Rattle.std.proofs.Common.{◌≡◌, drop}
use Rattle.qvt_slots.specs.Repeats.{repeats}
use Rattle.qvt_slots.proofs.values.few_repeat.Given as goal

abbrev pub invariant-loop-i : goal.invariant-loop-i
invariant-loop-i l = repeats l.values ≡ repeats (drop l.i l.values)
