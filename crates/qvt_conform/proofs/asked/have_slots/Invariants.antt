use Rattle.std.proofs.Common.{◌≤◌, length, take}
use Rattle.qvt_conform.specs.Asked.{HaveAsked}
use Rattle.qvt_conform.proofs.asked.have_slots.Given as goal

abbrev pub invariant-loop-slot : goal.invariant-loop-slot
invariant-loop-slot l = record {
  within : l.met ≤ length l.asked;
  have : HaveAsked (take l.met l.asked) l.slots;
}
