use Rattle.std.proofs.Common.{rules}
use Rattle.qvt_json.proofs.Each.{front_next}
use Rattle.qvt_model.specs.WellFormed.{IsPlainSlot}
use Rattle.qvt_model.proofs.Lists.{All-push}
use Rattle.qvt_model.proofs.slots.slots_of.Goals as goal

pub loop-name-preserved-in-Continue-branch-2 : goal.loop-name-preserved-in-Continue-branch-2
loop-name-preserved-in-Continue-branch-2 c = record {
  slots = search (rules, front_next);
  plain = rw c.in_ok-push.ensures.ok (All-push IsPlainSlot c.loop-name.slots c.in_ok-slot.slot c.loop-name.invariant.plain c.in_ok-slot.ensures.plain);
}
