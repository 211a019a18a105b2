use Rattle.qvt_slots.specs.Members.{AreEmpty}
use Rattle.qvt_store.proofs.store.empty_lists.Given as goal

abbrev pub invariant-loop-extent : goal.invariant-loop-extent
invariant-loop-extent l = AreEmpty l._extent-index l.lists
