use Rattle.std.proofs.Common.{◌≡◌, drop}
use Rattle.qvt_model.specs.Reading.{slots_dangling}
use Rattle.qvt_model.proofs.dangling.slots_dangling.Given as goal

abbrev pub invariant-loop-slot : goal.invariant-loop-slot
invariant-loop-slot l = slots_dangling l.metas l.count l.id (drop l.slot-index l.slots) ≡ slots_dangling l.metas l.count l.id l.slots
