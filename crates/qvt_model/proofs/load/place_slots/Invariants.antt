use Rattle.std.proofs.Common.{drop}
use Rattle.qvt_model.specs.Steps.{ArePutting}
use Rattle.qvt_model.proofs.load.place_slots.Given as goal

abbrev pub invariant-loop-slot : goal.invariant-loop-slot
invariant-loop-slot l = ArePutting l.fn.store l.store l.first l.object.0 l.slots (drop l.slot-index l.slots)
