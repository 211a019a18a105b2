use Rattle.std.proofs.Common.{◌≡◌, ◌++◌, take}
use Rattle.qvt_slots.specs.Contents.{slot_of}
use Rattle.qvt_slots.specs.Change.{objects_beyond}
use Rattle.qvt_store.proofs.store.Store.push_added_each.Given as goal

abbrev pub invariant-loop-value : goal.invariant-loop-value
invariant-loop-value l = l.list ≡ l.fn.list ++ objects_beyond (slot_of l.self l.object.0 l.feature.0) (take l.value-index l.values)
