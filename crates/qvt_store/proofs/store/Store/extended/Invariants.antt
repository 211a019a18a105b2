use Rattle.std.proofs.Common.{◌≡◌, ◌++◌, take}
use Rattle.qvt_slots.specs.Contents.{slot_of}
use Rattle.qvt_store.proofs.store.Store.extended.Given as goal

abbrev pub invariant-loop-value : goal.invariant-loop-value
invariant-loop-value l = l.list ≡ slot_of l.self l.fn.object.0 l.fn.feature.0 ++ take l.value-index l.values
