use Rattle.std.proofs.Common.{◌≡◌, take}
use Rattle.std.specs.Prelude.{filter}
use Rattle.qvt_slots.specs.Contents.{slot_of}
use Rattle.qvt_store.specs.Ready.{is_absent}
use Rattle.qvt_store.proofs.store.Store.absent.Given as goal

abbrev pub invariant-loop-value : goal.invariant-loop-value
invariant-loop-value l = l.list ≡ filter (is_absent (slot_of l.self l.object.0 l.feature.0)) (take l.value-index l.values)
