use Rattle.std.proofs.Common.{◌≡◌, take}
use Rattle.std.specs.Prelude.{filter}
use Rattle.qvt_slots.specs.Change.{keeps}
use Rattle.qvt_store.specs.Draft.{drafted}
use Rattle.qvt_store.proofs.store.Store.kept.Given as goal

abbrev pub invariant-loop-value : goal.invariant-loop-value
invariant-loop-value l = l.list ≡ filter (keeps (drafted l.self l.draft) l.object.0 l.feature.0) (take l.value-index l.old)
