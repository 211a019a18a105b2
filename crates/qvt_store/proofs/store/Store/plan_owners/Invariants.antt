use Rattle.std.proofs.Common.{take}
use Rattle.qvt_store.specs.Draft.{drafted}
use Rattle.qvt_store.specs.Plan.{Plans, IsOwnerSlot}
use Rattle.qvt_store.proofs.store.Store.plan_owners.Given as goal

abbrev pub invariant-loop-object : goal.invariant-loop-object
invariant-loop-object l = Plans l.self (drafted l.self l.draft) l.fn.writes l.writes (IsOwnerSlot l.self (take l.object-index l.objects) l.opposite.0 l.draft.feature.0)
