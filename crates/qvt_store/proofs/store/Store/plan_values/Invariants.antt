use Rattle.std.proofs.Common.{take}
use Rattle.qvt_store.specs.Draft.{drafted}
use Rattle.qvt_store.specs.Plan.{Plans, IsHeldSlot}
use Rattle.qvt_store.proofs.store.Store.plan_values.Given as goal

abbrev pub invariant-loop-value : goal.invariant-loop-value
invariant-loop-value l = Plans l.self (drafted l.self l.draft) l.fn.writes l.writes (IsHeldSlot (take l.value-index l.values) l.draft.feature.0)
