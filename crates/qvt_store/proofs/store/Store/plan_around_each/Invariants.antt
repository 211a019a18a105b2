use Rattle.std.proofs.Common.{take}
use Rattle.qvt_store.specs.Draft.{drafted}
use Rattle.qvt_store.specs.Plan.{Plans, IsAroundSome}
use Rattle.qvt_store.proofs.store.Store.plan_around_each.Given as goal

abbrev pub invariant-loop-object : goal.invariant-loop-object
invariant-loop-object l = Plans l.self (drafted l.self l.draft) l.fn.writes l.writes (IsAroundSome l.self (take l.object-index l.objects))
