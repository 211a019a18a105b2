use Rattle.std.proofs.Common.{subst, List}
use Rattle.std.proofs.lemmas.List.{take_all}
use Rattle.qvt_value.specs.declared.value.Value.{Value}
use Rattle.qvt_store.specs.Draft.{drafted}
use Rattle.qvt_store.specs.Plan.{Plans, IsHeldSlot}
use Rattle.qvt_store.proofs.Plans.{values_more}
use Rattle.qvt_store.proofs.store.Store.plan_values.Goals as goal

pub loop-value-preserved : goal.loop-value-preserved
loop-value-preserved c = values_more c.args.self.now (drafted c.args.self.now c.args.draft.now) c.args.writes.now c.loop-value.writes c.plan_owner.new.writes
    c.args.values.now c.loop-value.value-index c.args.draft.now.feature.0 c.value-item.result c.loop-value-test.true c.value-item.is c.loop-value.invariant c.in_ok-plan_owner.ensures

pub returns : goal.returns
returns c = subst (λ (l : List Value). Plans c.args.self.now (drafted c.args.self.now c.args.draft.now) c.args.writes.now c.loop-value.writes (IsHeldSlot l c.args.draft.now.feature.0))
    (take_all c.loop-value.value-index c.args.values.now c.loop-value-test.false) c.loop-value.invariant
