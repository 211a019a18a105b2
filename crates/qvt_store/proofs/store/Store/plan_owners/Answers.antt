use Rattle.std.proofs.Common.{subst, List}
use Rattle.std.proofs.lemmas.List.{take_all}
use Rattle.qvt_base.specs.declared.numbers.Oid.{Oid}
use Rattle.qvt_value.specs.declared.value.Value.{Value}
use Rattle.qvt_store.specs.Draft.{drafted}
use Rattle.qvt_store.specs.Plan.{Plans, IsHeldSlot, IsOwnerSlot}
use Rattle.qvt_store.proofs.Plans.{owners_more}
use Rattle.qvt_store.proofs.store.Store.plan_owners.Goals as goal

pub loop-object-preserved : goal.loop-object-preserved
loop-object-preserved c = owners_more c.args.self.now (drafted c.args.self.now c.args.draft.now) c.args.writes.now c.loop-object.writes c.plan_values.new.writes
    c.args.objects.now c.loop-object.object-index c.args.opposite.0 c.args.draft.now.feature.0 (record { 0 = 0 }) c.loop-object-test.true c.loop-object.invariant
    (subst (λ (l : List Value). Plans c.args.self.now (drafted c.args.self.now c.args.draft.now) c.loop-object.writes c.plan_values.new.writes (IsHeldSlot l c.args.draft.now.feature.0)) c.list-owners.ensures c.in_ok-plan_values.ensures)

pub returns : goal.returns
returns c = subst (λ (l : List Oid). Plans c.args.self.now (drafted c.args.self.now c.args.draft.now) c.args.writes.now c.loop-object.writes (IsOwnerSlot c.args.self.now l c.args.opposite.0 c.args.draft.now.feature.0))
    (take_all c.loop-object.object-index c.args.objects.now c.loop-object-test.false) c.loop-object.invariant
