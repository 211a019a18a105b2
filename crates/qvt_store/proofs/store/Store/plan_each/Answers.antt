use Rattle.std.proofs.Common.{subst, List}
use Rattle.std.proofs.lemmas.List.{take_all}
use Rattle.qvt_base.specs.declared.numbers.Oid.{Oid}
use Rattle.qvt_store.specs.Draft.{drafted}
use Rattle.qvt_store.specs.Plan.{Plans, IsSlotOfSome}
use Rattle.qvt_store.proofs.Plans.{each_more}
use Rattle.qvt_store.proofs.store.Store.plan_each.Goals as goal

pub loop-object-preserved : goal.loop-object-preserved
loop-object-preserved c = each_more c.args.self.now (drafted c.args.self.now c.args.draft.now) c.args.writes.now c.loop-object.writes c.plan_slot.new.writes
    c.args.objects.now c.loop-object.object-index c.args.feature.0 (record { 0 = 0 }) c.loop-object-test.true c.loop-object.invariant c.in_ok-plan_slot.ensures

pub returns : goal.returns
returns c = subst (λ (l : List Oid). Plans c.args.self.now (drafted c.args.self.now c.args.draft.now) c.args.writes.now c.loop-object.writes (IsSlotOfSome l c.args.feature.0))
    (take_all c.loop-object.object-index c.args.objects.now c.loop-object-test.false) c.loop-object.invariant
