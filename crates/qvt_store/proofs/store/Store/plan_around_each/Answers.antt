use Rattle.std.proofs.Common.{subst, List}
use Rattle.std.proofs.lemmas.List.{take_all}
use Rattle.qvt_base.specs.declared.numbers.Oid.{Oid}
use Rattle.qvt_store.specs.Draft.{drafted}
use Rattle.qvt_store.specs.Plan.{Plans, IsAroundSome}
use Rattle.qvt_store.proofs.Plans.{around_more}
use Rattle.qvt_store.proofs.store.Store.plan_around_each.Goals as goal

pub loop-object-preserved : goal.loop-object-preserved
loop-object-preserved c = around_more c.args.self.now (drafted c.args.self.now c.args.draft.now) c.args.writes.now c.loop-object.writes c.plan_around.new.writes
    c.args.objects.now c.loop-object.object-index (record { 0 = 0 }) c.loop-object-test.true c.loop-object.invariant c.in_ok-plan_around.ensures

pub returns : goal.returns
returns c = subst (λ (l : List Oid). Plans c.args.self.now (drafted c.args.self.now c.args.draft.now) c.args.writes.now c.loop-object.writes (IsAroundSome c.args.self.now l))
    (take_all c.loop-object.object-index c.args.objects.now c.loop-object-test.false) c.loop-object.invariant
