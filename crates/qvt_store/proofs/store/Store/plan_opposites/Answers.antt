use Rattle.std.proofs.Common.{◌≡◌, ◌∙◌, sym, subst, List}
use Rattle.std.specs.Prelude.{Some}
use Rattle.qvt_base.specs.declared.numbers.Oid.{Oid}
use Rattle.qvt_metamodel.specs.Metamodels.{opposite}
use Rattle.qvt_slots.specs.Contents.{Contents}
use Rattle.qvt_store.specs.Draft.{drafted}
use Rattle.qvt_store.specs.Plan.{Plans, IsSlotOfSome, IsOwnerSlot}
use Rattle.qvt_store.proofs.Plans.{opposed_all, one_opposite}
use Rattle.qvt_store.proofs.store.Store.plan_opposites.Goals as goal

pub returns-in_ok-plan_owners-in-Some : goal.returns-in_ok-plan_owners-in-Some
returns-in_ok-plan_owners-in-Some c =
    opposed_all c.args.self.now (drafted c.args.self.now c.args.draft.now) c.args.writes.now c.plan_each.new.writes c.plan_each-in-Some.new.writes c.plan_owners.new.writes c.in-Some.back.0
    (one_opposite c.args.self.now.metas c.args.draft.now.feature.0 c.in-Some.back
    (subst (λ (s : Contents). opposite s.metas c.args.draft.now.feature.0 ≡ Some c.in-Some.back) c.self.view_is (sym c.opposite.ensures ∙ c.in-Some.is)))
    (subst (λ (l : List Oid). Plans c.args.self.now (drafted c.args.self.now c.args.draft.now) c.args.writes.now c.plan_each.new.writes (IsSlotOfSome l c.in-Some.back.0)) c.as_slice.ensures c.in_ok-plan_each-in-Some.ensures)
    (subst (λ (l : List Oid). Plans c.args.self.now (drafted c.args.self.now c.args.draft.now) c.plan_each.new.writes c.plan_each-in-Some.new.writes (IsSlotOfSome l c.in-Some.back.0)) c.as_slice-in-Some.ensures c.in_ok-plan_each-in-Some-2.ensures)
    (subst (λ (l : List Oid). Plans c.args.self.now (drafted c.args.self.now c.args.draft.now) c.plan_each-in-Some.new.writes c.plan_owners.new.writes (IsOwnerSlot c.args.self.now l c.in-Some.back.0 c.args.draft.now.feature.0)) c.as_slice-in-Some-2.ensures c.in_ok-plan_owners-in-Some.ensures)
