use Rattle.std.proofs.Common.{◌≡◌, ◌∙◌, sym, subst, List, true, false}
use Rattle.qvt_base.specs.declared.numbers.Oid.{Oid}
use Rattle.qvt_metamodel.specs.Metamodels.{is_containment}
use Rattle.qvt_metamodel.specs.WellFormed.{IsWellFormed}
use Rattle.qvt_slots.specs.Contents.{Contents}
use Rattle.qvt_store.specs.Draft.{drafted}
use Rattle.qvt_store.specs.Plan.{Plans, IsAroundSome}
use Rattle.qvt_store.proofs.Plans.{rehoused_items, rehoused_itself}
use Rattle.qvt_store.proofs.Cycles.{not_container}
use Rattle.qvt_store.proofs.store.Store.plan_containers.Goals as goal

pub returns-then-is_containment : goal.returns-then-is_containment
returns-then-is_containment c = rehoused_items c.args.self.now (drafted c.args.self.now c.args.draft.now) c.args.writes.now c.plan_around_each.new.writes
    (λ k. not_container c.args.self.now.metas (subst (λ (s : Contents). IsWellFormed s.metas) c.self.view_is c.self.invariant.whole.well_formed) c.args.draft.now.feature.0 k)
    (subst (λ (s : Contents). is_containment s.metas c.args.draft.now.feature.0 ≡ true) c.self.view_is (sym c.is_containment.ensures ∙ c.if-is_containment.true))
    (subst (λ (l : List Oid). Plans c.args.self.now (drafted c.args.self.now c.args.draft.now) c.args.writes.now c.plan_around_each.new.writes (IsAroundSome c.args.self.now l)) c.as_slice.ensures c.in_ok-plan_around_each.ensures)

pub returns-then-is_container : goal.returns-then-is_container
returns-then-is_container c = rehoused_itself c.args.self.now (drafted c.args.self.now c.args.draft.now) c.args.writes.now c.plan_around.new.writes
    (subst (λ (s : Contents). is_containment s.metas c.args.draft.now.feature.0 ≡ false) c.self.view_is (sym c.is_containment.ensures ∙ c.if-is_containment.false))
    c.in_ok-plan_around.ensures
