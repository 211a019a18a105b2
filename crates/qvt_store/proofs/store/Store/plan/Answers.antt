use Rattle.std.proofs.Common.{refl, sym, subst, List}
use Rattle.qvt_metamodel.specs.WellFormed.{IsWellFormed}
use Rattle.qvt_slots.specs.declared.commit.Write.{Write}
use Rattle.qvt_slots.specs.Contents.{Contents}
use Rattle.qvt_store.specs.Draft.{drafted}
use Rattle.qvt_store.specs.Plan.{IsPlan, Plans, IsOpposed}
use Rattle.qvt_store.proofs.Untouched.{plan_is}
use Rattle.qvt_store.proofs.store.Store.plan.Goals as goal

pub returns : goal.returns
returns c = subst (λ (ws : List Write). IsPlan c.args.self.now (drafted c.args.self.now c.args.draft.now) ws) (sym c.into_vec.ensures)
    (plan_is c.args.self.now (drafted c.args.self.now c.args.draft.now) refl refl (subst (λ (s : Contents). IsWellFormed s.metas) c.self.view_is c.self.invariant.whole.well_formed)
    c.plan_opposites.new.writes c.plan_containers.new.writes
    (subst (λ (ws : List Write). Plans c.args.self.now (drafted c.args.self.now c.args.draft.now) ws c.plan_opposites.new.writes (IsOpposed c.args.self.now (drafted c.args.self.now c.args.draft.now))) c.new-writes.ensures c.in_ok-plan_opposites.ensures)
    c.in_ok-plan_containers.ensures)
