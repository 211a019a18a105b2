use Rattle.std.proofs.Common.{◌∙◌, ap, sym, subst, get_or, []}
use Rattle.qvt_types_above.specs.Asks.{guard_at}
use Rattle.qvt_types_above.specs.Tells.{AsksAll, IsGuard, AreGuarded}
use Rattle.qvt_types_above.proofs.AsksTold.{each_asks, guard_asks, put_stay}
use Rattle.qvt_types_above.proofs.asks.asks_listed.Goals as goal

pub returns-then-asks_guard-clause-asks : goal.returns-then-asks_guard-clause-asks
returns-then-asks_guard-clause-asks c =
    let m = c.args.metas.now in
    let us = c.args.units.now in
    λ yes. subst (AsksAll m us c.args.number) c.list_at-list.ensures
    (guard_asks m us (λ t u. (c.same_means_equal.ensures t u).0) c.are_well_formed.ensures.regular.transitive c.args.number c.list_at-list.result.now c.guard_at-guard.result
    (subst (λ ks. IsGuard m us ks c.guard_at-guard.result) (sym c.list_at-list.ensures)
    (subst (IsGuard m us (get_or c.args.lists.now c.args.place [])) (sym (c.guard_at-guard.ensures ∙ ap (λ gs. guard_at gs c.args.place) c.as_slice.ensures)) (c.requires c.args.place)))
    (sym c.asks_guard.ensures ∙ c.if-asks_guard.true))

pub guard_by-requires-clause-asks : goal.guard_by-requires-clause-asks
guard_by-requires-clause-asks c =
    each_asks c.args.metas.now c.args.units.now (λ t u. (c.same_means_equal.ensures t u).0) c.are_well_formed.ensures.regular.transitive c.args.number c.list_at-list.result.now
    (sym c.asks_each.ensures ∙ c.if-asks_each.true)

pub returns-then-asks_each-clause-asks : goal.returns-then-asks_each-clause-asks
returns-then-asks_each-clause-asks c =
    let m = c.args.metas.now in
    let us = c.args.units.now in
    λ yes. subst (AsksAll m us c.args.number) c.list_at-list.ensures
    (each_asks m us (λ t u. (c.same_means_equal.ensures t u).0) c.are_well_formed.ensures.regular.transitive c.args.number c.list_at-list.result.now
    (sym c.asks_each.ensures ∙ c.if-asks_each.true))

pub returns-then-asks_each-clause-guards : goal.returns-then-asks_each-clause-guards
returns-then-asks_each-clause-guards c =
    let m = c.args.metas.now in
    let us = c.args.units.now in
    subst (AreGuarded m us c.args.lists.now) (sym c.put_guard.ensures)
    (put_stay m us c.args.lists.now c.args.guards.now c.requires c.args.place c.guard_by.result (subst (λ ks. IsGuard m us ks c.guard_by.result) c.list_at-list.ensures c.guard_by.ensures))
