use Rattle.std.proofs.Common.{◌∙◌, sym, ap, subst, slice_index_or}
use Rattle.qvt_metas.specs.Metamodels.{nowhere_class}
use Rattle.qvt_types_above.specs.Tells.{IsAboveTable}
use Rattle.qvt_types_above.proofs.TableTold.{class_tells}
use Rattle.qvt_types_above.proofs.table.tell_class.Goals as goal

pub returns : goal.returns
returns c =
    let making = c.args.making.now in
    let has = c.or_listed.new.table in
    subst (λ row. IsAboveTable making.metas.now making.units.now making.group.now (record { row = row; lists = has.lists; guards = has.guards })) (sym c.tell.ensures)
    (class_tells making.metas.now making.units.now making.group.now (λ t u. (c.same_means_equal.ensures t u).0) c.are_well_formed.ensures.regular.transitive c.ancestors_are_least.ensures
    making.own.now making.top c.requires.own c.args.table.now c.told_by-short.new.table has c.args.class c.told_by-short.result c.in_ok-told.told c.requires.table
    c.told_by-short.ensures.table c.base_of-base.result c.supers_at-supers.result.now
    (c.supers_at-supers.ensures ∙ ap (λ ks. (slice_index_or ks c.args.class nowhere_class).supers) c.class_infos.ensures)
    c.base_of-base.ensures c.told_by-short.ensures.told c.in_ok-told.ensures)
