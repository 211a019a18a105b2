use Rattle.std.proofs.Common.{◌∙◌, sym, subst}
use Rattle.qvt_types_above.specs.declared.above.Above.TheVariants.{Nothing}
use Rattle.qvt_types_above.specs.Own.{top_units}
use Rattle.qvt_types_above.specs.Tells.{AreOwn}
use Rattle.qvt_types_above.proofs.OwnTold.{own_are}
use Rattle.qvt_types_above.proofs.table.table_of.Goals as goal

pub made-requires : goal.made-requires
made-requires c =
    let m = c.args.metas.now in
    let us = c.args.units.now in
    let ns = c.args.group.now in
    subst (λ top. AreOwn m us ns c.as_slice.result.now top) (sym c.top_units.ensures)
    (subst (λ own. AreOwn m us ns own (top_units m us Nothing ns)) (sym (c.as_slice.ensures ∙ c.in_ok-own.ensures))
    (own_are m us (λ t u. (c.same_means_equal.ensures t u).0) c.are_well_formed.ensures.regular.transitive c.class_count.result ns))
