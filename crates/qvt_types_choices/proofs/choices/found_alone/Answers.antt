use Rattle.std.proofs.Common.{◌∙◌, sym}
use Rattle.qvt_types_choices.proofs.Chosen.{alone_found}
use Rattle.qvt_types_choices.proofs.choices.found_alone.Goals as goal

pub returns-then-descends : goal.returns-then-descends
returns-then-descends c =
    alone_found c.args.metas.now c.args.units.now c.are_well_formed.ensures.regular.transitive c.args.number c.args.class.0 c.context_at.result c.in-Known.above.0
    c.context_at.ensures c.in-Known.is (sym c.descends.ensures ∙ c.if-descends.true)
