use Rattle.std.proofs.Common.{sym, subst}
use Rattle.qvt_metas.specs.Search.{IsAcyclic}
use Rattle.qvt_types_choices.proofs.class_choices.class_order.Goals as goal

pub order_of-requires-clause-acyclic : goal.order_of-requires-clause-acyclic
order_of-requires-clause-acyclic c = subst IsAcyclic (sym c.class_infos.ensures) c.are_well_formed.ensures.regular.acyclic
