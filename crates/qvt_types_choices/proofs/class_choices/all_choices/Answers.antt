use Rattle.std.proofs.Common.{◌<◌, subst}
use Rattle.qvt_types_choices.proofs.ByClass.{own_known}
use Rattle.qvt_types_choices.proofs.class_choices.all_choices.Goals as goal

pub tell_all-requires-clause-known : goal.tell_all-requires-clause-known
tell_all-requires-clause-known c =
    own_known c.args.metas.now c.args.units.now c.are_well_formed.ensures.regular.antisymmetric c.ancestors_are_least.ensures c.args.group.now c.in_ok-known.known
    (λ x low. c.in_ok-known.ensures.own x (subst (λ n. x < n) c.in_ok-known.ensures.each low))
