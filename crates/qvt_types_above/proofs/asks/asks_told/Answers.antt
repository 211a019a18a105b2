use Rattle.std.proofs.Common.{◌∙◌, refl, sym, subst}
use Rattle.qvt_metamodel.proofs.Bools.{and_both}
use Rattle.qvt_types_above.specs.Covers.{covers_at}
use Rattle.qvt_types_above.specs.Tells.{AsksTold}
use Rattle.qvt_types_above.proofs.AsksTold.{one_asks, two_ask}
use Rattle.qvt_types_above.proofs.asks.asks_told.Goals as goal

pub returns-in-Least-clause-asks : goal.returns-in-Least-clause-asks
returns-in-Least-clause-asks c =
    let m = c.args.metas.now in
    let us = c.args.units.now in
    λ yes. subst (AsksTold m us c.args.lists.now c.args.number) (sym c.in-Least.is)
    (refl, one_asks m us (λ t u. (c.same_means_equal.ensures t u).0) c.are_well_formed.ensures.regular.transitive c.args.number c.in-Least.least (sym c.covers_at.ensures ∙ yes))

pub returns-then-covers_at-clause-asks : goal.returns-then-covers_at-clause-asks
returns-then-covers_at-clause-asks c =
    let m = c.args.metas.now in
    let us = c.args.units.now in
    λ yes. subst (AsksTold m us c.args.lists.now c.args.number) (sym c.in-Both.is) (
      refl,
      two_ask m us (λ t u. (c.same_means_equal.ensures t u).0) c.are_well_formed.ensures.regular.transitive c.args.number c.in-Both.first c.in-Both.second
          (and_both (covers_at m us c.args.number c.in-Both.first) (covers_at m us c.args.number c.in-Both.second)
          (sym c.covers_at-in-Both.ensures ∙ c.if-covers_at.true) (sym c.covers_at-then-covers_at.ensures ∙ yes)),
    )
