use Rattle.std.proofs.Common.{◌≡◌, List, None, subst}
use Rattle.qvt_metamodel.specs.declared.declared.MetaData.{MetaData}
use Rattle.qvt_metamodel.specs.declared.given.ClassData.{ClassData}
use Rattle.qvt_metamodel.specs.Metamodels.{Metamodels}
use Rattle.qvt_metamodel.specs.Added.{added}
use Rattle.qvt_metamodel.specs.Extended.{extended}
use Rattle.qvt_metamodel.specs.Stay.{NumbersStay}
use Rattle.qvt_metas.proofs.GoesOn.{added_stays}
use Rattle.qvt_metas.proofs.Extends.{extended_stays}
use Rattle.qvt_metas.proofs.metas.Metas.numbers_stay.Goals as goal

pub returns-clause-added : goal.returns-clause-added
returns-clause-added c = subst (λ (m : Metamodels). (d : MetaData) → NumbersStay m (added m d)) c.self.view_is (added_stays _ _ c.self.invariant.kept.well_formed c.self.invariant.kept.ranked)

pub returns-clause-extended : goal.returns-clause-extended
returns-clause-extended c = subst (λ (m : Metamodels). m.element ≡ None → (cs : List ClassData) → NumbersStay m (extended m cs)) c.self.view_is
    (λ alone cs. extended_stays _ cs _ c.self.invariant.kept.well_formed c.self.invariant.kept.ranked alone)
