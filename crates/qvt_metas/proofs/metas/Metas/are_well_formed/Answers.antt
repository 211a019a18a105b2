use Rattle.std.proofs.Common.{subst}
use Rattle.qvt_metamodel.specs.WellFormed.{IsWellFormed, IsRegular}
use Rattle.qvt_metamodel.proofs.Regular.{regular_of}
use Rattle.qvt_metas.proofs.metas.Metas.are_well_formed.Goals as goal

pub returns-clause-well_formed : goal.returns-clause-well_formed
returns-clause-well_formed c = subst IsWellFormed c.self.view_is c.self.invariant.kept.well_formed

pub returns-clause-regular : goal.returns-clause-regular
returns-clause-regular c = subst IsRegular c.self.view_is (regular_of _ c.self.invariant.kept.well_formed)
