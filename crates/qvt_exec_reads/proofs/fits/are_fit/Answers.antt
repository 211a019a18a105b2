use Rattle.qvt_exec_reads.proofs.Fitting.{fit}
use Rattle.qvt_exec_reads.proofs.fits.are_fit.Goals as goal

pub returns-clause-value : goal.returns-clause-value
returns-clause-value c = fit c.args.store.now c.args.object.0 c.args.feature.0 c.args.values.now c.can_assign-can.result c.can_assign-can.ensures.assignable c.can_assign-can.ensures.full
