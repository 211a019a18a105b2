use Rattle.qvt_exec_reads.proofs.Fitting.{class_for}
use Rattle.qvt_exec_reads.proofs.fits.is_class_for.Goals as goal

pub returns-clause-value : goal.returns-clause-value
returns-clause-value c = class_for c.args.store.now c.args.class.0 c.args.extent c.is_class_for-can.result c.is_class_for-can.ensures.class c.is_class_for-can.ensures.full
