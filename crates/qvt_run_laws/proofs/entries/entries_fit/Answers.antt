use Rattle.qvt_run_laws.proofs.Answering.{entries_fit}
use Rattle.qvt_run_laws.proofs.entries.entries_fit.Goals as goal

pub returns : goal.returns
returns c = entries_fit
