use Rattle.qvt_run_laws.proofs.Fitting.{requests_fit}
use Rattle.qvt_run_laws.proofs.entries.requests_fit.Goals as goal

pub returns : goal.returns
returns c = requests_fit
