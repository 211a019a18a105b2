use Rattle.qvt_run_laws.proofs.Answering.{answers_fit}
use Rattle.qvt_run_laws.proofs.entries.answers_fit.Goals as goal

pub returns : goal.returns
returns c = answers_fit
