use Rattle.qvt_written.proofs.Written.{written_conforms}
use Rattle.qvt_written.proofs.laws.written_conforms.Goals as goal

pub returns : goal.returns
returns c = written_conforms
