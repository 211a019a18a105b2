use Rattle.qvt_parsed_laws.proofs.Written.{simple_go_on}
use Rattle.qvt_parsed_laws.proofs.law.written.Goals as goal

pub returns : goal.returns
returns c = simple_go_on
