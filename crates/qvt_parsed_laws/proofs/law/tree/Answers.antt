use Rattle.qvt_parsed_laws.proofs.Within.{lies_in_text}
use Rattle.qvt_parsed_laws.proofs.law.tree.Goals as goal

pub returns : goal.returns
returns c = lies_in_text
