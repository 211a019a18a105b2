use Rattle.qvt_readback_trees.proofs.Shaped.{one_text}
use Rattle.qvt_readback_trees.proofs.law.one_text.Goals as goal

pub returns : goal.returns
returns c = one_text
