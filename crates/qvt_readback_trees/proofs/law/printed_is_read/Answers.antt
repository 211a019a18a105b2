use Rattle.qvt_readback_trees.proofs.Printed.{printed_is_read}
use Rattle.qvt_readback_trees.proofs.law.printed_is_read.Goals as goal

pub returns : goal.returns
returns c = printed_is_read
