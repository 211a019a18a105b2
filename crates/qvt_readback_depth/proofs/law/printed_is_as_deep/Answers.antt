use Rattle.qvt_readback_depth.proofs.Depth as law
use Rattle.qvt_readback_depth.proofs.law.printed_is_as_deep.Goals as goal

pub returns : goal.returns
returns c = law.printed_is_as_deep
