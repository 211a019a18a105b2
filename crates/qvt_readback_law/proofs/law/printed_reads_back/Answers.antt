use Rattle.qvt_readback_law.proofs.Back.{reads_back}
use Rattle.qvt_readback_law.proofs.law.printed_reads_back.Goals as goal

pub returns : goal.returns
returns c = reads_back c.parsing.ensures c.printed_is_lexed.ensures c.printed_is_read.ensures c.one_text.ensures c.printed_is_as_deep.ensures
