use Rattle.qvt_readback_tokens.proofs.Printing as law
use Rattle.qvt_readback_tokens.proofs.law.printed_is_lexed.Goals as goal

pub returns : goal.returns
returns c = law.printed_is_lexed
