use Rattle.qvt_model.proofs.Whole.{model_of-model_text}
use Rattle.qvt_model.proofs.laws.written_is_read.Goals as goal

pub returns : goal.returns
returns c = model_of-model_text
