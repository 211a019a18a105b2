use Rattle.qvt_model.proofs.Extents.{model_of-data_of}
use Rattle.qvt_model.proofs.laws.extent_is_read.Goals as goal

pub returns : goal.returns
returns c = model_of-data_of
