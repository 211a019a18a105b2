use Rattle.qvt_meta.proofs.HasName.{meta_has_name}
use Rattle.qvt_meta.proofs.law.meta_has_name.Goals as goal

pub returns : goal.returns
returns c = meta_has_name
