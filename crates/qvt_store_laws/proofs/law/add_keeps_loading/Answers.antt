use Rattle.qvt_store_laws.proofs.SoundGrown.{add_keeps_loading}
use Rattle.qvt_store_laws.proofs.law.add_keeps_loading.Goals as goal

pub returns : goal.returns
returns c = add_keeps_loading
