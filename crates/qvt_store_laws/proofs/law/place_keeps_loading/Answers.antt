use Rattle.qvt_store_laws.proofs.SoundGrown.{place_keeps_loading}
use Rattle.qvt_store_laws.proofs.law.place_keeps_loading.Goals as goal

pub returns : goal.returns
returns c = place_keeps_loading
