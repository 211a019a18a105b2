use Rattle.qvt_store_laws.proofs.SoundGrown.{add_keeps_sound}
use Rattle.qvt_store_laws.proofs.law.add_keeps_sound.Goals as goal

pub returns : goal.returns
returns c = add_keeps_sound
