use Rattle.qvt_store_laws.proofs.SoundGrown.{new_is_sound}
use Rattle.qvt_store_laws.proofs.law.new_is_sound.Goals as goal

pub returns : goal.returns
returns c = new_is_sound
