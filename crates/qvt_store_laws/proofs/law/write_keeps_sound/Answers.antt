use Rattle.qvt_store_laws.proofs.SoundKept.{write_keeps_sound}
use Rattle.qvt_store_laws.proofs.law.write_keeps_sound.Goals as goal

pub returns : goal.returns
returns c = write_keeps_sound
