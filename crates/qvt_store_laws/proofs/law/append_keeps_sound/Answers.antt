use Rattle.qvt_store_laws.proofs.SoundKept.{append_keeps_sound}
use Rattle.qvt_store_laws.proofs.law.append_keeps_sound.Goals as goal

pub returns : goal.returns
returns c = append_keeps_sound
