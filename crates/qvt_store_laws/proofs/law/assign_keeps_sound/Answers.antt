use Rattle.qvt_store_laws.proofs.SoundKept.{assign_keeps_sound}
use Rattle.qvt_store_laws.proofs.law.assign_keeps_sound.Goals as goal

pub returns : goal.returns
returns c = assign_keeps_sound
