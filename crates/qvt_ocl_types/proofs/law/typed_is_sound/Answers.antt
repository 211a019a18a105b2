use Rattle.qvt_ocl_types.proofs.Sound.{sound}
use Rattle.qvt_ocl_types.proofs.law.typed_is_sound.Goals as goal

pub returns : goal.returns
returns c = sound
