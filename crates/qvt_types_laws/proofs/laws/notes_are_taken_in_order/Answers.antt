use Rattle.qvt_types_laws.proofs.KeptModule.{kept_module}
use Rattle.qvt_types_laws.proofs.laws.notes_are_taken_in_order.Goals as goal

pub returns : goal.returns
returns c = λ m. kept_module m
