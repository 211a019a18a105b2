use Rattle.qvt_typed_laws.proofs.Bodies.{taken}
use Rattle.qvt_typed_laws.proofs.laws.notes_are_of_nodes.Goals as goal

pub returns : goal.returns
returns c = λ m t rest. taken m t rest
