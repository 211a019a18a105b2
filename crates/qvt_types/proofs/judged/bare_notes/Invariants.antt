use Rattle.std.proofs.Common.{◌≡◌, drop}
use Rattle.qvt_types_program.specs.Accepts.{bare_notes}
use Rattle.qvt_types.proofs.judged.bare_notes.Given as goal

abbrev pub invariant-loop-node : goal.invariant-loop-node
invariant-loop-node g l = bare_notes (drop l._node-index l.nodes) l.state ≡ bare_notes l.nodes l.initial.state
