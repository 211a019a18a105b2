use Rattle.std.proofs.Common.{sym}
use Rattle.qvt_exec_moves.specs.Appended.{IsSequence, IsSequenceAt}
use Rattle.qvt_exec_moves.proofs.Appended.{if_some}
use Rattle.qvt_exec_moves.proofs.assignments.sequence_at.Goals as goal

pub returns-in-Some : goal.returns-in-Some
returns-in-Some c =
    if_some (λ parts. IsSequence c.in-Some.held.now parts.0.now parts.1.now) (λ parts. IsSequenceAt c.args.locals.now c.args.at parts.0.now parts.1.now) c.sequence_in.result
    (λ parts h. (c.in-Some.held.now, sym c.in-Some.ensures.value, h)) c.sequence_in.ensures
