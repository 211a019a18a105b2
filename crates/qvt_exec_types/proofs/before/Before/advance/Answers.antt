use Rattle.qvt_types_nodes.specs.View.{typed_step_view}
use Rattle.qvt_types_program.specs.Program.{program_view}
use Rattle.qvt_exec_types.proofs.Slices.{told_next}
use Rattle.qvt_exec_types.specs.Types.{next_type}
use Rattle.qvt_exec_types.proofs.before.Before.advance.Goals as goal

pub invariant_of-self-then-self-upto : goal.invariant_of-self-then-self-upto
invariant_of-self-then-self-upto c =
    let s = c.if-upto-self.self in
    record {
      told = told_next (next_type (program_view s.program.now)) typed_step_view s.first.now s.steps.now s.next c.args.upto c.in_ok-ty.ty c.last.result.now c.between-steps.result.now
          c.if-self-upto.true c.last.ensures c.between-steps.ensures c.in_ok-ty.ensures;
    }
