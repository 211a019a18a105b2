use Rattle.std.proofs.Common.{◌≡◌, map, drop}
use Rattle.qvt_types_nodes.specs.View.{typed_step_view}
use Rattle.qvt_run_rules.specs.Expressions as rule
use Rattle.qvt_exec_types.specs.Post.{post_of}
use Rattle.qvt_exec_leaves.specs.Runs.{seen}
use Rattle.qvt_exec_invocations.specs.Means.{program_of, steps_of}
use Rattle.qvt_exec_steps.proofs.steps.steps_from.Given as goal

abbrev pub invariant-loop-index : goal.invariant-loop-index
invariant-loop-index g l =
    (post_of l.before ≡ record { program = program_of (l.x, g.C.UnitCalls.means l.units); first = l.first; steps = map typed_step_view l.all })
    × (rule.along l.value (drop l.index (steps_of (l.x, g.C.UnitCalls.means l.units) l.first l.all)) (seen l.state) ≡ rule.along l.fn.value (drop l.from (steps_of (l.x, g.C.UnitCalls.means l.units) l.first l.all)) (seen l.initial.state))
