use Rattle.std.proofs.Common.{◌≡◌, drop}
use Rattle.std.specs.Option.{option_copied}
use Rattle.qvt_run_rules.specs.Iterators as each
use Rattle.qvt_exec_leaves.specs.Runs.{seen}
use Rattle.qvt_exec_invocations.specs.Means.{expr_of}
use Rattle.qvt_exec_steps.proofs.iterators.iterate_from.Given as goal

abbrev pub invariant-loop-item : goal.invariant-loop-item
invariant-loop-item g l =
    each.iterate_from (option_copied l.it.name) l.accumulator (expr_of (l.x, g.C.UnitCalls.means l.units) l.body) l.so_far (drop l.item-index l.items) (seen l.state)
    ≡ each.iterate_from (option_copied l.it.name) l.accumulator (expr_of (l.x, g.C.UnitCalls.means l.units) l.body) l.fn.first l.items (seen l.initial.state)
