use Rattle.std.proofs.Common.{◌≡◌, ◌+◌, drop, length, []}
use Rattle.qvt_run_rules.specs.Calls as rule
use Rattle.qvt_exec_state.specs.Runs.{seen}
use Rattle.qvt_exec_phrases.specs.Choice.{callee_by}
use Rattle.qvt_exec_phrases.proofs.mapped.mapped.Given as goal

abbrev pub invariant-loop-object : goal.invariant-loop-object
invariant-loop-object g l =
    (l.left + l.object-index ≡ length l.objects)
    × (rule.mapped_onto (g.C.UnitCalls.means l.units).calls l.how.place l.done (rule.call_on (g.C.UnitCalls.means l.units).calls (callee_by l.how) l.args l.how.place) (drop l.object-index l.objects) (seen l.state)
    ≡ rule.mapped_onto (g.C.UnitCalls.means l.units).calls l.how.place [] (rule.call_on (g.C.UnitCalls.means l.units).calls (callee_by l.how) l.fn.args l.how.place) l.objects (seen l.initial.state))
