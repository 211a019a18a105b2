use Rattle.std.proofs.Common.{◌≡◌, map, drop}
use Rattle.qvt_tree_types.specs.Module.{param_view}
use Rattle.qvt_types_context.specs.Seen.{seen}
use Rattle.qvt_types_context.specs.Units.{params}
use Rattle.qvt_types_bodies.proofs.parts.params.Given as goal

abbrev pub invariant-loop-next : goal.invariant-loop-next
invariant-loop-next l = params (seen l.x) (map param_view (drop l.next-index l.list)) l.state ≡ params (seen l.x) (map param_view l.list) l.initial.state
