use Rattle.std.proofs.Common.{◌≡◌, map, drop}
use Rattle.qvt_tree_types.specs.Module.{unit_view}
use Rattle.qvt_types_context.specs.Seen.{heads_seen}
use Rattle.qvt_types_context.specs.Units.{units}
use Rattle.qvt_types_bodies.proofs.units.all_units.Given as goal

abbrev pub invariant-loop-next : goal.invariant-loop-next
invariant-loop-next l = units (heads_seen l.heads) l.number (map unit_view (drop l.next-index l.list)) l.state ≡ units (heads_seen l.heads) 0 (map unit_view l.list) l.initial.state
