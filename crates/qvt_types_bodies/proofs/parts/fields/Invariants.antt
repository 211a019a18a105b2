use Rattle.std.proofs.Common.{◌≡◌, map, drop}
use Rattle.qvt_tree_types.specs.Module.{field_view}
use Rattle.qvt_types_context.specs.Seen.{seen}
use Rattle.qvt_types_context.specs.Units.{fields}
use Rattle.qvt_types_bodies.proofs.parts.fields.Given as goal

abbrev pub invariant-loop-next : goal.invariant-loop-next
invariant-loop-next l = fields (seen l.x) (map field_view (drop l.next-index l.list)) l.state ≡ fields (seen l.x) (map field_view l.list) l.initial.state
